-- Clash: it is symmetric, no fact clashes with itself, and a fact that is alone clashes with none.
use Prim.Native.Nat.{ℕ}
use mathlib.Core.Path.{◌≡◌, ap}
use mathlib.Core.Bool.{true, false, not, ◌&&◌}
use mathlib.Core.Logic.{◌↔◌}
use borrow.Author.Tests.{not-true}
use Rattle.site.specs.declared.fact.Fact.{Fact}
use Rattle.site.specs.Kinds.{Site}
use Rattle.site.proofs.Lists.{and_left, and_right, and_both, is_false, true_not_false, same_test}
use Rattle.rules.specs.Lawful.{Lawful}
use Rattle.steps.specs.Tables.{Follows, follows_of}
use Rattle.steps.specs.Decides.{Decides}
use Rattle.steps.proofs.Decided.{decides}
use Rattle.clashes.specs.Marks.{alone, contradict, clash}
use Rattle.clashes.proofs.OfTypes.{contradict_against, against_contradict, against_turned, against_alone}

module _ (ρ : ℕ → ℕ) (t : Follows) (f g : Fact) where
  -- "Clash of two facts, neither alone"
  pub record Clash : Type 0 where
    pub first_not_alone : alone ρ t f ≡ false
    pub second_not_alone : alone ρ t g ≡ false
    pub contradicts : contradict ρ t f g ≡ true

  pub clash_is : (clash ρ t f g ≡ true) ↔ Clash
  unfolding clash
  clash_is = (said, unsaid)
    where
      said : (not (alone ρ t f) && not (alone ρ t g) && contradict ρ t f g) ≡ true → Clash
      said h =
          let both = and_left (not (alone ρ t f) && not (alone ρ t g)) _ h in
          record {
            first_not_alone = not-true _ (and_left (not (alone ρ t f)) _ both);
            second_not_alone = not-true _ (and_right (not (alone ρ t f)) _ both);
            contradicts = and_right (not (alone ρ t f) && not (alone ρ t g)) _ h;
          }

      unsaid : Clash → (not (alone ρ t f) && not (alone ρ t g) && contradict ρ t f g) ≡ true
      unsaid c = and_both _ _ (and_both _ _ (ap not c.first_not_alone) (ap not c.second_not_alone)) c.contradicts

  -- a fact that is alone clashes with none
  pub alone_clashes_none : alone ρ t f ≡ true → clash ρ t f g ≡ false
  alone_clashes_none e = is_false (λ h. true_not_false e (clash_is.0 h).first_not_alone)

  -- and none with it
  pub none_clashes_alone : alone ρ t g ≡ true → clash ρ t f g ≡ false
  none_clashes_alone e = is_false (λ h. true_not_false e (clash_is.0 h).second_not_alone)

module _ (ρ : ℕ → ℕ) (s : Site) (t : Follows) (d : Decides s t) where
  turned_contradict : (f g : Fact) → contradict ρ t f g ≡ true → contradict ρ t g f ≡ true
  turned_contradict f g h = against_contradict ρ s t d (against_turned (contradict_against ρ s t d f g h))

  turned_clash : (f g : Fact) → clash ρ t f g ≡ true → clash ρ t g f ≡ true
  turned_clash f g h =
      let c = (clash_is ρ t f g).0 h in
      (clash_is ρ t g f).1
      (record {
        first_not_alone = c.second_not_alone;
        second_not_alone = c.first_not_alone;
        contradicts = turned_contradict f g c.contradicts;
      })

  -- two facts contradict each other
  pub contradict_symmetric : (f g : Fact) → contradict ρ t f g ≡ contradict ρ t g f
  contradict_symmetric f g = same_test _ _ (turned_contradict f g) (turned_contradict g f)

  -- two facts clash with each other
  pub clash_symmetric : (f g : Fact) → clash ρ t f g ≡ clash ρ t g f
  clash_symmetric f g = same_test _ _ (turned_clash f g) (turned_clash g f)

  -- no fact clashes with itself
  pub clash_irreflexive : (f : Fact) → clash ρ t f f ≡ false
  clash_irreflexive f =
      is_false
      (λ h.
      let c = (clash_is ρ t f f).0 h in
      true_not_false (against_alone ρ s t d (contradict_against ρ s t d f f c.contradicts)) c.first_not_alone)

-- the same by the tables of lawful rules
module _ (ρ : ℕ → ℕ) (s : Site) (law : Lawful s) where
  pub clash_symmetric_of : (f g : Fact) → clash ρ (follows_of s) f g ≡ clash ρ (follows_of s) g f
  clash_symmetric_of = clash_symmetric ρ s (follows_of s) (decides s law)

  pub clash_irreflexive_of : (f : Fact) → clash ρ (follows_of s) f f ≡ false
  clash_irreflexive_of = clash_irreflexive ρ s (follows_of s) (decides s law)
