-- What marks 1 and 2 mean in worlds: a fact is alone exactly if it has no world by itself, and two facts clash exactly if each has one and both
-- together have none.
use Prim.Native.Nat.{ℕ, ◌<◌}
use mathlib.Core.Path.{◌≡◌, refl, subst}
use mathlib.Core.Bool.{true, false}
use mathlib.Core.Logic.{◌↔◌, ◌⊎◌, inl, inr}
use mathlib.Core.List.{List, [], ◌∷◌, Memᴰ}
use lib.ListN.{length}
use native.Mathlib.Omega.{arith}
use Rattle.site.specs.declared.fact.Fact.{Fact}
use Rattle.site.specs.Kinds.{Site}
use Rattle.site.proofs.Lists.{either, is_false, true_not_false, get_or_within}
use Rattle.rules.specs.Lawful.{Lawful}
use Rattle.steps.specs.Tables.{Follows}
use Rattle.steps.specs.Decides.{Decides}
use Rattle.clashes.specs.Marks.{alone, contradict, clash, mark, partner}
use Rattle.clashes.proofs.OfClash.{clash_is}
use Rattle.clashes.proofs.OfMarks.{mark_1}
use Rattle.clashes.proofs.OfPartners.{lowest_clash}
use Rattle.clashes.proofs.OfTypes.{Against, contradict_against, against_contradict, alone_against, against_alone}
use Rattle.worlds.specs.Worlds.{Consistent, Conflict, LowestConflict}
use Rattle.worlds.proofs.OfLists.{Within, within_cons, within_nil}
use Rattle.worlds.proofs.Told.{Peaceful, peaceful_nil, peaceful_cons}
use Rattle.worlds.proofs.Consistency.{AllFit, consistent_peaceful, peaceful_consistent}

module _ (ρ : ℕ → ℕ) (s : Site) (t : Follows) (law : Lawful s) (d : Decides s t) (facts : List Fact) (fit : AllFit s facts) where
  -- one fact
  no_world : (f : Fact) → Memᴰ f facts → alone ρ t f ≡ true → Consistent ρ s (f ∷ []) → ⊥
  no_world f m e c =
      consistent_peaceful ρ s t law d facts fit (f ∷ []) (within_cons m within_nil) c f f (Memᴰ.head refl) (Memᴰ.head refl) (alone_against ρ s t d f e)

  peaceful_one : (f : Fact) → alone ρ t f ≡ false → Peaceful ρ s (f ∷ [])
  peaceful_one f e = peaceful_cons (λ a. true_not_false (against_alone ρ s t d a) e) (λ x z. elim z [ ]) peaceful_nil

  one_world : (f : Fact) → Memᴰ f facts → alone ρ t f ≡ false → Consistent ρ s (f ∷ [])
  one_world f m e = peaceful_consistent ρ s t law d facts fit (f ∷ []) (within_cons m within_nil) (peaceful_one f e)

  not_alone : (f : Fact) → Memᴰ f facts → Consistent ρ s (f ∷ []) → alone ρ t f ≡ false
  not_alone f m c = is_false (λ e. no_world f m e c)

  -- "Alone" is having no world
  pub alone_worldless : (f : Fact) → Memᴰ f facts → (mark ρ t facts f ≡ 1) ↔ (Consistent ρ s (f ∷ []) → ⊥)
  alone_worldless f m = (λ e. no_world f m ((mark_1 ρ t facts f).0 e), λ none. (mark_1 ρ t facts f).1 (by_test none (either (alone ρ t f))))
    where
      by_test : (Consistent ρ s (f ∷ []) → ⊥) → (alone ρ t f ≡ true) ⊎ (alone ρ t f ≡ false) → alone ρ t f ≡ true
      by_test none (inl e) = e
      by_test none (inr e) = absurd (none (one_world f m e))

  -- two facts
  module _ (f g : Fact) (m : Memᴰ f facts) (k : Memᴰ g facts) where
    abbrev both_within : Within (f ∷ g ∷ []) facts
    both_within = within_cons m (within_cons k within_nil)

    clash_conflict : clash ρ t f g ≡ true → Conflict ρ s f g
    clash_conflict e =
        let c = (clash_is ρ t f g).0 e in
        record {
          first = one_world f m c.first_not_alone;
          second = one_world g k c.second_not_alone;
          both = λ w.
              consistent_peaceful ρ s t law d facts fit (f ∷ g ∷ []) both_within w f g (Memᴰ.head refl) (Memᴰ.tail (Memᴰ.head refl))
              (contradict_against ρ s t d f g c.contradicts);
        }

    -- two that do not contradict each other have a world together
    together : alone ρ t f ≡ false → alone ρ t g ≡ false → contradict ρ t f g ≡ false → Consistent ρ s (f ∷ g ∷ [])
    together quiet-f quiet-g none =
        peaceful_consistent ρ s t law d facts fit (f ∷ g ∷ []) both_within
        (peaceful_cons (λ a. true_not_false (against_alone ρ s t d a) quiet-f) others (peaceful_one g quiet-g))
      where
        others : (x : Fact) → Memᴰ x (g ∷ []) → Against ρ s f x → ⊥
        others x (Memᴰ.head e) a = true_not_false (against_contradict ρ s t d (subst (λ (z : Fact). Against ρ s f z) e a)) none
        others x (Memᴰ.tail z) a = elim z [ ]

    conflict_clash : Conflict ρ s f g → clash ρ t f g ≡ true
    conflict_clash c =
        let quiet-f = not_alone f m c.first in
        let quiet-g = not_alone g k c.second in
        (clash_is ρ t f g).1 (record { first_not_alone = quiet-f; second_not_alone = quiet-g; contradicts = by_test quiet-f quiet-g (either (contradict ρ t f g)) })
      where
        by_test : alone ρ t f ≡ false → alone ρ t g ≡ false → (contradict ρ t f g ≡ true) ⊎ (contradict ρ t f g ≡ false) → contradict ρ t f g ≡ true
        by_test quiet-f quiet-g (inl e) = e
        by_test quiet-f quiet-g (inr e) = absurd (c.both (together quiet-f quiet-g e))

  -- the partner is the lowest-numbered fact that it is in conflict with
  pub partner_conflict : (f : Fact) → Memᴰ f facts → mark ρ t facts f ≡ 2 → LowestConflict ρ s facts f (partner ρ t facts f)
  partner_conflict f m e =
      let l = lowest_clash ρ t facts f e in
      record {
        inside = l.inside;
        conflict = λ x. clash_conflict f _ m (get_or_within facts (partner ρ t facts f) x l.inside) (l.passes x);
        lowest = λ x k less c. true_not_false (conflict_clash f _ m (get_or_within facts k x (earlier k less l.inside)) c) (l.lowest x k less);
      }
    where
      earlier : (k : ℕ) → k < partner ρ t facts f → partner ρ t facts f < length facts → k < length facts
      earlier k less inside = omega arith
