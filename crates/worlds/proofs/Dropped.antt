-- A fact is dropped exactly if it spoils a consistent set: none if it is alone, a fact that it clashes with if it is disputed. So dropped
-- is left out by some maximal consistent set; and the kept facts, of which no two contradict each other, are consistent.
use Prim.Native.Nat.{ℕ}
use mathlib.Core.Path.{◌≡◌, refl}
use mathlib.Core.Bool.{true}
use mathlib.Core.Logic.{◌↔◌}
use mathlib.Core.List.{List, [], ◌∷◌, Memᴰ}
use Rattle.site.specs.declared.fact.Fact.{Fact}
use Rattle.site.specs.Kinds.{Site}
use Rattle.site.proofs.Lists.{Passing, any_found, is_false, true_not_false}
use Rattle.rules.specs.Lawful.{Lawful}
use Rattle.steps.specs.Tables.{Follows}
use Rattle.steps.specs.Decides.{Decides}
use Rattle.clashes.specs.Marks.{alone, clash, mark, kept}
use Rattle.clashes.proofs.OfClash.{clash_is}
use Rattle.clashes.proofs.OfMarks.{MarkOf, mark_of, mark_0}
use Rattle.clashes.proofs.OfMarks.MarkOf.{is_kept, is_alone, is_disputed}
use Rattle.clashes.proofs.OfKept.{kept_is}
use Rattle.clashes.proofs.OfTypes.{Against, contradict_against, against_contradict, alone_against, against_alone}
use Rattle.worlds.specs.Worlds.{Consistent, LeftOut}
use Rattle.worlds.proofs.OfLists.{Within, within_cons, within_nil}
use Rattle.worlds.proofs.Told.{Peaceful, peaceful_nil, peaceful_cons}
use Rattle.worlds.proofs.Repairs.{Spoils, spoils_left_out, left_out_spoils}
use Rattle.worlds.proofs.Consistency.{AllFit, consistent_peaceful, peaceful_consistent, fewer_consistent, decide_consistent}

module _ (ρ : ℕ → ℕ) (s : Site) (t : Follows) (law : Lawful s) (d : Decides s t) (facts : List Fact) (fit : AllFit s facts) where
  -- a fact of mark 0 contradicts neither itself nor a fact that is not alone
  kept_alone : (f : Fact) → mark ρ t facts f ≡ 0 → Against ρ s f f → ⊥
  kept_alone f h a = true_not_false (against_alone ρ s t d a) ((mark_0 ρ t facts f).0 h).not_alone

  kept_clash : (f g : Fact) → Memᴰ g facts → mark ρ t facts f ≡ 0 → (Against ρ s g g → ⊥) → Against ρ s f g → ⊥
  kept_clash f g m h n a =
      let u = (mark_0 ρ t facts f).0 h in
      true_not_false
      ((clash_is ρ t f g).1
      (record {
        first_not_alone = u.not_alone;
        second_not_alone = is_false (λ e. n (alone_against ρ s t d g e));
        contradicts = against_contradict ρ s t d a;
      }))
      (u.quiet g m)

  -- a dropped fact spoils a consistent set, and only such a fact does
  dropped_spoils : (f : Fact) → Memᴰ f facts → (mark ρ t facts f ≡ 0 → ⊥) → Spoils (Consistent ρ s) facts f
  dropped_spoils f m h = go refl (mark_of ρ t facts f)
    where
      alone_spoils : alone ρ t f ≡ true → Spoils (Consistent ρ s) facts f
      alone_spoils e =
          record {
            set = [];
            within = within_nil;
            good = peaceful_consistent ρ s t law d facts fit [] within_nil peaceful_nil;
            spoilt = λ c.
                consistent_peaceful ρ s t law d facts fit (f ∷ []) (within_cons m within_nil) c f f (Memᴰ.head refl) (Memᴰ.head refl)
                (alone_against ρ s t d f e);
          }

      clash_spoils : Passing (clash ρ t f) facts → Spoils (Consistent ρ s) facts f
      clash_spoils k =
          let g = k.one in
          let only-g : Within (g ∷ []) facts = within_cons k.within within_nil in
          let c = (clash_is ρ t f g).0 k.passes in
          record {
            set = g ∷ [];
            within = only-g;
            good =
                peaceful_consistent ρ s t law d facts fit (g ∷ []) only-g
                (peaceful_cons (λ a. true_not_false (against_alone ρ s t d a) c.second_not_alone) (λ x z. elim z [ ]) peaceful_nil);
            spoilt = λ w.
                consistent_peaceful ρ s t law d facts fit (f ∷ g ∷ []) (within_cons m only-g) w f g (Memᴰ.head refl) (Memᴰ.tail (Memᴰ.head refl))
                (contradict_against ρ s t d f g c.contradicts);
          }

      go : {n : ℕ} → mark ρ t facts f ≡ n → MarkOf ρ t facts f n → Spoils (Consistent ρ s) facts f
      go e (is_kept u v) = absurd (h e)
      go e (is_alone u) = alone_spoils u
      go e (is_disputed u v) = clash_spoils (any_found (clash ρ t f) facts v)

  spoils_dropped : (f : Fact) → Memᴰ f facts → Spoils (Consistent ρ s) facts f → mark ρ t facts f ≡ 0 → ⊥
  spoils_dropped f m p h =
      let peace = consistent_peaceful ρ s t law d facts fit p.set p.within p.good in
      p.spoilt
      (peaceful_consistent ρ s t law d facts fit (f ∷ p.set) (within_cons m p.within)
      (peaceful_cons (kept_alone f h) (λ g k. kept_clash f g (p.within g k) h (peace g g k k)) peace))

  -- (1) dropped is left out by some maximal consistent set
  pub dropped_left_out : (f : Fact) → Memᴰ f facts → (mark ρ t facts f ≡ 0 → ⊥) ↔ LeftOut ρ s facts f
  dropped_left_out f m = (there_to, back)
    where
      there_to : (mark ρ t facts f ≡ 0 → ⊥) → LeftOut ρ s facts f
      there_to h =
          let r = spoils_left_out (Consistent ρ s) facts (fewer_consistent ρ s t law d facts fit) (decide_consistent ρ s t law d facts fit) f (dropped_spoils f m h) in
          (r.0, record { within = r.1.within; consistent = r.1.good; full = r.1.full }, r.2)

      back : LeftOut ρ s facts f → mark ρ t facts f ≡ 0 → ⊥
      back l =
          spoils_dropped f m
          (left_out_spoils (Consistent ρ s) facts f m l.0
          (record { within = l.1.within; good = l.1.consistent; full = l.1.full })
          l.2)

  -- (2) the kept facts are consistent
  pub kept_within : Within (kept ρ t facts) facts
  kept_within f m = ((kept_is ρ t facts f).0 m).within

  pub kept_peaceful : Peaceful ρ s (kept ρ t facts)
  kept_peaceful f g m k = kept_clash f g (kept_within g k) ((kept_is ρ t facts f).0 m).mark_0 (kept_alone g ((kept_is ρ t facts g).0 k).mark_0)

  pub kept_consistent : Consistent ρ s (kept ρ t facts)
  kept_consistent = peaceful_consistent ρ s t law d facts fit (kept ρ t facts) kept_within kept_peaceful
