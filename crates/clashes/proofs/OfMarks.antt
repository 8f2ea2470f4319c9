-- Marks: each fact has exactly one of the three, by its two tests, whether it is alone and whether some fact clashes with it; so the three
-- counts add up to the facts.
use Prim.Native.Nat.{ℕ, ◌+◌}
use mathlib.Core.Path.{◌≡◌, refl}
use mathlib.Core.Bool.{Bool, true, false, cond}
use mathlib.Core.Logic.{◌↔◌}
use mathlib.Core.List.{List, Memᴰ}
use lib.Dec.{eqb}
use lib.ListN.{length}
use native.Mathlib.Omega.{arith}
use Rattle.site.specs.declared.fact.Fact.{Fact}
use Rattle.site.specs.Lists.{any}
use Rattle.site.proofs.Lists.{Passing, any_found, any_of, any_none, is_false, true_not_false, length_keep, OneOfThree, counts_add}
use Rattle.site.proofs.Lists.OneOfThree.{one, two, three}
use Rattle.steps.specs.Tables.{Follows}
use Rattle.clashes.specs.Marks.{alone, clash, mark, marked, counts, kept}
use Rattle.clashes.proofs.OfClash.{clash_is}

module _ (ρ : ℕ → ℕ) (t : Follows) (facts : List Fact) where
  -- "0 kept, 1 alone, 2 disputed (clashes with some fact)"
  pub data MarkOf (f : Fact) : ℕ → Type 0 where
    is_kept : alone ρ t f ≡ false → any (clash ρ t f) facts ≡ false → MarkOf f 0
    is_alone : alone ρ t f ≡ true → MarkOf f 1
    is_disputed : alone ρ t f ≡ false → any (clash ρ t f) facts ≡ true → MarkOf f 2

  -- each fact has one mark
  pub mark_of : (f : Fact) → MarkOf f (mark ρ t facts f)
  unfolding mark
  mark_of f = step (alone ρ t f) refl (any (clash ρ t f) facts) refl
    where
      step : (a : Bool) → alone ρ t f ≡ a → (b : Bool) → any (clash ρ t f) facts ≡ b → MarkOf f (cond a 1 (cond b 2 0))
      step true e b k = is_alone e
      step false e true k = is_disputed e k
      step false e false k = is_kept e k

  -- and no other
  mark_is : {f : Fact} {m : ℕ} → MarkOf f m → mark ρ t facts f ≡ m
  unfolding mark
  mark_is (is_kept e k) = rw (e, k)
  mark_is (is_alone e) = rw e
  mark_is (is_disputed e k) = rw (e, k)

  -- 0 exactly if it is not alone and no fact clashes with it
  pub record Undisputed (f : Fact) : Type 0 where
    pub not_alone : alone ρ t f ≡ false
    pub quiet : (g : Fact) → Memᴰ g facts → clash ρ t f g ≡ false

  undisputed : {f : Fact} {m : ℕ} → MarkOf f m → m ≡ 0 → Undisputed f
  undisputed {f} (is_kept e k) z = record { not_alone = e; quiet = λ g m. any_none (clash ρ t f) facts k m }
  undisputed (is_alone e) z = absurd (omega arith)
  undisputed (is_disputed e k) z = absurd (omega arith)

  pub mark_0 : (f : Fact) → (mark ρ t facts f ≡ 0) ↔ Undisputed f
  mark_0 f = (
    undisputed (mark_of f),
    λ u.
        mark_is
        (is_kept u.not_alone
        (is_false (λ e. let p = any_found (clash ρ t f) facts e in true_not_false p.passes (u.quiet p.one p.within)))),
  )

  -- 1 exactly if it is alone
  alone_of : {f : Fact} {m : ℕ} → MarkOf f m → m ≡ 1 → alone ρ t f ≡ true
  alone_of (is_kept e k) z = absurd (omega arith)
  alone_of (is_alone e) z = e
  alone_of (is_disputed e k) z = absurd (omega arith)

  pub mark_1 : (f : Fact) → (mark ρ t facts f ≡ 1) ↔ (alone ρ t f ≡ true)
  mark_1 f = (alone_of (mark_of f), λ e. mark_is (is_alone e))

  -- 2 exactly if it is not alone and some fact clashes with it
  pub record Disputed (f : Fact) : Type 0 where
    pub not_alone : alone ρ t f ≡ false
    pub clashing : Passing (clash ρ t f) facts

  disputed_of : {f : Fact} {m : ℕ} → MarkOf f m → m ≡ 2 → Disputed f
  disputed_of (is_kept e k) z = absurd (omega arith)
  disputed_of (is_alone e) z = absurd (omega arith)
  disputed_of {f} (is_disputed e k) z = record { not_alone = e; clashing = any_found (clash ρ t f) facts k }

  pub mark_2 : (f : Fact) → (mark ρ t facts f ≡ 2) ↔ Disputed f
  mark_2 f = (
    disputed_of (mark_of f),
    λ u. mark_is (is_disputed u.not_alone (any_of (clash ρ t f) u.clashing.within u.clashing.passes)),
  )

  -- a fact that some fact clashes with is disputed
  pub clash_disputes : (f : Fact) {g : Fact} → Memᴰ g facts → clash ρ t f g ≡ true → mark ρ t facts f ≡ 2
  clash_disputes f {g} m e = mark_is (is_disputed ((clash_is ρ t f g).0 e).first_not_alone (any_of (clash ρ t f) m e))

  -- "the three marks add up to the facts"
  one_mark : {f : Fact} {m : ℕ} → MarkOf f m → OneOfThree (eqb m 0) (eqb m 1) (eqb m 2)
  one_mark (is_kept e k) = one
  one_mark (is_alone e) = two
  one_mark (is_disputed e k) = three

  pub marks_add_up : (counts ρ t facts).facts ≡ (counts ρ t facts).kept + (counts ρ t facts).alone + (counts ρ t facts).disputed
  unfolding counts marked
  marks_add_up = counts_add (marked ρ t facts 0) (marked ρ t facts 1) (marked ρ t facts 2) (λ f. one_mark (mark_of f)) facts

  -- the count of kept facts is the number of them
  pub kept_counted : length (kept ρ t facts) ≡ (counts ρ t facts).kept
  unfolding counts kept
  kept_counted = length_keep (marked ρ t facts 0) facts
