-- The facts that are left of a walk over a bundle: none at its end or where one cannot be read, else the first and those after it.
-- The iterator over them yields by these laws.
use Prim.Native.Nat.{ℕ, zero, suc, ◌-◌, ◌≤◌, ◌<◌}
use mathlib.Core.Path.{◌≡◌, ap}
use mathlib.Core.Bool.{true}
use mathlib.Core.List.{List, [], ◌∷◌}
use lib.ListN.{length}
use native.Mathlib.Omega.{arith}
use borrow.Author.Rules.{rules}
use Rattle.number.specs.Answer.{Answer}
use Rattle.std.specs.Prelude.{Ok, Err}
use Rattle.number.specs.declared.refusal.Refusal.{Refusal}
use Rattle.number.specs.declared.read.Read.{Read}
use Rattle.site.specs.declared.fact.Fact.{Fact}
use Rattle.site.specs.Items.{onward}
use Rattle.bundle.specs.Bundle.{fact_at, facts_in}

module _ (s : List ℕ) (n at : ℕ) where
  pub none_left : n ≡ 0 → facts_in s n at ≡ []
  unfolding facts_in
  none_left over = ap (λ (k : ℕ). facts_in s k at) over

  module _ (more : n ≡ 0 → ⊥) where
    turn : facts_in s n at ≡ onward (fact_at (λ _. true) s at) (λ f. f.value ∷ facts_in s (n - 1) f.next)
    unfolding facts_in
    turn = let one : n ≡ suc (n - 1) = omega arith in ap (λ (k : ℕ). facts_in s k at) one

    module _ (e : Answer (Read Fact)) (is : e ≡ fact_at (λ _. true) s at) where
      pub facts_stop : (r : Refusal) → e ≡ Err r → facts_in s n at ≡ []
      facts_stop r stopped = rw (turn, ← is, stopped)

      module _ (f : Read Fact) (read : e ≡ Ok f) where
        pub facts_more : facts_in s n at ≡ f.value ∷ facts_in s (n - 1) f.next
        facts_more = rw (turn, ← is, read)

        pub facts_fewer : length (facts_in s (n - 1) f.next) < length (facts_in s n at)
        facts_fewer = rw facts_more (omega arith)

-- no more facts are read than are asked for
pub facts_few : (s : List ℕ) (n at : ℕ) → length (facts_in s n at) ≤ n
unfolding facts_in
facts_few s zero at = omega arith
facts_few s (suc n) at = from (λ next. facts_few s n next) (fact_at (λ _. true) s at)
  where
    from : ((next : ℕ) → length (facts_in s n next) ≤ n) → (a : Answer (Read Fact)) → length (onward a (λ f. f.value ∷ facts_in s n f.next)) ≤ suc n
    from later (Ok f) = let h = later f.next in omega arith
    from later (Err r) = omega arith

pub ruleset walking = (none_left, facts_stop, facts_more, facts_fewer, rules)
