-- A fact from the answers of the readers below: its predicate was refused, or what follows it is the answer.
use Prim.Native.Nat.{ℕ}
use mathlib.Core.Path.{◌≡◌}
use mathlib.Core.Bool.{Bool}
use mathlib.Core.List.{List}
use Rattle.std.specs.Prelude.{Ok, Err}
use Rattle.number.specs.Answer.{Answer}
use Rattle.number.specs.declared.refusal.Refusal.{Refusal}
use Rattle.number.specs.declared.read.Read.{Read}
use Rattle.number.specs.declared.refusal.Side.TheVariants.{Bundle}
use Rattle.site.specs.Items.{code_at}
use Rattle.site.specs.declared.fact.Fact.{Fact}
use Rattle.bundle.specs.Bundle.{fact_at}
use Rattle.bundle.specs.Told.{fact_rest}

module _ (known : ℕ → Bool) (s : List ℕ) (at : ℕ) where
  pub predicate_refused : (r : Refusal) → Err r ≡ code_at s at known Bundle → Err r ≡ fact_at known s at
  unfolding fact_at
  predicate_refused r is = rw (← is)

  pub predicate_read : (p : Read ℕ) → Ok p ≡ code_at s at known Bundle → (a : Answer (Read Fact)) → a ≡ fact_rest s p.value p.next → a ≡ fact_at known s at
  unfolding fact_at fact_rest
  predicate_read p is a rest = rw (← is) rest
