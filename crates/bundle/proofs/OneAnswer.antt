-- Every reading of a bundle leaves one answer.
use Prim.Native.Nat.{ℕ}
use mathlib.Core.Path.{◌≡◌}
use mathlib.Core.Bool.{Bool}
use mathlib.Core.List.{List}
use Rattle.number.specs.Answer.{Answer}
use Rattle.number.specs.declared.read.Read.{Read}
use Rattle.number.proofs.One.{one}
use Rattle.site.specs.declared.fact.Fact.{Fact}
use Rattle.rule.specs.declared.head.Head.{Head}
use Rattle.bundle.specs.Bundle.{fact_at, check_bundle}
use Rattle.bundle.specs.Opened.{opening}
use Rattle.bundle.specs.declared.facts.Facts.{Facts}
use Rattle.bundle.specs.declared.open.Inputs.{Inputs}

pub one_fact : (known : ℕ → Bool) (s : List ℕ) (at : ℕ) (r r' : Answer (Read Fact)) → r ≡ fact_at known s at → r' ≡ fact_at known s at → r ≡ r'
one_fact known s at r r' e e' = one e e'

pub one_bundle : (h : Head) (s : List ℕ) (r r' : Answer Facts) → r ≡ check_bundle h s → r' ≡ check_bundle h s → r ≡ r'
one_bundle h s r r' e e' = one e e'

pub one_opening : (rules bundle : List ℕ) (r r' : Answer Inputs) → r ≡ opening rules bundle → r' ≡ opening rules bundle → r ≡ r'
one_opening rules bundle r r' e e' = one e e'
