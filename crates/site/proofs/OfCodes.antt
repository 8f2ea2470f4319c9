-- Codes back from their kinds: what a code names has that code.
use Prim.Native.Nat.{ℕ, ◌-◌, ◌/◌, ◌%◌}
use mathlib.Core.Path.{◌≡◌, refl}
use mathlib.Core.Bool.{Bool, true, false, cond}
use lib.Dec.{eqb, ltb}
use native.Mathlib.Omega.{arith}
use borrow.Author.Tests.{eqb-true, eqb-false, ltb-false}
use Rattle.site.specs.Codes.{role_of, role_code, concept_of, concept_code}
use Rattle.site.specs.Kinds.BasicRole.{forward, inverse}
use Rattle.site.specs.Kinds.BasicConcept.{named, some}

-- a basic role and a basic concept have the code that they were made of
pub role_code_lem : (q : ℕ) → role_code (role_of q) ≡ q
unfolding role_of
role_code_lem q = by_test (eqb (q % 2) 0) refl
  where
    by_test : (t : Bool) → eqb (q % 2) 0 ≡ t → role_code (cond t (forward (q / 2)) (inverse (q / 2))) ≡ q
    by_test true e = omega (arith, eqb-true (q % 2) 0 e)
    by_test false e = let odd : q % 2 ≡ 0 → ⊥ = eqb-false (q % 2) 0 e in omega arith

pub concept_code_lem : (b : ℕ) → concept_code (concept_of b) ≡ b
unfolding concept_of
concept_code_lem b = by_test (ltb b 64) refl
  where
    by_test : (t : Bool) → ltb b 64 ≡ t → concept_code (cond t (named b) (some (role_of (b - 64)))) ≡ b
    by_test true e = refl
    by_test false e = rw (role_code_lem (b - 64)) (omega (arith, ltb-false b 64 e))
