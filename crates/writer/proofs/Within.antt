-- Heads under which no predicate over 65,535 is declared: those of rule files are such, and any head is such with its roles cut there.
use Prim.Native.Nat.{ℕ, ◌-◌, ◌≤◌, ◌<◌, min}
use mathlib.Core.Path.{◌≡◌, refl, ap}
use mathlib.Core.Bool.{Bool, true, false, cond}
use lib.Dec.{ltb}
use native.Mathlib.Omega.{arith}
use borrow.Author.Tests.{lt-ltb, le-ltb, ltb-true, ltb-false}
use Rattle.site.specs.Codes.{predicate_declared}
use Rattle.site.specs.Limits.{most_number, most_roles}
use Rattle.rule.specs.declared.head.Head.{Head}
use Rattle.bundle.specs.Bundle.{predicate_known}
use Rattle.writer.specs.Records.{within}

-- a declared predicate is a number, where no more roles are declared than have one
pub known_below : (h : Head) → h.roles ≤ most_number - 63 → (p : ℕ) → predicate_known h p ≡ true → p ≤ most_number
unfolding predicate_declared
known_below h few p = by_test (ltb p 64) refl
  where
    by_test : (t : Bool) → ltb p 64 ≡ t → cond t (ltb p h.concepts) (ltb (p - 64) h.roles) ≡ true → p ≤ most_number
    by_test true is e = omega (arith, ltb-true p 64 is)
    by_test false is e = omega (arith, ltb-false p 64 is, ltb-true (p - 64) h.roles e)

-- a role within both limits is within the lower
lower : (j roles most : ℕ) → j < most → ltb j (min roles most) ≡ ltb j roles
lower j roles most low = by_test (ltb j roles) refl
  where
    by_test : (t : Bool) → ltb j roles ≡ t → ltb j (min roles most) ≡ t
    by_test true is = let k = ltb-true j roles is in lt-ltb j (min roles most) (omega arith)
    by_test false is = let k = ltb-false j roles is in le-ltb j (min roles most) (omega arith)

module _ (h : Head) where
  pub within_few : (within h).roles ≤ most_number - 63
  unfolding within
  within_few = omega arith

  -- a rule file's head is left as it is
  pub within_same : h.roles ≤ most_roles → within h ≡ h
  unfolding within
  within_same few =
      let all : min h.roles (most_number - 63) ≡ h.roles = omega arith in
      ap (λ (n : ℕ). record { concepts = h.concepts; roles = n; rules = h.rules; start = h.start }) all

  pub within_known : (p : ℕ) → p ≤ most_number → predicate_known (within h) p ≡ predicate_known h p
  unfolding within predicate_declared
  within_known p low = by_test (ltb p 64) refl
    where
      by_test : (t : Bool) → ltb p 64 ≡ t
          → cond t (ltb p h.concepts) (ltb (p - 64) (min h.roles (most_number - 63))) ≡ cond t (ltb p h.concepts) (ltb (p - 64) h.roles)
      by_test true is = refl
      by_test false is = lower (p - 64) h.roles (most_number - 63) (omega arith)

  pub within_unknown : (p : ℕ) → most_number < p → predicate_known (within h) p ≡ false
  within_unknown p over = by_test (predicate_known (within h) p) refl
    where
      by_test : (t : Bool) → predicate_known (within h) p ≡ t → predicate_known (within h) p ≡ false
      by_test true is = let low = known_below (within h) within_few p is in absurd (omega arith)
      by_test false is = is
