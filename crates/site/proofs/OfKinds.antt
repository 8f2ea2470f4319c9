-- What codes and numbers say of the kinds: a code's direction and its role's number, a rule's kind, and that what is declared by codes is what is
-- declared by kinds.
use Prim.Native.Nat.{ℕ, ◌≤◌, ◌<◌, ◌+◌, ◌-◌, ◌/◌, ◌%◌}
use mathlib.Core.Path.{◌≡◌, refl}
use mathlib.Core.Bool.{Bool, true, false, cond}
use lib.Dec.{eqb, ltb}
use native.Mathlib.Omega.{arith}
use borrow.Author.Tests.{lt-ltb, le-ltb, eq-eqb, ne_eqb}
use Rattle.site.specs.Kinds.{Site, turned, role_in, declared_role, declared}
use Rattle.site.specs.Kinds.BasicRole.{forward, inverse}
use Rattle.site.specs.Kinds.BasicConcept.{named, some}
use Rattle.site.specs.Kinds.Node.{concept}
use Rattle.site.specs.Limits.{last_kind}
use Rattle.site.specs.Told.{kind_number}
use Rattle.site.specs.declared.rule.Kind.{Kind}
use Rattle.site.specs.declared.rule.Kind.TheVariants.{Included, Disjoint, RoleIncluded, RoleDisjoint, Functional}
use Rattle.site.specs.Codes.{role_of, concept_of, role_declared, concept_declared, predicate_declared}

-- the two directions of a role
pub role_even : (q : ℕ) → q % 2 ≡ 0 → role_of q ≡ forward (q / 2)
unfolding role_of
role_even q e = rw (eq-eqb (q % 2) 0 e)

pub role_odd : (q : ℕ) → (q % 2 ≡ 0 → ⊥) → role_of q ≡ inverse (q / 2)
unfolding role_of
role_odd q h = rw (ne_eqb (q % 2) 0 h)

pub role_number : (q : ℕ) → role_in (role_of q) ≡ q / 2
unfolding role_of
role_number q = either (eqb (q % 2) 0)
  where
    either : (even : Bool) → role_in (cond even (forward (q / 2)) (inverse (q / 2))) ≡ q / 2
    either true = refl
    either false = refl

pub inverse_even : (q : ℕ) → q % 2 ≡ 0 → role_of (q + 1) ≡ turned (role_of q)
inverse_even q e =
    let half : (q + 1) / 2 ≡ q / 2 = omega arith in
    rw (role_even q e, role_odd (q + 1) (omega arith), half)

pub inverse_odd : (q : ℕ) → (q % 2 ≡ 0 → ⊥) → role_of (q - 1) ≡ turned (role_of q)
inverse_odd q h =
    let half : (q - 1) / 2 ≡ q / 2 = omega arith in
    rw (role_odd q h, role_even (q - 1) (omega arith), half)

-- which predicate numbers are declared
module _ (concepts roles code : ℕ) where
  pub predicate_low : code < 64 → ltb code concepts ≡ predicate_declared concepts roles code
  unfolding predicate_declared
  predicate_low h = rw (lt-ltb code 64 h)

  pub predicate_high : 64 ≤ code → ltb (code - 64) roles ≡ predicate_declared concepts roles code
  unfolding predicate_declared
  predicate_high h = rw (le-ltb code 64 h)

-- the numbers of kinds
pub kind_within : (k : Kind) → kind_number k ≤ last_kind
kind_within = elim [ Included ↦ omega arith | Disjoint ↦ omega arith | RoleIncluded ↦ omega arith | RoleDisjoint ↦ omega arith | Functional ↦ omega arith ]

-- a declared code's node is declared
module _ (s : Site) where
  pub role_declared_lem : (q : ℕ) → role_declared s.roles q ≡ declared_role s (role_of q)
  role_declared_lem q = rw role_number

  pub concept_declared_lem : (b : ℕ) → concept_declared s.concepts s.roles b ≡ declared s (concept (concept_of b))
  unfolding concept_declared concept_of
  concept_declared_lem b = either (ltb b 64)
    where
      either : (low : Bool)
          → cond low (ltb b s.concepts) (role_declared s.roles (b - 64))
          ≡ declared s (concept (cond low (named b) (some (role_of (b - 64)))))
      either true = refl
      either false = role_declared_lem (b - 64)
