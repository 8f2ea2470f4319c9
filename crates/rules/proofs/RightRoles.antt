-- The roles on the right of kind 2 rules, as the rules are gone through.
use Prim.Native.Nat.{ℕ, ◌<◌, ◌≤◌}
use mathlib.Core.Path.{◌≡◌, refl, sym, ap, ◌∙◌}
use mathlib.Core.Bool.{Bool, true, false, ◌||◌, or-false, or-true, or_assoc}
use mathlib.Core.List.{List, [], ◌∷◌}
use lib.ListN.{length, get_or, set, length-set, replicate, get_or-replicate}
use lib.Seq.{get_or-set_same, get_or-set_other}
use lib.Dec.{eqb}
use native.Mathlib.Decide.{ℕ_discrete as dec_eq}
use Rattle.std.proofs.lemmas.List.{set_past}
use native.Mathlib.Omega.{arith}
use borrow.Author.Tests.{eq-eqb, ne_eqb}
use borrow.Author.Rules.{rules}
use Rattle.site.specs.Kinds.{Rule as SaidRule, role_in}
use Rattle.site.specs.Kinds.Rule.{included, disjoint, role_included, role_disjoint, functional}
use Rattle.site.specs.Lists.{any}
use Rattle.site.specs.Limits.{most_roles}
use Rattle.site.specs.Told.{basic_role_told, rule_told}
use Rattle.site.specs.declared.nodes.BasicRole.{BasicRole}
use Rattle.site.specs.declared.nodes.Role.{Role}
use Rattle.site.specs.declared.rule.Rule.{Rule}
use Rattle.site.specs.declared.rule.Rule.TheVariants.{RoleIncluded}
use Rattle.rules.specs.RuleFile.{on_right}
use Rattle.rules.specs.Told.{Rights, with_right}

-- one rule more in the table
module _ (rule : Rule) (right right' : List Bool) where
  pub right_marked : (p q : BasicRole) → rule ≡ RoleIncluded p q → (j : Role) → j ≡ record { number = role_in (basic_role_told q) } → right' ≡ set right j.number true → right' ≡ with_right (rule_told rule) right
  right_marked p q e j half k = rw e (rw half at k)

  pub right_stays : (p q : BasicRole) → rule ≡ RoleIncluded p q → (j : Role) → j ≡ record { number = role_in (basic_role_told q) } → length right ≡ most_roles → most_roles ≤ j.number → right ≡ with_right (rule_told rule) right
  right_stays p q e j half all past = rw e (rw half at (sym (set_past right j.number true (omega arith))))

-- what was found, and what is left
pub record RightsSoFar (whole rest : List SaidRule) (right : List Bool) : Type 0 where
  pub all : length right ≡ most_roles
  pub each_role : (j : ℕ) → j < most_roles → (get_or right j false || any (on_right j) rest) ≡ any (on_right j) whole

any_cons : (j : ℕ) (rule : SaidRule) (rules : List SaidRule) → any (on_right j) (rule ∷ rules) ≡ (on_right j rule || any (on_right j) rules)
unfolding any
any_cons j rule rules = refl

-- what one store does to the entry of a role
stored : (right : List Bool) (role j : ℕ) → length right ≡ most_roles → j < most_roles → get_or (set right role true) j false ≡ (get_or right j false || eqb role j)
stored right role j all h = by (dec_eq role j)
  where
    by : Dec (role ≡ j) → get_or (set right role true) j false ≡ (get_or right j false || eqb role j)
    by (yes e) =
        let inside : j < length right = omega (arith, all) in
        rw (e, eq-eqb j j refl, or-true, get_or-set_same right j true false)
    by (no e) = rw (ne_eqb role j e, or-false, get_or-set_other right role j true false (λ k. e (sym k)))

with_right_at : (rule : SaidRule) (right : List Bool) (j : ℕ) → length right ≡ most_roles → j < most_roles → get_or (with_right rule right) j false ≡ (get_or right j false || on_right j rule)
with_right_at (included b c) right j all h = sym (or-false (get_or right j false))
with_right_at (disjoint b c) right j all h = sym (or-false (get_or right j false))
with_right_at (role_included p q) right j all h = stored right (role_in q) j all h
with_right_at (role_disjoint p q) right j all h = sym (or-false (get_or right j false))
with_right_at (functional q) right j all h = sym (or-false (get_or right j false))

with_right_length : (rule : SaidRule) (right : List Bool) → length (with_right rule right) ≡ length right
with_right_length (included b c) right = refl
with_right_length (disjoint b c) right = refl
with_right_length (role_included p q) right = length-set right (role_in q) true
with_right_length (role_disjoint p q) right = refl
with_right_length (functional q) right = refl

module _ (whole : List SaidRule) where
  pub rights_start : RightsSoFar whole whole (replicate most_roles false)
  rights_start = record { all = refl; each_role = λ j h. rw (get_or-replicate most_roles j false false (omega arith)) }

  module _ (rest : List SaidRule) (right : List Bool) (so : RightsSoFar whole rest right) where
    pub rights_done : rest ≡ [] → Rights whole right
    unfolding any
    rights_done e = record { all = so.all; each_role = λ j h. sym (or-false (get_or right j false)) ∙ ap (λ (l : List SaidRule). get_or right j false || any (on_right j) l) (sym e) ∙ so.each_role j h }

    pub rights_again : (rule : SaidRule) (rest' : List SaidRule) → rest ≡ rule ∷ rest' → (right' : List Bool) → right' ≡ with_right rule right → RightsSoFar whole rest' right'
    rights_again rule rest' e right' k =
        record {
          all = rw (k, with_right_length rule right) so.all;
          each_role = λ j h.
              rw (k, with_right_at rule right j so.all h, or_assoc, ← (any_cons j rule rest'), ← e) (so.each_role j h);
        }

pub ruleset right_roles = (right_marked, right_stays, rights_start, rights_done, rights_again, rules)
