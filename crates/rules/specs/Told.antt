-- What the walks over a rule file come to.
use Rattle.std.specs.Prelude.{ℕ, ◌<◌, ◌≡◌, Bool, true, false, List, get_or, length, set}
use Rattle.site.specs.Kinds.{Rule, role_in}
use Rattle.site.specs.Kinds.Rule.{included, disjoint, role_included, role_disjoint, functional}
use Rattle.site.specs.Lists.{any}
use Rattle.site.specs.Limits.{most_roles}
use Rattle.rules.specs.RuleFile.{rules_in, on_right}
use Rattle.rules.specs.declared.walk.RulesOf.{RulesOf}

-- the rules that are left of a walk
abbrev pub rules_left : RulesOf → List Rule
rules_left w = rules_in w.head w.bytes.now w.left w.at

-- for each role, whether it stands on the right of a kind 2 rule
pub record Rights (rules : List Rule) (right : List Bool) : Type 0 where
  pub all : length right ≡ most_roles
  pub each_role : (j : ℕ) → j < most_roles → get_or right j false ≡ any (on_right j) rules

-- the same with one rule more: the entry of the role on its right
abbrev pub with_right : Rule → List Bool → List Bool
with_right (role_included p q) right = set right (role_in q) true
with_right (included b c) right = right
with_right (disjoint b c) right = right
with_right (role_disjoint p q) right = right
with_right (functional q) right = right

-- a functional rule whose role stands on the right
abbrev pub broken_by : List Bool → Rule → Bool
broken_by right (functional q) = get_or right (role_in q) false
broken_by right (included b c) = false
broken_by right (disjoint b c) = false
broken_by right (role_included p q) = false
broken_by right (role_disjoint p q) = false
