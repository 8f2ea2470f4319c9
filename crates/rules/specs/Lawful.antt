-- What an accepted rule file's rules are: within the limits, of declared codes, and with no functional role on the right of an inclusion.
use Rattle.std.specs.Prelude.{◌≤◌, ◌≡◌, true}
use mathlib.Core.List.{Memᴰ}
use Rattle.site.specs.Kinds.{BasicRole, Rule, Site, role_in}
use Rattle.site.specs.Kinds.Rule.{role_included, functional}
use Rattle.site.specs.Limits.{most_concepts, most_roles}
use Rattle.rule.specs.OneRule.{rule_declared}

-- rules that a rule file may hold
pub record Lawful (s : Site) : Type 0 where
  pub concepts_within : s.concepts ≤ most_concepts
  pub roles_within : s.roles ≤ most_roles
  pub known : (r : Rule) → Memᴰ r s.rules → rule_declared s r ≡ true
  -- "If q or its inverse is functional, neither may stand on the right of a kind 2 rule"
  pub unbroken : (q p r : BasicRole) → Memᴰ (functional q) s.rules → Memᴰ (role_included p r) s.rules → role_in r ≡ role_in q → ⊥
