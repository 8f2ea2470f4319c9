-- The head of a rule file, and one rule at a place: each, or its refusal, as a function of the bytes.
use Rattle.std.specs.Prelude.{ℕ, Bool, cond, ◌&&◌, List, leb, eqb}
use Rattle.number.specs.Answer.{Answer, ◌then◌}
use Rattle.number.specs.declared.read.Read.{Read}
use Rattle.number.specs.declared.refusal.Fault.TheVariants.{Kind}
use Rattle.number.specs.declared.refusal.Side.TheVariants.{Rules}
use Rattle.std.specs.Prelude.{Ok}
use Rattle.site.specs.Kinds.{Rule, Site, declared, declared_role}
use Rattle.site.specs.Kinds.Node.{concept}
use Rattle.site.specs.Kinds.Rule.{included, disjoint, role_included, role_disjoint, functional}
use Rattle.site.specs.Codes.{concept_declared, role_declared, rule_of}
use Rattle.site.specs.Limits.{most_concepts, most_roles, most_rules, last_kind, functional_kind}
use Rattle.site.specs.Items.{tested_at, at_most, count_at, code_at}
use Rattle.rule.specs.declared.head.Head.{Head}

-- "Rule file: number of concepts (0 to 64), of roles (0 to 32), of rules (0 to 512), then the rules."
unfoldable pub head_of : List ℕ → Answer Head
head_of s =
    count_at s 0 most_concepts Rules then λ concepts.
    count_at s concepts.next most_roles Rules then λ roles.
    count_at s roles.next most_rules Rules then λ rules.
    Ok (record { concepts = concepts.value; roles = roles.value; rules = rules.value; start = rules.next })

-- the codes of kinds 0 and 1 are basic concepts, those of kinds 2 to 4 basic roles
unfoldable pub code_declared : Head → ℕ → ℕ → Bool
code_declared h kind code = cond (leb kind 1) (concept_declared h.concepts h.roles code) (role_declared h.roles code)

-- refusal 11: "unknown rule kind", a kind over 4
abbrev pub kind_at : List ℕ → ℕ → Answer (Read ℕ)
kind_at s at = tested_at s at (at_most last_kind) Kind Rules

-- "A rule is its kind, then its codes": two, and one for kind 4
unfoldable pub rule_at : Head → List ℕ → ℕ → Answer (Read Rule)
rule_at h s at =
    kind_at s at then λ kind.
    code_at s kind.next (code_declared h kind.value) Rules then λ x.
    cond (eqb kind.value functional_kind)
    (Ok (record { value = rule_of kind.value x.value 0; next = x.next }))
    (code_at s x.next (code_declared h kind.value) Rules then λ y.
    Ok (record { value = rule_of kind.value x.value y.value; next = y.next }))

-- "A code above its kind's range is undeclared": every code of the rule is declared
abbrev pub rule_declared : Site → Rule → Bool
rule_declared s (included b c) = declared s (concept b) && declared s (concept c)
rule_declared s (disjoint b c) = declared s (concept b) && declared s (concept c)
rule_declared s (role_included p q) = declared_role s p && declared_role s q
rule_declared s (role_disjoint p q) = declared_role s p && declared_role s q
rule_declared s (functional q) = declared_role s q
