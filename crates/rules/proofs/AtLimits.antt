-- Rule files at each limit and one past it, as one statement over one list, so that a limit or a code's range cannot change unseen. The
-- checker computes each case but the first: 512 rules are accepted by the law of Exact.antt.
use Prim.Native.Nat.{ℕ}
use mathlib.Core.Path.{◌≡◌, refl}
use mathlib.Core.List.{List, [], ◌∷◌, map}
use Rattle.number.specs.Number.{third, second, form_of, number_at}
use Rattle.site.specs.Kinds.BasicRole.{forward, inverse}
use Rattle.site.specs.Kinds.BasicConcept.{named, some}
use Rattle.site.specs.Kinds.Rule.{included, disjoint, role_included, role_disjoint, functional}
use Rattle.site.specs.Codes.{role_of, concept_of, concept_declared}
use Rattle.site.specs.Items.{tested_at, at_most, items_from, end_at}
use Rattle.site.specs.Lists.{any}
use Rattle.rule.specs.OneRule.{head_of, code_declared, rule_at}
use Rattle.rules.specs.RuleFile.{next_rule, rules_in, next_unbroken, after_rules, check_rules, site_of}
use Rattle.rule.specs.declared.head.Head.{Head}
use Rattle.rules.proofs.Cases.{Case, is, refused, refused_in}
use Rattle.rules.proofs.Exact.{whole, whole_accepted}

abbrev pub cases : List Case
cases =
    -- "number of concepts (0 to 64)"
    is (0x40 ∷ 0x00 ∷ 0x00 ∷ []) 64 0 0 3
    ∷ refused (0x41 ∷ 0x00 ∷ 0x00 ∷ []) 4 0
    -- "of roles (0 to 32)"
    ∷ is (0x00 ∷ 0x20 ∷ 0x00 ∷ []) 0 32 0 3
    ∷ refused (0x00 ∷ 0x21 ∷ 0x00 ∷ []) 4 1
    -- "of rules (0 to 512)": 512 begin, and 513 do not
    ∷ refused_in 0 (0x01 ∷ 0x00 ∷ 0x80 ∷ 0x04 ∷ []) 1 4
    ∷ refused (0x01 ∷ 0x00 ∷ 0x81 ∷ 0x04 ∷ []) 4 2
    -- a count over every number is 3
    ∷ refused (0x80 ∷ 0x80 ∷ 0x04 ∷ []) 3 0
    -- "Concept i: code i, 0 to 63": the last one of 64, and of 63
    ∷ is (0x40 ∷ 0x00 ∷ 0x01 ∷ 0x00 ∷ 0x3F ∷ 0x3F ∷ []) 64 0 1 3
    ∷ is (0x3F ∷ 0x00 ∷ 0x01 ∷ 0x01 ∷ 0x3E ∷ 0x3E ∷ []) 63 0 1 3
    ∷ refused_in 0 (0x3F ∷ 0x00 ∷ 0x01 ∷ 0x00 ∷ 0x3F ∷ 0x00 ∷ []) 5 4
    ∷ refused_in 0 (0x3F ∷ 0x00 ∷ 0x01 ∷ 0x01 ∷ 0x00 ∷ 0x3F ∷ []) 5 5
    -- "64+q .. 64 to 127": the first and the last, without roles, without the last role, and past them all
    ∷ is (0x00 ∷ 0x01 ∷ 0x01 ∷ 0x00 ∷ 0x40 ∷ 0x41 ∷ []) 0 1 1 3
    ∷ is (0x00 ∷ 0x20 ∷ 0x01 ∷ 0x01 ∷ 0x40 ∷ 0x7F ∷ []) 0 32 1 3
    ∷ refused_in 0 (0x40 ∷ 0x00 ∷ 0x01 ∷ 0x00 ∷ 0x40 ∷ 0x00 ∷ []) 5 4
    ∷ refused_in 0 (0x00 ∷ 0x01 ∷ 0x01 ∷ 0x00 ∷ 0x40 ∷ 0x42 ∷ []) 5 5
    ∷ refused_in 0 (0x40 ∷ 0x1F ∷ 0x01 ∷ 0x01 ∷ 0x7E ∷ 0x00 ∷ []) 5 4
    ∷ refused_in 0 (0x40 ∷ 0x20 ∷ 0x01 ∷ 0x00 ∷ 0x80 ∷ 0x01 ∷ 0x00 ∷ []) 5 4
    ∷ refused_in 0 (0x40 ∷ 0x20 ∷ 0x01 ∷ 0x01 ∷ 0x00 ∷ 0x80 ∷ 0x01 ∷ []) 5 5
    -- "Basic role q: 2j for role j, 2j+1 for its inverse", 0 to 63
    ∷ is (0x00 ∷ 0x20 ∷ 0x01 ∷ 0x02 ∷ 0x3F ∷ 0x3E ∷ []) 0 32 1 3
    ∷ is (0x00 ∷ 0x20 ∷ 0x01 ∷ 0x03 ∷ 0x3E ∷ 0x3F ∷ []) 0 32 1 3
    ∷ is (0x00 ∷ 0x20 ∷ 0x01 ∷ 0x04 ∷ 0x3F ∷ []) 0 32 1 3
    ∷ refused_in 0 (0x40 ∷ 0x20 ∷ 0x01 ∷ 0x02 ∷ 0x40 ∷ 0x00 ∷ []) 5 4
    ∷ refused_in 0 (0x40 ∷ 0x20 ∷ 0x01 ∷ 0x03 ∷ 0x00 ∷ 0x40 ∷ []) 5 5
    ∷ refused_in 0 (0x40 ∷ 0x20 ∷ 0x01 ∷ 0x04 ∷ 0x40 ∷ []) 5 4
    ∷ refused_in 0 (0x40 ∷ 0x1F ∷ 0x01 ∷ 0x04 ∷ 0x3E ∷ []) 5 4
    -- "unknown rule kind", and one over every number
    ∷ refused_in 0 (0x01 ∷ 0x01 ∷ 0x01 ∷ 0x05 ∷ 0x00 ∷ 0x00 ∷ []) 11 3
    ∷ refused_in 0 (0x01 ∷ 0x01 ∷ 0x01 ∷ 0xFF ∷ 0xFF ∷ 0x03 ∷ []) 11 3
    ∷ refused_in 0 (0x01 ∷ 0x01 ∷ 0x01 ∷ 0x80 ∷ 0x80 ∷ 0x04 ∷ []) 3 3
    -- kinds 0 to 3 have a second code, and kind 4 has none
    ∷ refused_in 0 (0x01 ∷ 0x01 ∷ 0x01 ∷ 0x00 ∷ 0x00 ∷ []) 1 5
    ∷ refused_in 0 (0x01 ∷ 0x01 ∷ 0x01 ∷ 0x01 ∷ 0x00 ∷ []) 1 5
    ∷ refused_in 0 (0x01 ∷ 0x01 ∷ 0x01 ∷ 0x02 ∷ 0x00 ∷ []) 1 5
    ∷ refused_in 0 (0x01 ∷ 0x01 ∷ 0x01 ∷ 0x03 ∷ 0x00 ∷ []) 1 5
    ∷ refused (0x01 ∷ 0x01 ∷ 0x01 ∷ 0x04 ∷ 0x00 ∷ 0x00 ∷ []) 7 5
    ∷ []

computed : map (λ c. check_rules c.bytes) cases ≡ map (λ c. c.expected) cases
unfolding number_at form_of second third tested_at at_most items_from end_at role_of concept_of concept_declared any head_of code_declared rule_at next_rule rules_in next_unbroken after_rules check_rules
computed = refl

pub rules_at_limits : map (λ c. check_rules c.bytes) (is whole 1 0 512 4 ∷ cases) ≡ map (λ c. c.expected) (is whole 1 0 512 4 ∷ cases)
rules_at_limits = λ i. whole_accepted i ∷ computed i

-- the codes at the ends of their ranges, and the rules that they make: 64 concepts, 32 roles, a rule of each kind
abbrev codes : List ℕ
codes = 0x40 ∷ 0x20 ∷ 0x05 ∷ 0x00 ∷ 0x3F ∷ 0x40 ∷ 0x01 ∷ 0x7E ∷ 0x7F ∷ 0x02 ∷ 0x00 ∷ 0x01 ∷ 0x03 ∷ 0x3E ∷ 0x3F ∷ 0x04 ∷ 0x3D ∷ []

abbrev head : Head
head = record { concepts = 64; roles = 32; rules = 5; start = 3 }

pub codes_at_limits : (site_of codes head).rules
    ≡ included (named 63) (some (forward 0))
    ∷ disjoint (some (forward 31)) (some (inverse 31))
    ∷ role_included (forward 0) (inverse 0)
    ∷ role_disjoint (forward 31) (inverse 31)
    ∷ functional (inverse 30)
    ∷ []
unfolding number_at form_of second third tested_at at_most role_of concept_of concept_declared code_declared rule_at rules_in site_of
codes_at_limits = refl
