-- The limits of document 01, once for the definitions; the code's are constants of the kinds they limit, and `limits_of_kinds` is proved to give these.
use Rattle.std.specs.Prelude.{ℕ}

-- "Concept i: code i, 0 to 63."
abbrev pub most_concepts : ℕ
most_concepts = 64

-- "Role j: 0 to 31."
abbrev pub most_roles : ℕ
most_roles = 32

-- "of rules (0 to 512)"
abbrev pub most_rules : ℕ
most_rules = 512

-- kinds 0 to 4
abbrev pub last_kind : ℕ
last_kind = 4

-- "| 4 | q is functional | one basic role |"
abbrev pub functional_kind : ℕ
functional_kind = 4

-- "number of facts (0 to 4,096)"
abbrev pub most_facts : ℕ
most_facts = 4096

-- "is at most 65,535"
abbrev pub most_number : ℕ
most_number = 65535

-- the largest device number
abbrev pub most_thing : ℕ
most_thing = 65535

-- "or 65,535 for marks 0 and 1"
abbrev pub no_partner : ℕ
no_partner = 65535
