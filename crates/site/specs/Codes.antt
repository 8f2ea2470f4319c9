-- Codes: the numbers by which files, calls and tables name the kinds.
use Rattle.std.specs.Prelude.{ℕ, zero, suc, ◌+◌, ◌-◌, ◌*◌, ◌/◌, ◌%◌, Bool, cond, eqb, ltb}
use Rattle.site.specs.Kinds.{BasicRole, BasicConcept, Node, Rule}
use Rattle.site.specs.Kinds.BasicRole.{forward, inverse}
use Rattle.site.specs.Kinds.BasicConcept.{named, some}
use Rattle.site.specs.Kinds.Node.{concept, role}
use Rattle.site.specs.Kinds.Rule.{included, disjoint, role_included, role_disjoint, functional}

-- "2j for role j, 2j+1 for its inverse"
unfoldable pub role_of : ℕ → BasicRole
role_of q = cond (eqb (q % 2) 0) (forward (q / 2)) (inverse (q / 2))

-- the code of a basic role
abbrev pub role_code : BasicRole → ℕ
role_code (forward j) = 2 * j
role_code (inverse j) = 2 * j + 1

-- "a concept's code i, or 64+q"
unfoldable pub concept_of : ℕ → BasicConcept
concept_of b = cond (ltb b 64) (named b) (some (role_of (b - 64)))

-- the code of a basic concept
abbrev pub concept_code : BasicConcept → ℕ
concept_code (named i) = i
concept_code (some q) = 64 + role_code q

-- one numbering for all: basic concepts 0 to 127, and 128+q for a basic role
unfoldable pub node_of : ℕ → Node
node_of x = cond (ltb x 128) (concept (concept_of x)) (role (role_of (x - 128)))

-- the number of either
abbrev pub node_code : Node → ℕ
node_code (concept b) = concept_code b
node_code (role q) = 128 + role_code q

-- which codes are declared, by the numbers of concepts and roles
abbrev pub role_declared : ℕ → ℕ → Bool
role_declared roles q = ltb (q / 2) roles

-- a basic concept's code: below the concepts, or 64+q with q declared
unfoldable pub concept_declared : ℕ → ℕ → ℕ → Bool
concept_declared concepts roles b = cond (ltb b 64) (ltb b concepts) (role_declared roles (b - 64))

-- "Fact predicate: i for concept i, 64+j for role j."
unfoldable pub predicate_declared : ℕ → ℕ → ℕ → Bool
predicate_declared concepts roles p = cond (ltb p 64) (ltb p concepts) (ltb (p - 64) roles)

-- the rule of a kind and its codes; kind 4 has one code
abbrev pub rule_of : ℕ → ℕ → ℕ → Rule
rule_of zero x y = included (concept_of x) (concept_of y)
rule_of (suc zero) x y = disjoint (concept_of x) (concept_of y)
rule_of (suc (suc zero)) x y = role_included (role_of x) (role_of y)
rule_of (suc (suc (suc zero))) x y = role_disjoint (role_of x) (role_of y)
rule_of (suc (suc (suc (suc k)))) x y = functional (role_of x)
