-- The kinds of document 01: basic roles and concepts, nodes, rules, facts, and a site's rules as a whole.
use Rattle.std.specs.Prelude.{ℕ, Bool, false, ◌&&◌, ◌||◌, List, eqb, ltb}
use Rattle.site.specs.declared.fact.Fact.{Fact}

-- "Basic role q: 2j for role j, 2j+1 for its inverse."
pub data BasicRole : Type 0 where
  forward inverse : ℕ → BasicRole

-- "The inverse of a basic role swaps the two."
abbrev pub turned : BasicRole → BasicRole
turned (forward j) = inverse j
turned (inverse j) = forward j

-- "Basic concept: a concept's code i, or 64+q for 'has some partner by q'"
pub data BasicConcept : Type 0 where
  named : ℕ → BasicConcept
  some : BasicRole → BasicConcept

-- what is included or excluded: "for concepts and for roles"
pub data Node : Type 0 where
  concept : BasicConcept → Node
  role : BasicRole → Node

-- "A rule is its kind, then its codes": kinds 0 to 4
pub data Rule : Type 0 where
  included disjoint : BasicConcept → BasicConcept → Rule
  role_included role_disjoint : BasicRole → BasicRole → Rule
  functional : BasicRole → Rule

-- a rule file: how many concepts and roles it declares, and its rules
pub record Site : Type 0 where
  pub concepts : ℕ
  pub roles : ℕ
  pub rules : List Rule

-- the role of a basic role
abbrev pub role_in : BasicRole → ℕ
role_in (forward j) = j
role_in (inverse j) = j

-- "A code above its kind's range is undeclared."
abbrev pub declared_role : Site → BasicRole → Bool
declared_role s q = ltb (role_in q) s.roles

-- the same of concepts and roles together
abbrev pub declared : Site → Node → Bool
declared s (concept (named i)) = ltb i s.concepts
declared s (concept (some q)) = declared_role s q
declared s (role q) = declared_role s q

-- tests of equality
abbrev pub same_role : BasicRole → BasicRole → Bool
same_role (forward i) (forward j) = eqb i j
same_role (forward i) (inverse j) = false
same_role (inverse i) (forward j) = false
same_role (inverse i) (inverse j) = eqb i j

-- two codes of one kind that are the same
abbrev pub same_node : Node → Node → Bool
same_node (concept (named i)) (concept (named j)) = eqb i j
same_node (concept (named i)) (concept (some q)) = false
same_node (concept (some p)) (concept (named j)) = false
same_node (concept (some p)) (concept (some q)) = same_role p q
same_node (concept b) (role q) = false
same_node (role p) (concept b) = false
same_node (role p) (role q) = same_role p q

-- "Facts ascend strictly by predicate, then subject, then object."
abbrev pub below : Fact → Fact → Bool
below f g =
    ltb f.predicate g.predicate
    || eqb f.predicate g.predicate
    && (ltb f.subject g.subject || eqb f.subject g.subject && ltb f.object g.object)

-- "Fact predicate: i for concept i, 64+j for role j."
abbrev pub of_concept : Fact → Bool
of_concept f = ltb f.predicate 64
