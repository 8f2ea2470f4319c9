-- The same as tables that compute, sized by what is declared: an entry for each pair of declared nodes.
use Rattle.std.specs.Prelude.{ℕ, Bool, false, cond, ◌&&◌, ◌||◌, List, [], ◌∷◌, ◌++◌, map}
use Rattle.site.specs.Kinds.{BasicRole, Node, Rule, Site, turned, same_role, same_node}
use Rattle.site.specs.Kinds.BasicRole.{forward, inverse}
use Rattle.site.specs.Kinds.BasicConcept.{named, some}
use Rattle.site.specs.Kinds.Node.{concept, role}
use Rattle.site.specs.Kinds.Rule.{included, disjoint, role_included, role_disjoint, functional}
use Rattle.site.specs.Lists.{up_to, any, each}

-- a relation that computes
abbrev pub Relation : Type 0
Relation = Node → Node → Bool

-- the declared nodes
unfoldable pub roles_of : ℕ → List BasicRole
roles_of n = each (λ j. forward j ∷ inverse j ∷ []) (up_to n)

-- the basic concepts and the basic roles of a site
unfoldable pub nodes_of : Site → List Node
nodes_of s =
    map (λ i. concept (named i)) (up_to s.concepts)
    ++ (map (λ q. concept (some q)) (roles_of s.roles) ++ map (λ q. role q) (roles_of s.roles))

-- two nodes, in order
pub record Pair : Type 0 where
  pub left : Node
  pub right : Node

-- what a rule says is included, with what steps 3 and 4 make of it at once
abbrev pub arrows_of : Rule → List Pair
arrows_of (included b c) = record { left = concept b; right = concept c } ∷ []
arrows_of (role_included p q) =
    record { left = role p; right = role q }
    ∷ record { left = role (turned p); right = role (turned q) }
    ∷ record { left = concept (some p); right = concept (some q) }
    ∷ record { left = concept (some (turned p)); right = concept (some (turned q)) }
    ∷ []
arrows_of (disjoint b c) = []
arrows_of (role_disjoint p q) = []
arrows_of (functional q) = []

-- what a rule says is excluded, with what step 7 makes of it at once
abbrev pub written_of : Rule → List Pair
written_of (disjoint b c) = record { left = concept b; right = concept c } ∷ []
written_of (role_disjoint p q) =
    record { left = role p; right = role q } ∷ record { left = role (turned p); right = role (turned q) } ∷ []
written_of (included b c) = []
written_of (role_included p q) = []
written_of (functional q) = []

-- what the rules say is included
unfoldable pub arrow : List Rule → Relation
arrow rules x y = any (λ r. any (λ a. same_node a.left x && same_node a.right y) (arrows_of r)) rules

-- step 8's three: a basic role, having some partner by it, and having some partner by its inverse
unfoldable pub mates : Relation
mates (role q) (role p) = same_role q p
mates (role q) (concept (some p)) = same_role q p || same_role (turned q) p
mates (role q) (concept (named i)) = false
mates (concept (some p)) (role q) = same_role q p || same_role (turned q) p
mates (concept (some p)) (concept (some q)) = same_role p q || same_role (turned p) q
mates (concept (some p)) (concept (named i)) = false
mates (concept (named i)) y = false

-- a table, one row a node, and what stands in it for two nodes
unfoldable pub find : {A : Type 0} → A → List Node → List A → Node → A
find none [] rows x = none
find none (n ∷ ns) [] x = none
find none (n ∷ ns) (row ∷ rows) x = cond (same_node n x) row (find none ns rows x)

-- the table of a relation
unfoldable pub rows_of : List Node → Relation → List (List Bool)
rows_of nodes R = map (λ x. map (λ y. R x y) nodes) nodes

-- the relation of a table
unfoldable pub looked : List Node → List (List Bool) → Relation
looked nodes rows x y = find false nodes (find [] nodes rows x) y

-- the smallest reflexive and transitive relation with R on these nodes: one node after the other may be gone by
unfoldable pub through : List Node → List Node → List (List Bool) → List (List Bool)
through nodes [] rows = rows
through nodes (m ∷ ms) rows =
    through nodes ms (rows_of nodes (λ x y. looked nodes rows x y || looked nodes rows x m && looked nodes rows m y))

-- steps 1 and 2
unfoldable pub closure : List Node → Relation → List (List Bool)
closure nodes R = through nodes nodes (rows_of nodes (λ x y. same_node x y || R x y))

-- a way from each of the two nodes to the two sides of a written exclusion
unfoldable pub apart : Relation → List Rule → Relation
apart leads rules x y =
    any (λ r. any (λ w. leads x w.left && leads y w.right || leads x w.right && leads y w.left) (written_of r)) rules

-- a node that leads, by arrows and by step 8, to one that is kept apart from itself
unfoldable pub empty : List Node → Relation → Relation → Node → Bool
empty nodes leads_on is_apart x = any (λ z. leads_on x z && is_apart z z) nodes

-- kept apart, or both within an empty node
unfoldable pub excludes : List Node → Relation → Relation → (Node → Bool) → Relation
excludes nodes leads is_apart is_empty x y = is_apart x y || any (λ z. leads x z && leads y z && is_empty z) nodes

-- what follows from a site's rules
pub record Follows : Type 0 where
  pub is_included : Relation
  pub is_excluded : Relation
  pub is_functional : BasicRole → Bool

-- "q is functional"
abbrev pub says_functional : BasicRole → Rule → Bool
says_functional q (functional p) = same_role p q
says_functional q (included b c) = false
says_functional q (disjoint b c) = false
says_functional q (role_included p r) = false
says_functional q (role_disjoint p r) = false

-- some rule says so
unfoldable pub functional_in : List Rule → BasicRole → Bool
functional_in rules q = any (says_functional q) rules

-- what is excluded, as a table
unfoldable pub excluded_rows : List Node → List Rule → Relation → Relation → List (List Bool)
excluded_rows nodes rules leads leads_on =
    rows_of nodes (excludes nodes leads (apart leads rules) (empty nodes leads_on (apart leads rules)))

-- what follows, by the tables of what leads where
unfoldable pub follows_from : List Node → List Rule → List (List Bool) → List (List Bool) → Follows
follows_from nodes rules rows rows_on =
    record {
      is_included = looked nodes rows;
      is_excluded = looked nodes (excluded_rows nodes rules (looked nodes rows) (looked nodes rows_on));
      is_functional = functional_in rules;
    }

-- "Inclusions that follow", of a site
unfoldable pub follows_of : Site → Follows
follows_of s =
    follows_from (nodes_of s) s.rules
    (closure (nodes_of s) (arrow s.rules))
    (closure (nodes_of s) (λ x y. arrow s.rules x y || mates x y))
