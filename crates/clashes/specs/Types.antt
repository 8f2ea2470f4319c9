-- The types of a fact. A concept's type at a thing is placed at the pair of that thing and itself, so that things and pairs are one case.
-- A concept's type and a role's type never meet, though both may stand at (a,a): what follows relates concepts with concepts and roles with
-- roles only, `included_sort` and `excluded_sort` (steps/proofs/Laws.antt).
use Rattle.std.specs.Prelude.{ℕ, ◌-◌, cond, List, [], ◌∷◌}
use Rattle.site.specs.declared.fact.Fact.{Fact}
use Rattle.site.specs.Kinds.{Node, of_concept}
use Rattle.site.specs.Kinds.BasicRole.{forward, inverse}
use Rattle.site.specs.Kinds.BasicConcept.{named, some}
use Rattle.site.specs.Kinds.Node.{concept, role}

-- the thing that a device number stands for: "Two different device numbers always name two different things."
abbrev pub itself : ℕ → ℕ
itself a = a

-- a node at an ordered pair
pub record Typ : Type 0 where
  pub node : Node
  pub from : ℕ
  pub to : ℕ

-- such a node at such a pair
abbrev pub typ : Node → ℕ → ℕ → Typ
typ node from to = record { node = node; from = from; to = to }

-- "A(a): A at a."
abbrev pub concept_types : ℕ → ℕ → List Typ
concept_types i a = typ (concept (named i)) a a ∷ []

-- "R(a,b): 64+2j at a, 64+2j+1 at b; 2j at the pair (a,b), 2j+1 at the pair (b,a)."
abbrev pub role_types : ℕ → ℕ → ℕ → List Typ
role_types j a b =
    typ (concept (some (forward j))) a a
    ∷ typ (concept (some (inverse j))) b b
    ∷ typ (role (forward j)) a b
    ∷ typ (role (inverse j)) b a
    ∷ []

-- the types of a fact; ρ gives the thing that a device number stands for
unfoldable pub types_of : (ℕ → ℕ) → Fact → List Typ
types_of ρ f =
    cond (of_concept f)
    (concept_types f.predicate (ρ f.subject))
    (role_types (f.predicate - 64) (ρ f.subject) (ρ f.object))
