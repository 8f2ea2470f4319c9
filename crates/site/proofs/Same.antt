-- The tests of equality on basic roles and nodes pass exactly where the two are the same.
use mathlib.Core.Path.{◌≡◌, refl, ap}
use mathlib.Core.Bool.{true, false≢true}
use borrow.Author.Tests.{eqb-true, eq-eqb}
use Rattle.site.specs.Kinds.{BasicRole, Node, turned, role_in, same_role, same_node}
use Rattle.site.specs.Kinds.BasicRole.{forward, inverse}
use Rattle.site.specs.Kinds.BasicConcept.{named, some}
use Rattle.site.specs.Kinds.Node.{concept, role}

-- turning twice
pub turned_twice : (q : BasicRole) → turned (turned q) ≡ q
turned_twice (forward j) = refl
turned_twice (inverse j) = refl

pub role_in_turned : (q : BasicRole) → role_in (turned q) ≡ role_in q
role_in_turned (forward j) = refl
role_in_turned (inverse j) = refl

pub same_role_refl : (q : BasicRole) → same_role q q ≡ true
same_role_refl (forward j) = eq-eqb j j refl
same_role_refl (inverse j) = eq-eqb j j refl

pub same_role_lem : (p q : BasicRole) → same_role p q ≡ true → p ≡ q
same_role_lem (forward i) (forward j) e = ap forward (eqb-true i j e)
same_role_lem (forward i) (inverse j) e = absurd (false≢true e)
same_role_lem (inverse i) (forward j) e = absurd (false≢true e)
same_role_lem (inverse i) (inverse j) e = ap inverse (eqb-true i j e)

pub same_node_refl : (x : Node) → same_node x x ≡ true
same_node_refl (concept (named i)) = eq-eqb i i refl
same_node_refl (concept (some q)) = same_role_refl q
same_node_refl (role q) = same_role_refl q

pub same_node_lem : (x y : Node) → same_node x y ≡ true → x ≡ y
same_node_lem (concept (named i)) (concept (named j)) e = ap (λ k. concept (named k)) (eqb-true i j e)
same_node_lem (concept (named i)) (concept (some q)) e = absurd (false≢true e)
same_node_lem (concept (some p)) (concept (named j)) e = absurd (false≢true e)
same_node_lem (concept (some p)) (concept (some q)) e = ap (λ k. concept (some k)) (same_role_lem p q e)
same_node_lem (concept (named i)) (role q) e = absurd (false≢true e)
same_node_lem (concept (some p)) (role q) e = absurd (false≢true e)
same_node_lem (role p) (concept b) e = absurd (false≢true e)
same_node_lem (role p) (role q) e = ap role (same_role_lem p q e)
