-- "Inclusions that follow": what is included and what is excluded, one constructor for each of document 01's steps.
use Rattle.std.specs.Prelude.{◌≡◌, true}
use mathlib.Core.List.{Memᴰ}
use Rattle.site.specs.Kinds.{BasicRole, BasicConcept, Node, Rule, Site, turned, declared}
use Rattle.site.specs.Kinds.BasicConcept.{some}
use Rattle.site.specs.Kinds.Node.{concept, role}
use Rattle.site.specs.Kinds.Rule.{included, disjoint, role_included, role_disjoint}

-- what kind 0 and kind 2 rules say: X is included in Y
pub data SaysIncluded : Rule → Node → Node → Type 0 where
  kind_0 : {b c : BasicConcept} → SaysIncluded (included b c) (concept b) (concept c)
  kind_2 : {p q : BasicRole} → SaysIncluded (role_included p q) (role p) (role q)

-- what kind 1 and kind 3 rules say: X and Y are disjoint
pub data SaysExcluded : Rule → Node → Node → Type 0 where
  kind_1 : {b c : BasicConcept} → SaysExcluded (disjoint b c) (concept b) (concept c)
  kind_3 : {p q : BasicRole} → SaysExcluded (role_disjoint p q) (role p) (role q)

-- "Included (positive): the smallest relation with all kind 0 and kind 2 rules that is reflexive on declared codes (step 1) and transitive
-- (X in Y, Y in Z; step 2), where q1 in q2 also gives inverse q1 in inverse q2 (step 3), and 64+q1 in 64+q2 (step 4)."
pub data Included (s : Site) : Node → Node → Type 0 where
  by_rule : {r : Rule} {x y : Node} → Memᴰ r s.rules → SaysIncluded r x y → Included s x y
  step_1 : {x : Node} → declared s x ≡ true → Included s x x
  step_2 : {x y z : Node} → Included s x y → Included s y z → Included s x z
  step_3 : {p q : BasicRole} → Included s (role p) (role q) → Included s (role (turned p)) (role (turned q))
  step_4 : {p q : BasicRole} → Included s (role p) (role q) → Included s (concept (some p)) (concept (some q))

-- "one of q, 64+q, 64+(inverse of q)"
pub data OneOf (q : BasicRole) : Node → Type 0 where
  itself : OneOf q (role q)
  has : OneOf q (concept (some q))
  has_inverse : OneOf q (concept (some (turned q)))

-- "Excluded (negative): the smallest relation with all kind 1 and kind 3 rules such that it is symmetric (step 5); X in Y and Y excluding Z
-- give X excluding Z, for concepts and for roles (step 6); q1 excluding q2 gives the same of their inverses (step 7); if one of q, 64+q,
-- 64+(inverse of q) excludes itself, all three do (step 8)."
pub data Excluded (s : Site) : Node → Node → Type 0 where
  by_rule : {r : Rule} {x y : Node} → Memᴰ r s.rules → SaysExcluded r x y → Excluded s x y
  step_5 : {x y : Node} → Excluded s x y → Excluded s y x
  step_6 : {x y z : Node} → Included s x y → Excluded s y z → Excluded s x z
  step_7 : {p q : BasicRole} → Excluded s (role p) (role q) → Excluded s (role (turned p)) (role (turned q))
  step_8 : {q : BasicRole} {x y : Node} → OneOf q x → OneOf q y → Excluded s x x → Excluded s y y
