-- What holds of included and excluded in every lawful site: only declared nodes are related, concepts with concepts and roles with roles,
-- inclusions hold turned and of partners too, and a functional role includes only itself. Each is by induction on the steps.
use mathlib.Core.Path.{◌≡◌, refl, sym, ap, subst, ◌∙◌}
use mathlib.Core.Bool.{Bool, true, false}
use mathlib.Core.List.{Memᴰ}
use Rattle.site.specs.Kinds.{BasicRole, Node, Rule, Site, turned, role_in, declared, declared_role}
use Rattle.site.specs.Kinds.BasicRole.{forward, inverse}
use Rattle.site.specs.Kinds.BasicConcept.{some}
use Rattle.site.specs.Kinds.Node.{concept, role}
use Rattle.site.specs.Kinds.Rule.{functional}
use Rattle.site.proofs.Lists.{and_left, and_right}
use Rattle.site.proofs.Same.{role_in_turned}
use Rattle.rule.specs.OneRule.{rule_declared}
use Rattle.rules.specs.Lawful.{Lawful}
use Rattle.steps.specs.Steps.{SaysIncluded, SaysExcluded, Included, Excluded, OneOf}
use Rattle.steps.specs.Steps.SaysIncluded.{kind_0, kind_2}
use Rattle.steps.specs.Steps.SaysExcluded.{kind_1, kind_3}
use Rattle.steps.specs.Steps.Included.{by_rule as rule-includes, step_1, step_2, step_3, step_4}
use Rattle.steps.specs.Steps.Excluded.{by_rule as rule-excludes, step_5, step_6, step_7, step_8}
use Rattle.steps.specs.Steps.OneOf.{itself, has, has_inverse}

-- both nodes are declared
pub record Both (s : Site) (x y : Node) : Type 0 where
  pub left : declared s x ≡ true
  pub right : declared s y ≡ true

-- the nodes turned: a role's inverse, and a concept as it is
abbrev pub turned_node : Node → Node
turned_node (concept b) = concept b
turned_node (role q) = role (turned q)

-- a role's "has some partner", and a concept as it is
abbrev pub some_node : Node → Node
some_node (concept b) = concept b
some_node (role q) = concept (some q)

-- is it a role?
abbrev pub is_role : Node → Bool
is_role (concept b) = false
is_role (role q) = true

-- a basic role of the role of q
abbrev OfRole : BasicRole → Node → Type 0
OfRole q (concept b) = ⊥
OfRole q (role r) = role_in r ≡ role_in q

module _ (s : Site) where
  pub declared_turned : (q : BasicRole) → declared_role s q ≡ true → declared_role s (turned q) ≡ true
  declared_turned (forward j) e = e
  declared_turned (inverse j) e = e

  pub turned_kept : (x : Node) → declared s x ≡ true → declared s (turned_node x) ≡ true
  turned_kept (concept b) e = e
  turned_kept (role q) e = declared_turned q e

  pub some_kept : (x : Node) → declared s x ≡ true → declared s (some_node x) ≡ true
  some_kept (concept b) e = e
  some_kept (role q) e = e

  pub declared_one_of : (q : BasicRole) {x : Node} → OneOf q x → declared s x ≡ true → declared_role s q ≡ true
  declared_one_of q itself e = e
  declared_one_of q has e = e
  declared_one_of (forward j) has_inverse e = e
  declared_one_of (inverse j) has_inverse e = e

  pub one_of_declared : (q : BasicRole) {x : Node} → OneOf q x → declared_role s q ≡ true → declared s x ≡ true
  one_of_declared q itself e = e
  one_of_declared q has e = e
  one_of_declared q has_inverse e = declared_turned q e

  -- what the steps keep of included
  pub declared_both_turned : (p q : BasicRole) → Both s (role p) (role q) → Both s (role (turned p)) (role (turned q))
  declared_both_turned p q b = record { left = declared_turned p b.left; right = declared_turned q b.right }

  -- inclusions turned round, and of the first thing alone
  pub included_turn : {x y : Node} → Included s x y → Included s (turned_node x) (turned_node y)
  included_turn (rule-includes m kind_0) = rule-includes m kind_0
  included_turn (rule-includes m kind_2) = step_3 (rule-includes m kind_2)
  included_turn (step_1 {x = x} h) = step_1 (turned_kept x h)
  included_turn (step_2 i k) = step_2 (included_turn i) (included_turn k)
  included_turn (step_3 i) = step_3 (step_3 i)
  included_turn (step_4 i) = step_4 i

  pub included_having : {x y : Node} → Included s x y → Included s (some_node x) (some_node y)
  included_having (rule-includes m kind_0) = rule-includes m kind_0
  included_having (rule-includes m kind_2) = step_4 (rule-includes m kind_2)
  included_having (step_1 {x = x} h) = step_1 (some_kept x h)
  included_having (step_2 i k) = step_2 (included_having i) (included_having k)
  included_having (step_3 i) = step_4 (step_3 i)
  included_having (step_4 i) = step_4 i

  pub included_sort : {x y : Node} → Included s x y → is_role x ≡ is_role y
  included_sort (rule-includes m kind_0) = refl
  included_sort (rule-includes m kind_2) = refl
  included_sort (step_1 d) = refl
  included_sort (step_2 h k) = included_sort h ∙ included_sort k
  included_sort (step_3 h) = refl
  included_sort (step_4 h) = refl

  pub excluded_sort : {x y : Node} → Excluded s x y → is_role x ≡ is_role y
  excluded_sort (rule-excludes m kind_1) = refl
  excluded_sort (rule-excludes m kind_3) = refl
  excluded_sort (step_5 h) = sym (excluded_sort h)
  excluded_sort (step_6 i h) = included_sort i ∙ excluded_sort h
  excluded_sort (step_7 h) = refl
  excluded_sort (step_8 o p h) = refl

  -- what lies within a node that excludes itself is excluded from all that lies within it
  pub excluded_within : {x y z : Node} → Included s x z → Included s y z → Excluded s z z → Excluded s x y
  excluded_within h k e = step_6 h (step_5 (step_6 k e))

  module _ (lawful : Lawful s) where
    says_included_declared : {r : Rule} {x y : Node} → SaysIncluded r x y → rule_declared s r ≡ true → Both s x y
    says_included_declared (kind_0 {b} {c}) e =
        record { left = and_left (declared s (concept b)) (declared s (concept c)) e; right = and_right (declared s (concept b)) (declared s (concept c)) e }
    says_included_declared (kind_2 {p} {q}) e =
        record { left = and_left (declared_role s p) (declared_role s q) e; right = and_right (declared_role s p) (declared_role s q) e }

    says_excluded_declared : {r : Rule} {x y : Node} → SaysExcluded r x y → rule_declared s r ≡ true → Both s x y
    says_excluded_declared (kind_1 {b} {c}) e =
        record { left = and_left (declared s (concept b)) (declared s (concept c)) e; right = and_right (declared s (concept b)) (declared s (concept c)) e }
    says_excluded_declared (kind_3 {p} {q}) e =
        record { left = and_left (declared_role s p) (declared_role s q) e; right = and_right (declared_role s p) (declared_role s q) e }

    pub included_declared : {x y : Node} → Included s x y → Both s x y
    included_declared (rule-includes {r} m h) = says_included_declared h (lawful.known r m)
    included_declared (step_1 d) = record { left = d; right = d }
    included_declared (step_2 h k) = record { left = (included_declared h).left; right = (included_declared k).right }
    included_declared (step_3 {p} {q} h) = declared_both_turned p q (included_declared h)
    included_declared (step_4 h) = record { left = (included_declared h).left; right = (included_declared h).right }

    pub excluded_declared : {x y : Node} → Excluded s x y → Both s x y
    excluded_declared (rule-excludes {r} m h) = says_excluded_declared h (lawful.known r m)
    excluded_declared (step_5 h) = record { left = (excluded_declared h).right; right = (excluded_declared h).left }
    excluded_declared (step_6 i h) = record { left = (included_declared i).left; right = (excluded_declared h).right }
    excluded_declared (step_7 {p} {q} h) = declared_both_turned p q (excluded_declared h)
    excluded_declared (step_8 {q} o p h) =
        let d = one_of_declared q p (declared_one_of q o (excluded_declared h).left) in
        record { left = d; right = d }

    -- "a functional role includes only itself"
    module _ (q : BasicRole) (is_functional_lem : Memᴰ (functional q) s.rules) where
      no_rule_lem : {r : Rule} {x y : Node} → Memᴰ r s.rules → SaysIncluded r x y → OfRole q y → ⊥
      no_rule_lem m kind_0 o = o
      no_rule_lem m (kind_2 {p} {q = r}) o = lawful.unbroken q p r is_functional_lem m o

      only_itself : {x y : Node} → Included s x y → OfRole q y → x ≡ y
      only_itself (rule-includes m h) o = absurd (no_rule_lem m h o)
      only_itself (step_1 d) o = refl
      only_itself (step_2 h k) o =
          let e = only_itself k o in
          only_itself h (subst (OfRole q) (sym e) o) ∙ e
      only_itself (step_3 {p} {q = r} h) o = ap turned_node (only_itself h (sym (role_in_turned r) ∙ o))
      only_itself (step_4 h) o = absurd o

      pub functional_alone : {x : Node} {r : BasicRole} → Included s x (role r) → role_in r ≡ role_in q → x ≡ role r
      functional_alone h e = only_itself h e
