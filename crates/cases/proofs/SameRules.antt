-- "Rules may repeat and come in any order": two rule files that declare as much and hold the same rules, however often and in whatever
-- order, are answered alike. Each step of what follows goes over; so the tables that decide it are the same, and all that is made of them.
use Prim.Native.Nat.{ℕ}
use mathlib.Core.Path.{◌≡◌, refl, sym, ap, ◌∙◌}
use mathlib.Core.Logic.{◌↔◌}
use mathlib.Core.List.{List, Memᴰ}
use lib.Dec.{ltb}
use Rattle.number.specs.Answer.{Answer, ◌then◌}
use Rattle.std.specs.Prelude.{Ok}
use Rattle.site.specs.declared.fact.Fact.{Fact}
use Rattle.site.specs.Kinds.{BasicRole, Node, Rule, Site, role_in, declared}
use Rattle.site.specs.Kinds.BasicConcept.{named, some}
use Rattle.site.specs.Kinds.Node.{concept, role}
use Rattle.site.specs.Kinds.Rule.{functional}
use Rattle.site.proofs.Lists.{same_test}
use Rattle.rule.specs.declared.head.Head.{Head}
use Rattle.rules.specs.Lawful.{Lawful}
use Rattle.rules.specs.RuleFile.{check_rules, site_of}
use Rattle.rules.proofs.AcceptedFile.{accepted_lawful}
use Rattle.bundle.specs.Bundle.{check_bundle, read_bundle}
use Rattle.steps.specs.Steps.{Included, Excluded}
use Rattle.steps.specs.Steps.Included.{by_rule as included-by-rule, step_1, step_2, step_3, step_4}
use Rattle.steps.specs.Steps.Excluded.{by_rule as excluded-by-rule, step_5, step_6, step_7, step_8}
use Rattle.steps.specs.Tables.{Follows, follows_of}
use Rattle.steps.proofs.Decided.{decides}
use Rattle.clean.specs.Operations.{given, marking, counting, asking, having, joining, keeping}

-- as much is declared, and each rule of one is a rule of the other
pub record SameRules (s t : Site) : Type 0 where
  pub concepts : s.concepts ≡ t.concepts
  pub roles : s.roles ≡ t.roles
  pub there : (r : Rule) → Memᴰ r s.rules → Memᴰ r t.rules
  pub back : (r : Rule) → Memᴰ r t.rules → Memᴰ r s.rules

turned_over : {s t : Site} → SameRules s t → SameRules t s
turned_over same = record { concepts = sym same.concepts; roles = sym same.roles; there = same.back; back = same.there }

declared_same : {s t : Site} → SameRules s t → (x : Node) → declared t x ≡ declared s x
declared_same same (concept (named i)) = ap (ltb i) (sym same.concepts)
declared_same same (concept (some q)) = ap (ltb (role_in q)) (sym same.roles)
declared_same same (role q) = ap (ltb (role_in q)) (sym same.roles)

included_over : {s t : Site} {x y : Node} → SameRules s t → Included s x y → Included t x y
included_over same (included-by-rule {r = r} m k) = included-by-rule (same.there r m) k
included_over same (step_1 {x = x} d) = step_1 (declared_same same x ∙ d)
included_over same (step_2 i j) = step_2 (included_over same i) (included_over same j)
included_over same (step_3 i) = step_3 (included_over same i)
included_over same (step_4 i) = step_4 (included_over same i)

excluded_over : {s t : Site} {x y : Node} → SameRules s t → Excluded s x y → Excluded t x y
excluded_over same (excluded-by-rule {r = r} m k) = excluded-by-rule (same.there r m) k
excluded_over same (step_5 e) = step_5 (excluded_over same e)
excluded_over same (step_6 i e) = step_6 (included_over same i) (excluded_over same e)
excluded_over same (step_7 e) = step_7 (excluded_over same e)
excluded_over same (step_8 o p e) = step_8 o p (excluded_over same e)

-- the same follows
pub included_same : {s t : Site} → SameRules s t → (x y : Node) → Included s x y ↔ Included t x y
included_same same x y = (included_over same, included_over (turned_over same))

pub excluded_same : {s t : Site} → SameRules s t → (x y : Node) → Excluded s x y ↔ Excluded t x y
excluded_same same x y = (excluded_over same, excluded_over (turned_over same))

-- the tables are the same
pub follows_same : (s t : Site) → Lawful s → Lawful t → SameRules s t → follows_of s ≡ follows_of t
follows_same s t lawful-s lawful-t same =
    let p = decides s lawful-s in
    let q = decides t lawful-t in
    let included : (x y : Node) → (follows_of s).is_included x y ≡ (follows_of t).is_included x y =
    λ x y. same_test ((follows_of s).is_included x y) ((follows_of t).is_included x y) (λ e. (q.included x y).1 (included_over same ((p.included x y).0 e)))
    (λ e. (p.included x y).1 (included_over (turned_over same) ((q.included x y).0 e))) in
    let excluded : (x y : Node) → (follows_of s).is_excluded x y ≡ (follows_of t).is_excluded x y =
    λ x y. same_test ((follows_of s).is_excluded x y) ((follows_of t).is_excluded x y) (λ e. (q.excluded x y).1 (excluded_over same ((p.excluded x y).0 e)))
    (λ e. (p.excluded x y).1 (excluded_over (turned_over same) ((q.excluded x y).0 e))) in
    let functionals : (r : BasicRole) → (follows_of s).is_functional r ≡ (follows_of t).is_functional r =
    λ r. same_test ((follows_of s).is_functional r) ((follows_of t).is_functional r)
    (λ e. (q.functional_by r).1 (same.there (functional r) ((p.functional_by r).0 e)))
    (λ e. (p.functional_by r).1 (same.back (functional r) ((q.functional_by r).0 e))) in
    λ i. record { is_included = λ x y. included x y i; is_excluded = λ x y. excluded x y i; is_functional = λ r. functionals r i }

-- a bundle is read by what is declared alone
abbrev bare : ℕ → ℕ → Head
bare concepts roles = record { concepts = concepts; roles = roles; rules = 0; start = 0 }

read_bare : (h : Head) (bundle : List ℕ) → read_bundle h bundle ≡ read_bundle (bare h.concepts h.roles) bundle
unfolding check_bundle read_bundle
read_bare h bundle = refl

-- two accepted rule files of the same rules
module _ (rules rules' : List ℕ) (h h' : Head) (a : check_rules rules ≡ Ok h) (a' : check_rules rules' ≡ Ok h')
    (same : SameRules (site_of rules h) (site_of rules' h')) (bundle : List ℕ) where
  concepts_same : h.concepts ≡ h'.concepts
  unfolding site_of
  concepts_same = same.concepts

  roles_same : h.roles ≡ h'.roles
  unfolding site_of
  roles_same = same.roles

  -- whatever is made of what is declared, of what follows and of the facts
  given_same : {A : Type 0} (k : Head → Follows → List Fact → Answer A)
      → ((g g' : Head) → g.concepts ≡ g'.concepts → g.roles ≡ g'.roles → (t : Follows) (facts : List Fact) → k g t facts ≡ k g' t facts)
      → given rules bundle k ≡ given rules' bundle k
  unfolding given
  given_same k made =
      let follows = follows_same (site_of rules h) (site_of rules' h') (accepted_lawful rules h a) (accepted_lawful rules' h' a') same in
      let reading = read_bare h bundle ∙ (λ i. read_bundle (bare (concepts_same i) (roles_same i)) bundle) ∙ sym (read_bare h' bundle) in
      rw (a, a')
      ((λ i. reading i then λ facts. k h (follows i) facts)
      ∙ (λ i. read_bundle h' bundle then λ facts. made h h' concepts_same roles_same (follows_of (site_of rules' h')) facts i))

  -- each operation answers alike
  pub marking_same : (marks_room partners_room : ℕ) → marking rules bundle marks_room partners_room ≡ marking rules' bundle marks_room partners_room
  unfolding marking
  marking_same marks_room partners_room = given_same _ (λ g g' c r t facts. refl)

  pub counting_same : counting rules bundle ≡ counting rules' bundle
  unfolding counting
  counting_same = given_same _ (λ g g' c r t facts. refl)

  pub asking_same : (n : ℕ) → asking rules bundle n ≡ asking rules' bundle n
  unfolding asking
  asking_same n = given_same _ (λ g g' c r t facts. refl)

  pub having_same : (code thing : ℕ) → having rules bundle code thing ≡ having rules' bundle code thing
  unfolding having
  having_same code thing = given_same _ (λ g g' c r t facts. rw (c, r))

  pub joining_same : (code from to : ℕ) → joining rules bundle code from to ≡ joining rules' bundle code from to
  unfolding joining
  joining_same code from to = given_same _ (λ g g' c r t facts. rw r)

  pub keeping_same : (room : ℕ) → keeping rules bundle room ≡ keeping rules' bundle room
  unfolding keeping
  keeping_same room = given_same _ (λ g g' c r t facts. refl)
