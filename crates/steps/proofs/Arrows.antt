-- Included is the closure of the rules' arrows. A closure of arrows can be turned, and taken to "has some partner", arrow by arrow: what a
-- rule gives, it gives turned and of partners too.
use mathlib.Core.Path.{◌≡◌, refl, sym, ap, subst, subst₂, ◌∙◌}
use mathlib.Core.Bool.{true, ◌&&◌}
use mathlib.Core.List.Memᴰ
use mathlib.Core.List.{List, Memᴰ}
use Rattle.site.specs.Kinds.{BasicRole, Node, Rule, Site, declared, same_node}
use Rattle.site.specs.Kinds.Node.{role}
use Rattle.site.specs.Kinds.Rule.{included, disjoint, role_included, role_disjoint, functional}
use Rattle.site.specs.Lists.{any}
use Rattle.site.proofs.Lists.{any_found, any_of, and_left, and_right, and_both}
use Rattle.site.proofs.Same.{same_node_lem, same_node_refl, turned_twice}
use Rattle.rules.specs.Lawful.{Lawful}
use Rattle.steps.specs.Steps.{SaysIncluded, Included}
use Rattle.steps.specs.Steps.SaysIncluded.{kind_0, kind_2}
use Rattle.steps.specs.Steps.Included.{by_rule, step_1, step_2, step_3, step_4}
use Rattle.steps.specs.Tables.{Pair, arrows_of, arrow, nodes_of}
use Rattle.steps.specs.Closed.{Closed}
use Rattle.steps.specs.Closed.Closed.{here, one, on}
use Rattle.steps.proofs.Rows.{On}
use Rattle.steps.proofs.Closing.{Reaches}
use Rattle.steps.proofs.Declares.{node_in, node_out}
use Rattle.steps.proofs.Laws.{turned_node, some_node, turned_kept, some_kept, included_declared}

-- where an arrow comes from
pub record Given (rules : List Rule) (x y : Node) : Type 0 where
  pub rule : Rule
  pub among : Memᴰ rule rules
  pub pair : Pair
  pub of_rule : Memᴰ pair (arrows_of rule)
  pub is_left : pair.left ≡ x
  pub is_right : pair.right ≡ y

module _ (rules : List Rule) where
  pub arrow_given : (x y : Node) → arrow rules x y ≡ true → Given rules x y
  unfolding arrow
  arrow_given x y h =
      let f = any_found (λ r. any (λ a. same_node a.left x && same_node a.right y) (arrows_of r)) rules h in
      let g = any_found (λ a. same_node a.left x && same_node a.right y) (arrows_of f.one) f.passes in
      let l = same_node g.one.left x in
      let r = same_node g.one.right y in
      record {
        rule = f.one;
        among = f.within;
        pair = g.one;
        of_rule = g.within;
        is_left = same_node_lem g.one.left x (and_left l r g.passes);
        is_right = same_node_lem g.one.right y (and_right l r g.passes);
      }

  pub arrow_of : {r : Rule} {a : Pair} → Memᴰ r rules → Memᴰ a (arrows_of r) → arrow rules a.left a.right ≡ true
  unfolding arrow
  arrow_of {r} {a} m n =
      any_of (λ r. any (λ b. same_node b.left a.left && same_node b.right a.right) (arrows_of r)) m
      (any_of (λ b. same_node b.left a.left && same_node b.right a.right) n
      (and_both (same_node a.left a.left) (same_node a.right a.right) (same_node_refl a.left) (same_node_refl a.right)))

-- a pair with a function on both sides
abbrev pub both : (Node → Node) → Pair → Pair
both f a = record { left = f a.left; right = f a.right }

pub roles_pair : {p q p' q' : BasicRole} → p ≡ p' → q ≡ q' → ◌≡◌ {A = Pair} (record { left = role p; right = role q }) (record { left = role p'; right = role q' })
roles_pair e f = λ i. record { left = role (e i); right = role (f i) }

-- the arrows of a rule, turned and of partners, are its arrows
arrows_turned : (r : Rule) {a : Pair} → Memᴰ a (arrows_of r) → Memᴰ (both turned_node a) (arrows_of r)
arrows_turned (included b c) (Memᴰ.head e) = Memᴰ.head (ap (both turned_node) e)
arrows_turned (included b c) (Memᴰ.tail m) = absurd (Memᴰ.not-nil m)
arrows_turned (role_included p q) (Memᴰ.head e) = Memᴰ.tail (Memᴰ.head (ap (both turned_node) e))
arrows_turned (role_included p q) (Memᴰ.tail (Memᴰ.head e)) = Memᴰ.head (ap (both turned_node) e ∙ roles_pair (turned_twice p) (turned_twice q))
arrows_turned (role_included p q) (Memᴰ.tail (Memᴰ.tail (Memᴰ.head e))) = Memᴰ.tail (Memᴰ.tail (Memᴰ.head (ap (both turned_node) e)))
arrows_turned (role_included p q) (Memᴰ.tail (Memᴰ.tail (Memᴰ.tail (Memᴰ.head e)))) = Memᴰ.tail (Memᴰ.tail (Memᴰ.tail (Memᴰ.head (ap (both turned_node) e))))
arrows_turned (role_included p q) (Memᴰ.tail (Memᴰ.tail (Memᴰ.tail (Memᴰ.tail m)))) = absurd (Memᴰ.not-nil m)
arrows_turned (disjoint b c) m = absurd (Memᴰ.not-nil m)
arrows_turned (role_disjoint p q) m = absurd (Memᴰ.not-nil m)
arrows_turned (functional q) m = absurd (Memᴰ.not-nil m)

arrows_some : (r : Rule) {a : Pair} → Memᴰ a (arrows_of r) → Memᴰ (both some_node a) (arrows_of r)
arrows_some (included b c) (Memᴰ.head e) = Memᴰ.head (ap (both some_node) e)
arrows_some (included b c) (Memᴰ.tail m) = absurd (Memᴰ.not-nil m)
arrows_some (role_included p q) (Memᴰ.head e) = Memᴰ.tail (Memᴰ.tail (Memᴰ.head (ap (both some_node) e)))
arrows_some (role_included p q) (Memᴰ.tail (Memᴰ.head e)) = Memᴰ.tail (Memᴰ.tail (Memᴰ.tail (Memᴰ.head (ap (both some_node) e))))
arrows_some (role_included p q) (Memᴰ.tail (Memᴰ.tail (Memᴰ.head e))) = Memᴰ.tail (Memᴰ.tail (Memᴰ.head (ap (both some_node) e)))
arrows_some (role_included p q) (Memᴰ.tail (Memᴰ.tail (Memᴰ.tail (Memᴰ.head e)))) = Memᴰ.tail (Memᴰ.tail (Memᴰ.tail (Memᴰ.head (ap (both some_node) e))))
arrows_some (role_included p q) (Memᴰ.tail (Memᴰ.tail (Memᴰ.tail (Memᴰ.tail m)))) = absurd (Memᴰ.not-nil m)
arrows_some (disjoint b c) m = absurd (Memᴰ.not-nil m)
arrows_some (role_disjoint p q) m = absurd (Memᴰ.not-nil m)
arrows_some (functional q) m = absurd (Memᴰ.not-nil m)

-- a closure taken along a function into another closure
pub closed_into : {A B : Type 0} {D : A → Type 0} {R : A → A → Type 0} {E : B → Type 0} {S : B → B → Type 0} (f : A → B) → ((x : A) → D x → E (f x)) → ((x y : A) → R x y → Closed E S (f x) (f y))
    → {x y : A} → Closed D R x y → Closed E S (f x) (f y)
closed_into f d r (here {x} m) = here (d x m)
closed_into f d r (one {x} {y} h) = r x y h
closed_into f d r (on p q) = on (closed_into f d r p) (closed_into f d r q)

module _ (s : Site) where
  -- the closure of the arrows on the declared nodes
  abbrev pub Leads : Node → Node → Type 0
  Leads = Reaches (nodes_of s) (arrow s.rules)

  -- each arrow follows
  arrow_follows : (r : Rule) {a : Pair} → Memᴰ r s.rules → Memᴰ a (arrows_of r) → Included s a.left a.right
  arrow_follows (included b c) m (Memᴰ.head e) = subst (λ a. Included s a.left a.right) (sym e) (by_rule m kind_0)
  arrow_follows (included b c) m (Memᴰ.tail n) = absurd (Memᴰ.not-nil n)
  arrow_follows (role_included p q) m (Memᴰ.head e) = subst (λ a. Included s a.left a.right) (sym e) (by_rule m kind_2)
  arrow_follows (role_included p q) m (Memᴰ.tail (Memᴰ.head e)) = subst (λ a. Included s a.left a.right) (sym e) (step_3 (by_rule m kind_2))
  arrow_follows (role_included p q) m (Memᴰ.tail (Memᴰ.tail (Memᴰ.head e))) = subst (λ a. Included s a.left a.right) (sym e) (step_4 (by_rule m kind_2))
  arrow_follows (role_included p q) m (Memᴰ.tail (Memᴰ.tail (Memᴰ.tail (Memᴰ.head e)))) = subst (λ a. Included s a.left a.right) (sym e) (step_4 (step_3 (by_rule m kind_2)))
  arrow_follows (role_included p q) m (Memᴰ.tail (Memᴰ.tail (Memᴰ.tail (Memᴰ.tail n)))) = absurd (Memᴰ.not-nil n)
  arrow_follows (disjoint b c) m n = absurd (Memᴰ.not-nil n)
  arrow_follows (role_disjoint p q) m n = absurd (Memᴰ.not-nil n)
  arrow_follows (functional q) m n = absurd (Memᴰ.not-nil n)

  pub arrow_included : (x y : Node) → arrow s.rules x y ≡ true → Included s x y
  arrow_included x y h =
      let g = arrow_given s.rules x y h in
      subst₂ (λ a b. Included s a b) g.is_left g.is_right (arrow_follows g.rule g.among g.of_rule)

  pub leads_included : {x y : Node} → Leads x y → Included s x y
  leads_included (here {x} m) = step_1 (node_out s x m)
  leads_included (one {x} {y} o) = arrow_included x y o.by
  leads_included (on p q) = step_2 (leads_included p) (leads_included q)

  module _ (f : Node → Node) (kept : (x : Node) → declared s x ≡ true → declared s (f x) ≡ true) (again : (r : Rule) (a : Pair) → Memᴰ a (arrows_of r) → Memᴰ (both f a) (arrows_of r)) where
    node_taken : (x : Node) → Memᴰ x (nodes_of s) → Memᴰ (f x) (nodes_of s)
    node_taken x m = node_in s (f x) (kept x (node_out s x m))

    arrow_taken : (x y : Node) → On (nodes_of s) (arrow s.rules) x y → On (nodes_of s) (arrow s.rules) (f x) (f y)
    arrow_taken x y o =
        let g = arrow_given s.rules x y o.by in
        record {
          from = node_taken x o.from;
          to = node_taken y o.to;
          by = subst₂ (λ a b. arrow s.rules (f a) (f b) ≡ true) g.is_left g.is_right (arrow_of s.rules g.among (again g.rule g.pair g.of_rule));
        }

    leads_taken : {x y : Node} → Leads x y → Leads (f x) (f y)
    leads_taken h = closed_into f node_taken (λ x y o. one (arrow_taken x y o)) h

  pub leads_turned : {x y : Node} → Leads x y → Leads (turned_node x) (turned_node y)
  leads_turned h = leads_taken turned_node (turned_kept s) (λ r a m. arrows_turned r m) h

  pub leads_some : {x y : Node} → Leads x y → Leads (some_node x) (some_node y)
  leads_some h = leads_taken some_node (some_kept s) (λ r a m. arrows_some r m) h

  module _ (lawful : Lawful s) where
    rule_leads : {r : Rule} {x y : Node} → Memᴰ r s.rules → SaysIncluded r x y → Leads x y
    rule_leads m kind_0 =
        let b = included_declared s lawful (by_rule m kind_0) in
        one (record { from = node_in s _ b.left; to = node_in s _ b.right; by = arrow_of s.rules m (Memᴰ.head refl) })
    rule_leads m kind_2 =
        let b = included_declared s lawful (by_rule m kind_2) in
        one (record { from = node_in s _ b.left; to = node_in s _ b.right; by = arrow_of s.rules m (Memᴰ.head refl) })

    pub included_leads : {x y : Node} → Included s x y → Leads x y
    included_leads (by_rule m h) = rule_leads m h
    included_leads (step_1 {x} d) = here (node_in s x d)
    included_leads (step_2 h k) = on (included_leads h) (included_leads k)
    included_leads (step_3 h) = leads_turned (included_leads h)
    included_leads (step_4 h) = leads_some (included_leads h)
