-- Excluded is: kept apart by a written exclusion, or both within an empty node. A node is empty where arrows and step 8's mates lead from it to
-- one that is kept apart from itself. Such ways carry step 8 by themselves, so no step has to be repeated.
use mathlib.Core.Path.{◌≡◌, refl, sym, ap, subst, ◌∙◌}
use mathlib.Core.Bool.{true, true≢false, false≢true, ◌||◌}
use mathlib.Core.Logic.{◌⊎◌, inl, inr}
use mathlib.Core.List.Memᴰ
use mathlib.Core.List.{Memᴰ}
use Rattle.site.specs.Kinds.{BasicRole, Node, Rule, Site, turned, declared, declared_role, same_role}
use Rattle.site.specs.Kinds.BasicConcept.{named, some}
use Rattle.site.specs.Kinds.Node.{concept, role}
use Rattle.site.specs.Kinds.Rule.{included, disjoint, role_included, role_disjoint, functional}
use Rattle.site.proofs.Lists.{or_cases, or_left, or_right}
use Rattle.site.proofs.Same.{same_role_lem, same_role_refl, turned_twice}
use Rattle.rules.specs.Lawful.{Lawful}
use Rattle.steps.specs.Steps.{SaysExcluded, Included, Excluded, OneOf}
use Rattle.steps.specs.Steps.SaysExcluded.{kind_1, kind_3}
use Rattle.steps.specs.Steps.Included.{step_1, step_2, step_3}
use Rattle.steps.specs.Steps.Excluded.{by_rule, step_5, step_6, step_7, step_8}
use Rattle.steps.specs.Steps.OneOf.{itself, has, has_inverse}
use Rattle.steps.specs.Tables.{Pair, Relation, written_of, arrow, mates, nodes_of}
use Rattle.steps.specs.Closed.Closed.{here, one, on}
use Rattle.steps.proofs.Closing.{Reaches}
use Rattle.steps.proofs.Declares.{node_in}
use Rattle.steps.proofs.Laws.{turned_node, included_turn, declared_turned, one_of_declared, declared_one_of, included_declared, excluded_declared, included_sort, excluded_within}
use Rattle.steps.proofs.Arrows.{Leads, both, roles_pair, arrow_included, included_leads}

-- step 8's three are mates
pub mates_of : (q : BasicRole) {x y : Node} → OneOf q x → OneOf q y → mates x y ≡ true
unfolding mates
mates_of q itself itself = same_role_refl q
mates_of q itself has = or_left (same_role q q) (same_role (turned q) q) (same_role_refl q)
mates_of q itself has_inverse = or_right (same_role q (turned q)) (same_role (turned q) (turned q)) (same_role_refl (turned q))
mates_of q has itself = or_left (same_role q q) (same_role (turned q) q) (same_role_refl q)
mates_of q has has = or_left (same_role q q) (same_role (turned q) q) (same_role_refl q)
mates_of q has has_inverse = or_right (same_role q (turned q)) (same_role (turned q) (turned q)) (same_role_refl (turned q))
mates_of q has_inverse itself = or_right (same_role q (turned q)) (same_role (turned q) (turned q)) (same_role_refl (turned q))
mates_of q has_inverse has = or_right (same_role (turned q) q) (same_role (turned (turned q)) q) (subst (λ p. same_role p q ≡ true) (sym (turned_twice q)) (same_role_refl q))
mates_of q has_inverse has_inverse = or_left (same_role (turned q) (turned q)) (same_role (turned (turned q)) (turned q)) (same_role_refl (turned q))

-- and mates are step 8's three
pub record Three (x y : Node) : Type 0 where
  pub basic : BasicRole
  pub left : OneOf basic x
  pub right : OneOf basic y

one_of_either : (q p : BasicRole) → (same_role q p ≡ true) ⊎ (same_role (turned q) p ≡ true) → OneOf q (concept (some p))
one_of_either q p (inl e) = subst (λ r. OneOf q (concept (some r))) (same_role_lem q p e) has
one_of_either q p (inr e) = subst (λ r. OneOf q (concept (some r))) (same_role_lem (turned q) p e) has_inverse

pub of_mates : (x y : Node) → mates x y ≡ true → Three x y
unfolding mates
of_mates (role q) (role p) e = record { basic = q; left = itself; right = subst (λ r. OneOf q (role r)) (same_role_lem q p e) itself }
of_mates (role q) (concept (some p)) e = record { basic = q; left = itself; right = one_of_either q p (or_cases (same_role q p) (same_role (turned q) p) e) }
of_mates (role q) (concept (named i)) e = absurd (false≢true e)
of_mates (concept (some p)) (role q) e = record { basic = q; left = one_of_either q p (or_cases (same_role q p) (same_role (turned q) p) e); right = itself }
of_mates (concept (some p)) (concept (some q)) e = record { basic = p; left = has; right = one_of_either p q (or_cases (same_role p q) (same_role (turned p) q) e) }
of_mates (concept (some p)) (concept (named i)) e = absurd (false≢true e)
of_mates (concept (named i)) y e = absurd (false≢true e)

-- a rule's written exclusions, turned, are its written exclusions
written_turned : (r : Rule) {w : Pair} → Memᴰ w (written_of r) → Memᴰ (both turned_node w) (written_of r)
written_turned (disjoint b c) (Memᴰ.head e) = Memᴰ.head (ap (both turned_node) e)
written_turned (disjoint b c) (Memᴰ.tail m) = absurd (Memᴰ.not-nil m)
written_turned (role_disjoint p q) (Memᴰ.head e) = Memᴰ.tail (Memᴰ.head (ap (both turned_node) e))
written_turned (role_disjoint p q) (Memᴰ.tail (Memᴰ.head e)) = Memᴰ.head (ap (both turned_node) e ∙ roles_pair (turned_twice p) (turned_twice q))
written_turned (role_disjoint p q) (Memᴰ.tail (Memᴰ.tail m)) = absurd (Memᴰ.not-nil m)
written_turned (included b c) m = absurd (Memᴰ.not-nil m)
written_turned (role_included p q) m = absurd (Memᴰ.not-nil m)
written_turned (functional q) m = absurd (Memᴰ.not-nil m)

module _ (s : Site) where
  -- arrows, and step 8's mates
  abbrev pub onward : Relation
  onward x y = arrow s.rules x y || mates x y

  abbrev pub LeadsOn : Node → Node → Type 0
  LeadsOn = Reaches (nodes_of s) onward

  -- the two ways round
  pub data Across (x y : Node) (w : Pair) : Type 0 where
    straight : Included s x w.left → Included s y w.right → Across x y w
    crossed : Included s x w.right → Included s y w.left → Across x y w

  -- a way from each of the two nodes to the two sides of a written exclusion
  pub record Apart (x y : Node) : Type 0 where
    pub rule : Rule
    pub among : Memᴰ rule s.rules
    pub pair : Pair
    pub of_rule : Memᴰ pair (written_of rule)
    pub ways : Across x y pair

  -- a node that leads on to one that is kept apart from itself
  pub record Void (x : Node) : Type 0 where
    pub end : Node
    pub way : LeadsOn x end
    pub kept : Apart end end

  -- kept apart, or both within an empty node
  pub data Kept (x y : Node) : Type 0 where
    by_written : Apart x y → Kept x y
    by_void : (z : Node) → Included s x z → Included s y z → Void z → Kept x y

  -- each is excluded
  pub written_excludes : (r : Rule) {w : Pair} → Memᴰ r s.rules → Memᴰ w (written_of r) → Excluded s w.left w.right
  written_excludes (disjoint b c) m (Memᴰ.head e) = subst (λ w. Excluded s w.left w.right) (sym e) (by_rule m kind_1)
  written_excludes (disjoint b c) m (Memᴰ.tail n) = absurd (Memᴰ.not-nil n)
  written_excludes (role_disjoint p q) m (Memᴰ.head e) = subst (λ w. Excluded s w.left w.right) (sym e) (by_rule m kind_3)
  written_excludes (role_disjoint p q) m (Memᴰ.tail (Memᴰ.head e)) = subst (λ w. Excluded s w.left w.right) (sym e) (step_7 (by_rule m kind_3))
  written_excludes (role_disjoint p q) m (Memᴰ.tail (Memᴰ.tail n)) = absurd (Memᴰ.not-nil n)
  written_excludes (included b c) m n = absurd (Memᴰ.not-nil n)
  written_excludes (role_included p q) m n = absurd (Memᴰ.not-nil n)
  written_excludes (functional q) m n = absurd (Memᴰ.not-nil n)

  across_excludes : {x y : Node} {w : Pair} → Across x y w → Excluded s w.left w.right → Excluded s x y
  across_excludes (straight h k) e = step_6 h (step_5 (step_6 k (step_5 e)))
  across_excludes (crossed h k) e = step_6 h (step_5 (step_6 k e))

  apart_excludes : {x y : Node} → Apart x y → Excluded s x y
  apart_excludes a = across_excludes a.ways (written_excludes a.rule a.among a.of_rule)

  -- a way on carries emptiness back
  carries : {x y : Node} → LeadsOn x y → Excluded s y y → Excluded s x x
  carries (here m) e = e
  carries (one {x} {y} o) e = step (or_cases (arrow s.rules x y) (mates x y) o.by)
    where
      eight : Three x y → Excluded s x x
      eight t = step_8 t.right t.left e

      step : (arrow s.rules x y ≡ true) ⊎ (mates x y ≡ true) → Excluded s x x
      step (inl h) = step_6 (arrow_included s x y h) (step_5 (step_6 (arrow_included s x y h) e))
      step (inr h) = eight (of_mates x y h)
  carries (on p q) e = carries p (carries q e)

  void_excludes : {x : Node} → Void x → Excluded s x x
  void_excludes v = carries v.way (apart_excludes v.kept)

  pub kept_excluded : {x y : Node} → Kept x y → Excluded s x y
  kept_excluded (by_written a) = apart_excludes a
  kept_excluded (by_void z h k v) = excluded_within s h k (void_excludes v)

  -- and each step keeps it
  across_swap : {x y : Node} {w : Pair} → Across x y w → Across y x w
  across_swap (straight h k) = crossed k h
  across_swap (crossed h k) = straight k h

  across_down : {x y z : Node} {w : Pair} → Included s x y → Across y z w → Across x z w
  across_down i (straight h k) = straight (step_2 i h) k
  across_down i (crossed h k) = crossed (step_2 i h) k

  kept_swap : {x y : Node} → Kept x y → Kept y x
  kept_swap (by_written a) = by_written (record { rule = a.rule; among = a.among; pair = a.pair; of_rule = a.of_rule; ways = across_swap a.ways })
  kept_swap (by_void z h k v) = by_void z k h v

  kept_down : {x y z : Node} → Included s x y → Kept y z → Kept x z
  kept_down i (by_written a) = by_written (record { rule = a.rule; among = a.among; pair = a.pair; of_rule = a.of_rule; ways = across_down i a.ways })
  kept_down i (by_void w h k v) = by_void w (step_2 i h) k v

  across_turned : (p q : BasicRole) {w : Pair} → Across (role p) (role q) w → Across (role (turned p)) (role (turned q)) (both turned_node w)
  across_turned p q {w} (straight h k) = straight (included_turn s h) (included_turn s k)
  across_turned p q {w} (crossed h k) = crossed (included_turn s h) (included_turn s k)

  module _ (lawful : Lawful s) where
    -- mates lead on
    pub mates_lead : (q : BasicRole) {x y : Node} → OneOf q x → OneOf q y → declared_role s q ≡ true → LeadsOn x y
    mates_lead q {x} {y} o p d =
        one (record {
          from = node_in s x (one_of_declared s q o d);
          to = node_in s y (one_of_declared s q p d);
          by = or_right (arrow s.rules x y) (mates x y) (mates_of q o p);
        })

    widened : {x y : Node} → Leads s x y → LeadsOn x y
    widened (here m) = here m
    widened (one {x} {y} o) = one (record { from = o.from; to = o.to; by = or_left (arrow s.rules x y) (mates x y) o.by })
    widened (on p q) = on (widened p) (widened q)

    void_before : {x y : Node} → LeadsOn x y → Void y → Void x
    void_before l v = record { end = v.end; way = on l v.way; kept = v.kept }

    -- the inverse of an empty role is empty: both go with "has some partner by the role"
    void_turned : (q : BasicRole) → declared_role s q ≡ true → Void (role q) → Void (role (turned q))
    void_turned q d v =
        void_before (mates_lead (turned q) itself (subst (λ r. OneOf (turned q) (concept (some r))) (turned_twice q) has_inverse) (declared_turned s q d))
        (void_before (mates_lead q has itself d) v)

    kept_turned : (p q : BasicRole) → Kept (role p) (role q) → Kept (role (turned p)) (role (turned q))
    kept_turned p q (by_written a) =
        by_written (record { rule = a.rule; among = a.among; pair = both turned_node a.pair; of_rule = written_turned a.rule a.of_rule; ways = across_turned p q a.ways })
    kept_turned p q (by_void (role r) h k v) = by_void (role (turned r)) (step_3 h) (step_3 k) (void_turned r (included_declared s lawful h).right v)
    kept_turned p q (by_void (concept b) h k v) = absurd (true≢false (included_sort s h))

    across_from : {x y : Node} {w : Pair} → Across x y w → declared s x ≡ true
    across_from (straight h k) = (included_declared s lawful h).left
    across_from (crossed h k) = (included_declared s lawful h).left

    kept_from : {x y : Node} → Kept x y → declared s x ≡ true
    kept_from (by_written a) = across_from a.ways
    kept_from (by_void z h k v) = (included_declared s lawful h).left

    -- what is kept apart from itself is empty
    kept_void : {x : Node} → Kept x x → Void x
    kept_void {x} (by_written a) = record { end = x; way = here (node_in s x (across_from a.ways)); kept = a }
    kept_void (by_void z h k v) = void_before (widened (included_leads s lawful h)) v

    kept_mates : (q : BasicRole) {x y : Node} → OneOf q x → OneOf q y → Kept x x → Kept y y
    kept_mates q {x} {y} o p k =
        let d = declared_one_of s q o (kept_from k) in
        let i = step_1 (one_of_declared s q p d) in
        by_void y i i (void_before (mates_lead q p o d) (kept_void k))

    rule_kept : {r : Rule} {x y : Node} → Memᴰ r s.rules → SaysExcluded r x y → Kept x y
    rule_kept {r} m kind_1 =
        let b = excluded_declared s lawful (by_rule m kind_1) in
        by_written (record { rule = r; among = m; pair = record { left = _; right = _ }; of_rule = Memᴰ.head refl; ways = straight (step_1 b.left) (step_1 b.right) })
    rule_kept {r} m kind_3 =
        let b = excluded_declared s lawful (by_rule m kind_3) in
        by_written (record { rule = r; among = m; pair = record { left = _; right = _ }; of_rule = Memᴰ.head refl; ways = straight (step_1 b.left) (step_1 b.right) })

    pub excluded_kept : {x y : Node} → Excluded s x y → Kept x y
    excluded_kept (by_rule m h) = rule_kept m h
    excluded_kept (step_5 h) = kept_swap (excluded_kept h)
    excluded_kept (step_6 i h) = kept_down i (excluded_kept h)
    excluded_kept (step_7 {p} {q} h) = kept_turned p q (excluded_kept h)
    excluded_kept (step_8 {q} o p h) = kept_mates q o p (excluded_kept h)
