-- The tables of bits hold what the relations on nodes hold, by the nodes' numbers: what was added is what the rules give, and a closure of
-- numbers is the closure of their nodes.
use Prim.Native.Nat.{ℕ, ◌<◌}
use mathlib.Core.Path.{◌≡◌, refl, sym, ap, subst, subst₂, ◌∙◌}
use mathlib.Core.Bool.{true}
use mathlib.Core.Logic.{◌⊎◌, inl, inr}
use mathlib.Core.List.Memᴰ
use mathlib.Core.List.{List, ◌++◌, Memᴰ}
use borrow.Author.Tests.{lt-ltb, ltb-true}
use Rattle.site.specs.Kinds.{BasicRole, Node, Rule, Site, role_in, declared, declared_role}
use Rattle.site.specs.Kinds.BasicRole.{forward, inverse}
use Rattle.site.specs.Kinds.BasicConcept.{some}
use Rattle.site.specs.Kinds.Node.{concept, role}
use Rattle.site.specs.Codes.{node_of, node_code}
use Rattle.site.specs.Lists.{up_to, each}
use Rattle.site.proofs.Lists.{each_of, of_each, below_of_up_to, up_to_of_below, or_cases, or_left}
use Rattle.rules.specs.Lawful.{Lawful}
use Rattle.steps.specs.Closed.Closed.{here, one, on}
use Rattle.steps.specs.Steps.{Included, Excluded, OneOf}
use Rattle.steps.specs.Steps.OneOf.{itself, has, has_inverse}
use Rattle.steps.specs.Tables.{Pair, Relation, arrows_of, written_of, arrow, mates, nodes_of}
use Rattle.steps.proofs.Rows.{On}
use Rattle.steps.proofs.Closing.{Reaches}
use Rattle.steps.proofs.Declares.{node_in, node_out}
use Rattle.steps.proofs.Laws.{Both, included_declared, excluded_declared, declared_one_of}
use Rattle.steps.proofs.Arrows.{arrow_given, arrow_of, arrow_included, leads_included, included_leads, closed_into}
use Rattle.steps.proofs.Apart.{Three, of_mates, onward, LeadsOn, Across, Apart, Kept, written_excludes, mates_lead, kept_excluded, excluded_kept}
use Rattle.steps.proofs.Apart.Across.{straight, crossed}
use Rattle.steps.proofs.Apart.Kept.{by_written, by_void}
use Rattle.tables.specs.Bits.{Has}
use Rattle.tables.specs.Listed.{Listed}
use Rattle.tables.specs.Passes.{Within, Reach, Closes}
use Rattle.exclusions.specs.Lowering.{Order, Even, Meets, Shut, Shuts}
use Rattle.exclusions.specs.Lowering.Shut.{apart, void}
use Rattle.follows.specs.Adding.{AddedAll, in_both_orders, exclusions_of, ring, rings}
use Rattle.follows.specs.Tells.{Blank}
use Rattle.follows.proofs.Numbers.{node_code_lem, code_node, code_listed, listed_declared, declared_listed}
use Rattle.follows.proofs.Adds.{added_more}
use Rattle.follows.proofs.FromBlank.{FromPair, from_pair}

module _ (s : Site) (lawful : Lawful s) where
  abbrev c : ℕ
  c = s.concepts

  abbrev r : ℕ
  r = s.roles

  of_code : (u : ℕ) (n : Node) → declared s n ≡ true → u ≡ node_code n → node_of u ≡ n
  of_code u n d e = ap node_of e ∙ code_node s lawful n d

  in_nodes : (x : ℕ) → Listed c r x → Memᴰ (node_of x) (nodes_of s)
  in_nodes x l = node_in s (node_of x) (listed_declared s lawful x l)

  in_row_of : (n : Node) → Memᴰ n (nodes_of s) → Listed c r (node_code n)
  in_row_of n m = code_listed s lawful n (node_out s n m)

  -- a table whose closure is the closure of a relation on nodes, and one that holds that closure
  record Based (t : List ℕ) (R : Relation) : Type 0 where
    within : Within c r t
    out : (u v : ℕ) → Has t u v → Reaches (nodes_of s) R (node_of u) (node_of v)
    into : (m n : Node) → On (nodes_of s) R m n → Reach c r t (node_code m) (node_code n)

  pub record Stands (t : List ℕ) (R : Relation) : Type 0 where
    pub out : (u v : ℕ) → Has t u v → Reaches (nodes_of s) R (node_of u) (node_of v)
    pub into : (u v : ℕ) → Reaches (nodes_of s) R (node_of u) (node_of v) → Has t u v

  based_closes : {old new : List ℕ} {R : Relation} → Based old R → Closes c r old new → Stands new R
  based_closes {old} {new} {R} b k = record { out = λ u v h. closed_into node_of in_nodes b.out (k.sound u v h); into = back }
    where
      back : (u v : ℕ) → Reaches (nodes_of s) R (node_of u) (node_of v) → Has new u v
      back u v h =
          let p : Reach c r old (node_code (node_of u)) (node_code (node_of v)) = closed_into node_code in_row_of b.into h in
          k.whole b.within u v (subst₂ (λ x y. Reach c r old x y) (node_code_lem u) (node_code_lem v) p)

  reaches_from : {R : Relation} {m n : Node} → Reaches (nodes_of s) R m n → Memᴰ m (nodes_of s)
  reaches_from (here m) = m
  reaches_from (one o) = o.from
  reaches_from (on p q) = reaches_from p

  reaches_to : {R : Relation} {m n : Node} → Reaches (nodes_of s) R m n → Memᴰ n (nodes_of s)
  reaches_to (here m) = m
  reaches_to (one o) = o.to
  reaches_to (on p q) = reaches_to q

  listed_in : (x : ℕ) → Memᴰ (node_of x) (nodes_of s) → Listed c r x
  listed_in x m = declared_listed s lawful x (node_out s (node_of x) m)

  stands_order : {t : List ℕ} {R : Relation} → Stands t R → Order c r t
  stands_order b =
      record {
        within = record { from = λ u v h. listed_in u (reaches_from (b.out u v h)); to = λ u v h. listed_in v (reaches_to (b.out u v h)) };
        transitive = λ x y z h k. b.into x z (on (b.out x y h) (b.out y z k));
        same = λ x l. b.into x x (here (in_nodes x l));
      }

  -- the arrows
  pair_declared : (a : Pair) → Memᴰ a (each arrows_of s.rules) → Both s a.left a.right
  pair_declared a m =
      let f = of_each arrows_of s.rules m in
      included_declared s lawful (arrow_included s a.left a.right (arrow_of s.rules f.within f.given))

  pair_arrow : (u v : ℕ) → FromPair (each arrows_of s.rules) u v → On (nodes_of s) (arrow s.rules) (node_of u) (node_of v)
  pair_arrow u v p =
      let a = p.pair in
      let f = of_each arrows_of s.rules p.within in
      let b = pair_declared a p.within in
      let o : On (nodes_of s) (arrow s.rules) a.left a.right =
      record { from = node_in s a.left b.left; to = node_in s a.right b.right; by = arrow_of s.rules f.within f.given } in
      subst₂ (On (nodes_of s) (arrow s.rules)) (sym (of_code u a.left b.left p.is_left)) (sym (of_code v a.right b.right p.is_right)) o

  module _ (pairs : List Pair) (old new : List ℕ) (p : AddedAll pairs old new) where
    -- a pair of declared nodes that was added
    has_pair : (a : Pair) → Memᴰ a pairs → declared s a.left ≡ true → declared s a.right ≡ true → Has new (node_code a.left) (node_code a.right)
    has_pair a m d e = p.comes a m (code_listed s lawful a.left d).small (code_listed s lawful a.right e).small

    arrow_pair : ((a : Pair) → Memᴰ a (each arrows_of s.rules) → Memᴰ a pairs) → (m n : Node) → On (nodes_of s) (arrow s.rules) m n → Has new (node_code m) (node_code n)
    arrow_pair f m n o =
        let g = arrow_given s.rules m n o.by in
        let a = g.pair in
        let i = each_of arrows_of g.among g.of_rule in
        let b = pair_declared a i in
        subst₂ (λ x y. Has new (node_code x) (node_code y)) g.is_left g.is_right (has_pair a (f a i) b.left b.right)

  pub included_based : (old mid new : List ℕ) → Blank old → AddedAll (each arrows_of s.rules) old mid → Closes c r mid new → Stands new (arrow s.rules)
  included_based old mid new b p k =
      based_closes
      (record {
        within =
            record {
              from = λ u v h. listed_in u (pair_arrow u v (from_pair b p u v h)).from;
              to = λ u v h. listed_in v (pair_arrow u v (from_pair b p u v h)).to;
            };
        out = λ u v h. one (pair_arrow u v (from_pair b p u v h));
        into = λ m n o. one (arrow_pair (each arrows_of s.rules) old mid p (λ a i. i) m n o);
      })
      k

  -- the rings
  role_is : (j : ℕ) → j < r → declared_role s (forward j) ≡ true
  role_is j h = lt-ltb j r h

  ring_leads : (j : ℕ) → declared_role s (forward j) ≡ true → (a : Pair) → Memᴰ a (ring j) → LeadsOn s a.left a.right
  ring_leads j d a (Memᴰ.head e) = subst (λ b. LeadsOn s b.left b.right) (sym e) (mates_lead s lawful (forward j) itself has d)
  ring_leads j d a (Memᴰ.tail (Memᴰ.head e)) = subst (λ b. LeadsOn s b.left b.right) (sym e) (mates_lead s lawful (forward j) has has_inverse d)
  ring_leads j d a (Memᴰ.tail (Memᴰ.tail (Memᴰ.head e))) = subst (λ b. LeadsOn s b.left b.right) (sym e) (mates_lead s lawful (inverse j) has itself d)
  ring_leads j d a (Memᴰ.tail (Memᴰ.tail (Memᴰ.tail (Memᴰ.head e)))) =
      subst (λ b. LeadsOn s b.left b.right) (sym e) (on (mates_lead s lawful (inverse j) itself has_inverse d) (mates_lead s lawful (forward j) has itself d))
  ring_leads j d a (Memᴰ.tail (Memᴰ.tail (Memᴰ.tail (Memᴰ.tail m)))) = absurd (Memᴰ.not-nil m)

  rings_lead : (a : Pair) → Memᴰ a (rings r) → LeadsOn s a.left a.right
  unfolding rings
  rings_lead a m =
      let f = of_each ring (up_to r) m in
      ring_leads f.source (role_is f.source (below_of_up_to r f.within)) a f.given

  ring_pair : (u v : ℕ) → FromPair (rings r) u v → LeadsOn s (node_of u) (node_of v)
  ring_pair u v p =
      let a = p.pair in
      let l = rings_lead a p.within in
      let d = node_out s a.left (reaches_from l) in
      let e = node_out s a.right (reaches_to l) in
      subst₂ (LeadsOn s) (sym (of_code u a.left d p.is_left)) (sym (of_code v a.right e p.is_right)) l

  widened : {m n : Node} → On (nodes_of s) (arrow s.rules) m n → LeadsOn s m n
  widened {m} {n} o = one (record { from = o.from; to = o.to; by = or_left (arrow s.rules m n) (mates m n) o.by })

  on_pair : (u v : ℕ) → FromPair (each arrows_of s.rules ++ rings r) u v → LeadsOn s (node_of u) (node_of v)
  on_pair u v p = step (Memᴰ.append_cases (each arrows_of s.rules) p.within)
    where
      step : Memᴰ p.pair (each arrows_of s.rules) ⊎ Memᴰ p.pair (rings r) → LeadsOn s (node_of u) (node_of v)
      step (inl m) = widened (pair_arrow u v (record { pair = p.pair; within = m; is_left = p.is_left; is_right = p.is_right }))
      step (inr m) = ring_pair u v (record { pair = p.pair; within = m; is_left = p.is_left; is_right = p.is_right })

  -- the four nodes of a ring
  data OnRing (j : ℕ) : Node → Type 0 where
    first : OnRing j (role (forward j))
    second : OnRing j (concept (some (forward j)))
    third : OnRing j (concept (some (inverse j)))
    fourth : OnRing j (role (inverse j))

  on_ring : (q : BasicRole) {x : Node} → OneOf q x → OnRing (role_in q) x
  on_ring (forward j) itself = first
  on_ring (forward j) has = second
  on_ring (forward j) has_inverse = third
  on_ring (inverse j) itself = fourth
  on_ring (inverse j) has = third
  on_ring (inverse j) has_inverse = second

  module _ (old new : List ℕ) (p : AddedAll (each arrows_of s.rules ++ rings r) old new) (j : ℕ) (h : j < r) where
    in_rings : (a : Pair) → Memᴰ a (ring j) → Memᴰ a (each arrows_of s.rules ++ rings r)
    unfolding rings
    in_rings a m = Memᴰ.append_right (each arrows_of s.rules) (each_of ring (up_to_of_below r j h) m)

    around : (a : Pair) → Memᴰ a (ring j) → Reach c r new (node_code a.left) (node_code a.right)
    around a m =
        let l = ring_leads j (role_is j h) a m in
        one (has_pair (each arrows_of s.rules ++ rings r) old new p a (in_rings a m) (node_out s a.left (reaches_from l)) (node_out s a.right (reaches_to l)))

    step_1 : Reach c r new (node_code (role (forward j))) (node_code (concept (some (forward j))))
    step_1 = around (record { left = role (forward j); right = concept (some (forward j)) }) (Memᴰ.head refl)

    step_2 : Reach c r new (node_code (concept (some (forward j)))) (node_code (concept (some (inverse j))))
    step_2 = around (record { left = concept (some (forward j)); right = concept (some (inverse j)) }) (Memᴰ.tail (Memᴰ.head refl))

    step_3 : Reach c r new (node_code (concept (some (inverse j)))) (node_code (role (inverse j)))
    step_3 = around (record { left = concept (some (inverse j)); right = role (inverse j) }) (Memᴰ.tail (Memᴰ.tail (Memᴰ.head refl)))

    step_4 : Reach c r new (node_code (role (inverse j))) (node_code (role (forward j)))
    step_4 = around (record { left = role (inverse j); right = role (forward j) }) (Memᴰ.tail (Memᴰ.tail (Memᴰ.tail (Memᴰ.head refl))))

    to_first : {x : Node} → OnRing j x → Reach c r new (node_code x) (node_code (role (forward j)))
    to_first first = here (code_listed s lawful (role (forward j)) (role_is j h))
    to_first second = on step_2 (on step_3 step_4)
    to_first third = on step_3 step_4
    to_first fourth = step_4

    from_first : {x : Node} → OnRing j x → Reach c r new (node_code (role (forward j))) (node_code x)
    from_first first = here (code_listed s lawful (role (forward j)) (role_is j h))
    from_first second = step_1
    from_first third = on step_1 step_2
    from_first fourth = on step_1 (on step_2 step_3)

  on_reach : (old new : List ℕ) → AddedAll (each arrows_of s.rules ++ rings r) old new → (m n : Node) → On (nodes_of s) (onward s) m n → Reach c r new (node_code m) (node_code n)
  on_reach old new p m n o = step (or_cases (arrow s.rules m n) (mates m n) o.by)
    where
      ringed : Three m n → Reach c r new (node_code m) (node_code n)
      ringed t =
          let q = t.basic in
          let h : role_in q < r = ltb-true (role_in q) r (declared_one_of s q t.left (node_out s m o.from)) in
          on (to_first old new p (role_in q) h (on_ring q t.left)) (from_first old new p (role_in q) h (on_ring q t.right))

      step : (arrow s.rules m n ≡ true) ⊎ (mates m n ≡ true) → Reach c r new (node_code m) (node_code n)
      step (inl e) =
          one (arrow_pair (each arrows_of s.rules ++ rings r) old new p (λ a i. Memᴰ.append_left (rings r) i) m n (record { from = o.from; to = o.to; by = e }))
      step (inr e) = ringed (of_mates m n e)

  pub on_based : (old mid full new : List ℕ) → Blank old → AddedAll (each arrows_of s.rules) old mid → AddedAll (rings r) mid full → Closes c r full new → Stands new (onward s)
  on_based old mid full new b p q k =
      let all = added_more (each arrows_of s.rules) (rings r) old mid full p q in
      based_closes
      (record {
        within =
            record {
              from = λ u v h. listed_in u (reaches_from (on_pair u v (from_pair b all u v h)));
              to = λ u v h. listed_in v (reaches_to (on_pair u v (from_pair b all u v h)));
            };
        out = λ u v h. on_pair u v (from_pair b all u v h);
        into = on_reach old full all;
      })
      k

  -- the written exclusions
  data Written (u v : ℕ) : Type 0 where
    in_order : (rule : Rule) (w : Pair) → Memᴰ rule s.rules → Memᴰ w (written_of rule) → u ≡ node_code w.left → v ≡ node_code w.right → Written u v
    turned_round : (rule : Rule) (w : Pair) → Memᴰ rule s.rules → Memᴰ w (written_of rule) → u ≡ node_code w.right → v ≡ node_code w.left → Written u v

  written_in : (a w : Pair) (rule : Rule) (u v : ℕ) → Memᴰ rule s.rules → Memᴰ w (written_of rule) → Memᴰ a (in_both_orders w) → u ≡ node_code a.left → v ≡ node_code a.right → Written u v
  written_in a w rule u v m n (Memᴰ.head z) e f = in_order rule w m n (e ∙ ap (λ b. node_code b.left) z) (f ∙ ap (λ b. node_code b.right) z)
  written_in a w rule u v m n (Memᴰ.tail (Memᴰ.head z)) e f = turned_round rule w m n (e ∙ ap (λ b. node_code b.left) z) (f ∙ ap (λ b. node_code b.right) z)
  written_in a w rule u v m n (Memᴰ.tail (Memᴰ.tail i)) e f = absurd (Memᴰ.not-nil i)

  pair_written : (u v : ℕ) → FromPair (each exclusions_of s.rules) u v → Written u v
  pair_written u v p =
      let f = of_each exclusions_of s.rules p.within in
      let g = of_each in_both_orders (written_of f.source) f.given in
      written_in p.pair g.source f.source u v f.within g.within g.given p.is_left p.is_right

  written_declared : (rule : Rule) (w : Pair) → Memᴰ rule s.rules → Memᴰ w (written_of rule) → Both s w.left w.right
  written_declared rule w m n = excluded_declared s lawful (written_excludes s rule m n)

  module _ (old new : List ℕ) (b : Blank old) (p : AddedAll (each exclusions_of s.rules) old new) where
    written : (u v : ℕ) → Has new u v → Written u v
    written u v h = pair_written u v (from_pair b p u v h)

    has_written : (rule : Rule) (w : Pair) → Memᴰ rule s.rules → Memᴰ w (written_of rule) → Has new (node_code w.left) (node_code w.right)
    has_written rule w m n =
        let d = written_declared rule w m n in
        has_pair (each exclusions_of s.rules) old new p w (each_of exclusions_of m (each_of in_both_orders n (Memᴰ.head refl))) d.left d.right

    has_turned : (rule : Rule) (w : Pair) → Memᴰ rule s.rules → Memᴰ w (written_of rule) → Has new (node_code w.right) (node_code w.left)
    has_turned rule w m n =
        let d = written_declared rule w m n in
        has_pair (each exclusions_of s.rules) old new p (record { left = w.right; right = w.left })
        (each_of exclusions_of m (each_of in_both_orders n (Memᴰ.tail (Memᴰ.head refl)))) d.right d.left

    written_from : (u v : ℕ) → Written u v → Listed c r u
    written_from u v (in_order rule w m n e f) = subst (Listed c r) (sym e) (code_listed s lawful w.left (written_declared rule w m n).left)
    written_from u v (turned_round rule w m n e f) = subst (Listed c r) (sym e) (code_listed s lawful w.right (written_declared rule w m n).right)

    written_to : (u v : ℕ) → Written u v → Listed c r v
    written_to u v (in_order rule w m n e f) = subst (Listed c r) (sym f) (code_listed s lawful w.right (written_declared rule w m n).right)
    written_to u v (turned_round rule w m n e f) = subst (Listed c r) (sym f) (code_listed s lawful w.left (written_declared rule w m n).left)

    written_round : (u v : ℕ) → Written u v → Has new v u
    written_round u v (in_order rule w m n e f) = subst₂ (λ x y. Has new x y) (sym f) (sym e) (has_turned rule w m n)
    written_round u v (turned_round rule w m n e f) = subst₂ (λ x y. Has new x y) (sym f) (sym e) (has_written rule w m n)

    even : Even c r new
    even =
        record {
          within = record { from = λ u v h. written_from u v (written u v h); to = λ u v h. written_to u v (written u v h) };
          symmetric = λ u v h. written_round u v (written u v h);
        }

    -- kept apart, and empty
    module _ (inc lead : List ℕ) (i : Stands inc (arrow s.rules)) (l : Stands lead (onward s)) where
      included_out : (x y : ℕ) → Has inc x y → Included s (node_of x) (node_of y)
      included_out x y h = leads_included s (i.out x y h)

      included_in : (x y : ℕ) → Included s (node_of x) (node_of y) → Has inc x y
      included_in x y h = i.into x y (included_leads s lawful h)

      to_node : (x y : ℕ) (n : Node) → declared s n ≡ true → y ≡ node_code n → Has inc x y → Included s (node_of x) n
      to_node x y n d e h = subst (λ m. Included s (node_of x) m) (of_code y n d e) (included_out x y h)

      to_code : (x : ℕ) (n : Node) → Included s (node_of x) n → Has inc x (node_code n)
      to_code x n h =
          let d = (included_declared s lawful h).right in
          included_in x (node_code n) (subst (λ m. Included s (node_of x) m) (sym (code_node s lawful n d)) h)

      meets_out : (x y : ℕ) → Meets inc new x y → Apart s (node_of x) (node_of y)
      meets_out x y m = step (written m.left m.right m.met)
        where
          step : Written m.left m.right → Apart s (node_of x) (node_of y)
          step (in_order rule w k n e f) =
              let d = written_declared rule w k n in
              record {
                rule = rule;
                among = k;
                pair = w;
                of_rule = n;
                ways = straight (to_node x m.left w.left d.left e m.down_left) (to_node y m.right w.right d.right f m.down_right);
              }
          step (turned_round rule w k n e f) =
              let d = written_declared rule w k n in
              record {
                rule = rule;
                among = k;
                pair = w;
                of_rule = n;
                ways = crossed (to_node x m.left w.right d.right e m.down_left) (to_node y m.right w.left d.left f m.down_right);
              }

      meets_in : (x y : ℕ) → Apart s (node_of x) (node_of y) → Meets inc new x y
      meets_in x y a = step a.ways
        where
          step : Across s (node_of x) (node_of y) a.pair → Meets inc new x y
          step (straight h k) =
              record {
                left = node_code a.pair.left;
                right = node_code a.pair.right;
                down_left = to_code x a.pair.left h;
                down_right = to_code y a.pair.right k;
                met = has_written a.rule a.pair a.among a.of_rule;
              }
          step (crossed h k) =
              record {
                left = node_code a.pair.right;
                right = node_code a.pair.left;
                down_left = to_code x a.pair.right h;
                down_right = to_code y a.pair.left k;
                met = has_turned a.rule a.pair a.among a.of_rule;
              }

      shut_out : (x y : ℕ) → Shut inc lead new x y → Kept s (node_of x) (node_of y)
      shut_out x y (apart m) = by_written (meets_out x y m)
      shut_out x y (void z w h k g m) =
          by_void (node_of z) (included_out x z h) (included_out y z k) (record { end = node_of w; way = l.out z w g; kept = meets_out w w m })

      shut_in : (x y : ℕ) → Kept s (node_of x) (node_of y) → Shut inc lead new x y
      shut_in x y (by_written a) = apart (meets_in x y a)
      shut_in x y (by_void z h k v) =
          let d = (included_declared s lawful h).right in
          let f = code_node s lawful z d in
          let g = code_node s lawful v.end (node_out s v.end (reaches_to v.way)) in
          void (node_code z) (node_code v.end) (to_code x z h) (to_code y z k)
          (l.into (node_code z) (node_code v.end) (subst₂ (LeadsOn s) (sym f) (sym g) v.way))
          (meets_in (node_code v.end) (node_code v.end) (subst (λ n. Apart s n n) (sym g) v.kept))

      module _ (exc : List ℕ) (k : Shuts c r inc lead new exc) where
        pub excluded_out : (x y : ℕ) → Has exc x y → Excluded s (node_of x) (node_of y)
        excluded_out x y h = kept_excluded s (shut_out x y (k.sound (stands_order i) (stands_order l) even x y h))

        pub excluded_in : (x y : ℕ) → Excluded s (node_of x) (node_of y) → Has exc x y
        excluded_in x y e = k.whole (stands_order i) (stands_order l) even x y (shut_in x y (excluded_kept s lawful e))
