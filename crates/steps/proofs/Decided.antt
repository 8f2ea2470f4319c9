-- The executable tables decide what follows: each test in them is one of the relations' parts, both ways.
use mathlib.Core.Path.{◌≡◌, sym, ap, subst}
use mathlib.Core.Bool.{Bool, true, false≢true, ◌&&◌, ◌||◌}
use mathlib.Core.Logic.{◌⊎◌, inl, inr}
use mathlib.Core.List.{List, Memᴰ}
use Rattle.site.specs.Kinds.{BasicRole, Node, Rule, Site}
use Rattle.site.specs.Kinds.Rule.{included, disjoint, role_included, role_disjoint, functional}
use Rattle.site.specs.Lists.{any}
use Rattle.site.proofs.Lists.{Passing, any_found, any_of, or_cases, or_left, or_right, and_left, and_right, and_both}
use Rattle.site.proofs.Same.{same_role_lem, same_role_refl}
use Rattle.rules.specs.Lawful.{Lawful}
use Rattle.steps.specs.Steps.{Included, Excluded}
use Rattle.steps.specs.Tables.{Pair, Relation, written_of, arrow, mates, nodes_of, rows_of, looked, closure, apart, empty, excludes, says_functional, functional_in, excluded_rows, follows_from, follows_of}
use Rattle.steps.specs.Decides.{Decides}
use Rattle.steps.proofs.Rows.{looked_in, looked_out, looked_to}
use Rattle.steps.proofs.Closing.{closure_sound, closure_has}
use Rattle.steps.proofs.Declares.{node_in}
use Rattle.steps.proofs.Laws.{included_declared, excluded_declared}
use Rattle.steps.proofs.Arrows.{leads_included, included_leads}
use Rattle.steps.proofs.Apart.{onward, Across, Apart, Void, Kept, kept_excluded, excluded_kept}
use Rattle.steps.proofs.Apart.Across.{straight, crossed}
use Rattle.steps.proofs.Apart.Kept.{by_written, by_void}

-- the tests of functional rules
says_functional_lem : (q : BasicRole) (r : Rule) → says_functional q r ≡ true → functional q ≡ r
says_functional_lem q (functional p) e = ap functional (sym (same_role_lem p q e))
says_functional_lem q (included b c) e = absurd (false≢true e)
says_functional_lem q (disjoint b c) e = absurd (false≢true e)
says_functional_lem q (role_included p r) e = absurd (false≢true e)
says_functional_lem q (role_disjoint p r) e = absurd (false≢true e)

pub functional_out : (rules : List Rule) (q : BasicRole) → functional_in rules q ≡ true → Memᴰ (functional q) rules
unfolding functional_in
functional_out rules q h =
    let f = any_found (says_functional q) rules h in
    subst (λ r. Memᴰ r rules) (sym (says_functional_lem q f.one f.passes)) f.within

pub functional_in_lem : (rules : List Rule) (q : BasicRole) → Memᴰ (functional q) rules → functional_in rules q ≡ true
unfolding functional_in
functional_in_lem rules q m = any_of (says_functional q) m (same_role_refl q)

module _ (s : Site) (lawful : Lawful s) where
  abbrev leads : Relation
  leads = looked (nodes_of s) (closure (nodes_of s) (arrow s.rules))

  abbrev leads_on : Relation
  leads_on = looked (nodes_of s) (closure (nodes_of s) (λ x y. arrow s.rules x y || mates x y))

  -- included
  leads_out : (x y : Node) → leads x y ≡ true → Included s x y
  leads_out x y h = leads_included s (closure_sound (nodes_of s) (arrow s.rules) x y h)

  leads_in : {x y : Node} → Included s x y → leads x y ≡ true
  leads_in i = closure_has (nodes_of s) (arrow s.rules) (included_leads s lawful i)

  -- kept apart
  across_out : (x y : Node) (w : Pair) → (leads x w.left && leads y w.right) ≡ true ⊎ ((leads x w.right && leads y w.left) ≡ true) → Across s x y w
  across_out x y w (inl h) = straight (leads_out x w.left (and_left (leads x w.left) (leads y w.right) h)) (leads_out y w.right (and_right (leads x w.left) (leads y w.right) h))
  across_out x y w (inr h) = crossed (leads_out x w.right (and_left (leads x w.right) (leads y w.left) h)) (leads_out y w.left (and_right (leads x w.right) (leads y w.left) h))

  across_in : {x y : Node} {w : Pair} → Across s x y w → (leads x w.left && leads y w.right || leads x w.right && leads y w.left) ≡ true
  across_in {x} {y} {w} (straight h k) =
      or_left (leads x w.left && leads y w.right) (leads x w.right && leads y w.left) (and_both (leads x w.left) (leads y w.right) (leads_in h) (leads_in k))
  across_in {x} {y} {w} (crossed h k) =
      or_right (leads x w.left && leads y w.right) (leads x w.right && leads y w.left) (and_both (leads x w.right) (leads y w.left) (leads_in h) (leads_in k))

  apart_out : (x y : Node) → apart leads s.rules x y ≡ true → Apart s x y
  unfolding apart
  apart_out x y h =
      let f = any_found (λ r. any (λ w. leads x w.left && leads y w.right || leads x w.right && leads y w.left) (written_of r)) s.rules h in
      let g = any_found (λ w. leads x w.left && leads y w.right || leads x w.right && leads y w.left) (written_of f.one) f.passes in
      let w = g.one in
      record {
        rule = f.one;
        among = f.within;
        pair = w;
        of_rule = g.within;
        ways = across_out x y w (or_cases (leads x w.left && leads y w.right) (leads x w.right && leads y w.left) g.passes);
      }

  apart_in : {x y : Node} → Apart s x y → apart leads s.rules x y ≡ true
  unfolding apart
  apart_in {x} {y} a =
      any_of (λ r. any (λ w. leads x w.left && leads y w.right || leads x w.right && leads y w.left) (written_of r)) a.among
      (any_of (λ w. leads x w.left && leads y w.right || leads x w.right && leads y w.left) a.of_rule (across_in a.ways))

  -- empty
  abbrev is_apart : Relation
  is_apart = apart leads s.rules

  abbrev is_empty : Node → Bool
  is_empty = empty (nodes_of s) leads_on is_apart

  empty_out : (x : Node) → is_empty x ≡ true → Void s x
  unfolding empty
  empty_out x h =
      let f = any_found (λ z. leads_on x z && is_apart z z) (nodes_of s) h in
      let z = f.one in
      record {
        end = z;
        way = closure_sound (nodes_of s) (onward s) x z (and_left (leads_on x z) (is_apart z z) f.passes);
        kept = apart_out z z (and_right (leads_on x z) (is_apart z z) f.passes);
      }

  empty_in : {x : Node} → Void s x → is_empty x ≡ true
  unfolding empty
  empty_in {x} v =
      let z = v.end in
      let l = closure_has (nodes_of s) (onward s) v.way in
      any_of (λ z. leads_on x z && is_apart z z) (looked_to (nodes_of s) (closure (nodes_of s) (onward s)) x z l) (and_both (leads_on x z) (is_apart z z) l (apart_in v.kept))

  -- excluded
  abbrev is_excluded : Relation
  is_excluded = excludes (nodes_of s) leads is_apart is_empty

  excludes_out : (x y : Node) → is_excluded x y ≡ true → Kept s x y
  unfolding excludes
  excludes_out x y h = step (or_cases (is_apart x y) (any (λ z. leads x z && leads y z && is_empty z) (nodes_of s)) h)
    where
      within : Passing (λ z. leads x z && leads y z && is_empty z) (nodes_of s) → Kept s x y
      within f =
          let z = f.one in
          let both = and_left (leads x z && leads y z) (is_empty z) f.passes in
          by_void z (leads_out x z (and_left (leads x z) (leads y z) both)) (leads_out y z (and_right (leads x z) (leads y z) both))
          (empty_out z (and_right (leads x z && leads y z) (is_empty z) f.passes))

      step : (is_apart x y ≡ true) ⊎ (any (λ z. leads x z && leads y z && is_empty z) (nodes_of s) ≡ true) → Kept s x y
      step (inl a) = by_written (apart_out x y a)
      step (inr e) = within (any_found (λ z. leads x z && leads y z && is_empty z) (nodes_of s) e)

  excludes_in : {x y : Node} → Kept s x y → is_excluded x y ≡ true
  unfolding excludes
  excludes_in {x} {y} (by_written a) = or_left (is_apart x y) (any (λ z. leads x z && leads y z && is_empty z) (nodes_of s)) (apart_in a)
  excludes_in {x} {y} (by_void z h k v) =
      or_right (is_apart x y) (any (λ z. leads x z && leads y z && is_empty z) (nodes_of s))
      (any_of (λ z. leads x z && leads y z && is_empty z) (node_in s z (included_declared s lawful h).right)
      (and_both (leads x z && leads y z) (is_empty z) (and_both (leads x z) (leads y z) (leads_in h) (leads_in k)) (empty_in v)))

  excluded_out : (x y : Node) → looked (nodes_of s) (rows_of (nodes_of s) is_excluded) x y ≡ true → Excluded s x y
  excluded_out x y h = kept_excluded s (excludes_out x y (looked_out (nodes_of s) is_excluded h).by)

  excluded_in : (x y : Node) → Excluded s x y → looked (nodes_of s) (rows_of (nodes_of s) is_excluded) x y ≡ true
  excluded_in x y e =
      let b = excluded_declared s lawful e in
      looked_in (nodes_of s) is_excluded (record { from = node_in s x b.left; to = node_in s y b.right; by = excludes_in (excluded_kept s lawful e) })

  -- "The same as tables that compute"
  pub decides : Decides s (follows_of s)
  unfolding follows_of follows_from excluded_rows
  decides =
      record {
        included = λ x y. (λ h. leads_out x y h, λ i. leads_in i);
        excluded = λ x y. (λ h. excluded_out x y h, λ e. excluded_in x y e);
        functional_by = λ q. (λ h. functional_out s.rules q h, λ m. functional_in_lem s.rules q m);
      }
