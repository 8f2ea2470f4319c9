-- The chase: from what is told of the named things, add a child for each partner that is demanded and not blocked. It is a world of every
-- inclusion and disjointness, and of the functional roles where a partner that is there already blocks.
use Prim.Native.Nat.{ℕ, suc}
use mathlib.Core.Path.{◌≡◌, refl, sym, ap, ◌∙◌, subst}
use mathlib.Core.Bool.{Bool, true, false}
use mathlib.Core.Logic.{◌⊎◌, inl, inr}
use mathlib.Core.List.{Memᴰ}
use native.Mathlib.Omega.{arith}
use Rattle.site.specs.Kinds.{BasicRole, BasicConcept, Node, Rule, Site, turned, declared}
use Rattle.site.specs.Kinds.BasicRole.{forward, inverse}
use Rattle.site.specs.Kinds.BasicConcept.{named, some}
use Rattle.site.specs.Kinds.Node.{concept, role}
use Rattle.site.specs.Kinds.Rule.{included, disjoint, role_included, role_disjoint, functional}
use Rattle.site.proofs.Same.{turned_twice}
use Rattle.site.proofs.Lists.{true_not_false, either}
use Rattle.rules.specs.Lawful.{Lawful}
use Rattle.steps.specs.Steps.{Included, Excluded, OneOf}
use Rattle.steps.specs.Steps.SaysIncluded.{kind_0, kind_2}
use Rattle.steps.specs.Steps.SaysExcluded.{kind_1, kind_3}
use Rattle.steps.specs.Steps.Included.{step_1, step_2, step_3, step_4}
use Rattle.steps.specs.Steps.Excluded.{step_5, step_6, step_8}
use Rattle.steps.proofs.Laws.{turned_node, some_node, included_declared, functional_alone}
use Rattle.worlds.specs.Worlds.{World, Joins, Is, Obeys}

-- a named thing, or the partner by p that an element demands
pub data Element : Type 0 where
  device : ℕ → Element
  child : Element → BasicRole → Element

-- what is told of named things: closed under inclusion, turning round, and reading a role of its first thing
pub record Closed (s : Site) (Tells : Node → ℕ → ℕ → Type 0) : Type 0 where
  pub widens : {x y : Node} {a b : ℕ} → Tells x a b → Included s x y → Tells y a b
  pub turns : {x : Node} {a b : ℕ} → Tells x a b → Tells (turned_node x) b a
  pub having_of : {x : Node} {a b : ℕ} → Tells x a b → Tells (some_node x) a a
  pub known : {x : Node} {a b : ℕ} → Tells x a b → declared s x ≡ true

-- what is told does not contradict itself
pub record Harmless (s : Site) (Tells : Node → ℕ → ℕ → Type 0) : Type 0 where
  pub apart : {x y : Node} {a b : ℕ} → Tells x a b → Tells y a b → Excluded s x y → ⊥
  pub single : {q : BasicRole} {a b c : ℕ} → Memᴰ (functional q) s.rules → Tells (role q) a b → Tells (role q) a c → b ≡ c

-- every rule but the functional ones, whatever blocks
abbrev pub Plain : Rule → Type 0
Plain (included b c) = Unit {0}
Plain (disjoint b c) = Unit {0}
Plain (role_included p q) = Unit {0}
Plain (role_disjoint p q) = Unit {0}
Plain (functional q) = ⊥

-- how far an element is from a named thing: no element is its own child's child
abbrev depth : Element → ℕ
depth (device a) = 0
depth (child u p) = suc (depth u)

device_is : {a b : ℕ} → device a ≡ device b → a ≡ b
device_is e = cc

role_is : {p q : BasicRole} → role p ≡ role q → p ≡ q
role_is e = cc

module _ (s : Site) (Tells : Node → ℕ → ℕ → Type 0) (block : Element → BasicRole → Bool) where
  -- a basic concept holds of an element; of a child, if it is demanded and not blocked
  abbrev pub Has : BasicConcept → Element → Type 0
  Has c (device a) = Tells (concept c) a a
  Has c (child u p) = Has (some p) u × (block u p ≡ false) × Included s (concept (some (turned p))) (concept c)

  -- a basic role joins two elements: as told, down to a child, up from a child
  pub data Link : BasicRole → Element → Element → Type 0 where
    told : {p : BasicRole} {a b : ℕ} → Tells (role p) a b → Link p (device a) (device b)
    down : {p q : BasicRole} {u : Element} → Has (some q) u → block u q ≡ false → Included s (role q) (role p) → Link p u (child u q)
    up : {p q : BasicRole} {u : Element} → Has (some q) u → block u q ≡ false → Included s (role (turned q)) (role p) → Link p (child u q) u

  -- the chase as a world, a device number named by the element of the number that stands for it
  abbrev pub chased : (ℕ → ℕ) → World
  chased ρ =
      record {
        Thing = Element;
        is_a = λ i u. Has (named i) u;
        joined = λ j u v. Link (forward j) u v;
        thing = λ a. device (ρ a);
      }

  -- a blocked partner is there already
  abbrev pub Partnered : Type 0
  Partnered = (u : Element) (p : BasicRole) → block u p ≡ true → Has (some p) u → (v : Element) × Link p u v

  -- a partner that is there already, told or the parent, blocks
  pub record Blocks : Type 0 where
    pub by_told : {q : BasicRole} {a b : ℕ} → Tells (role q) a b → block (device a) q ≡ true
    pub by_parent : (u : Element) {p q : BasicRole} → Included s (role (turned p)) (role q) → block (child u p) q ≡ true

  module _ (law : Lawful s) (closed : Closed s Tells) where
    pub has_widens : (u : Element) {b c : BasicConcept} → Has b u → Included s (concept b) (concept c) → Has c u
    has_widens (device a) h i = closed.widens h i
    has_widens (child u p) h i = (h.0, h.1, step_2 h.2 i)

    pub has_known : (u : Element) (c : BasicConcept) → Has c u → declared s (concept c) ≡ true
    has_known (device a) c h = closed.known h
    has_known (child u p) c h = (included_declared s law h.2).right

    pub link_turns : {p : BasicRole} {u v : Element} → Link p u v → Link (turned p) v u
    link_turns (told t) = told (closed.turns t)
    link_turns (down h n i) = up h n (step_3 i)
    link_turns {p} (up {q = q} h n i) =
        down h n (subst (λ (r : BasicRole). Included s (role r) (role (turned p))) (turned_twice q) (step_3 i))

    pub link_widens : {p q : BasicRole} {u v : Element} → Link p u v → Included s (role p) (role q) → Link q u v
    link_widens (told t) i = told (closed.widens t i)
    link_widens (down h n k) i = down h n (step_2 k i)
    link_widens (up h n k) i = up h n (step_2 k i)

    pub link_has : {p : BasicRole} {u v : Element} → Link p u v → Has (some p) u
    link_has (told t) = closed.having_of t
    link_has {u = u} (down h n i) = has_widens u h (step_4 i)
    link_has (up h n i) = (h, n, step_4 i)

    module _ (ρ : ℕ → ℕ) where
      pub joins_link : (q : BasicRole) (u v : Element) → Joins (chased ρ) q u v → Link q u v
      joins_link (forward j) u v h = h
      joins_link (inverse j) u v h = link_turns h

      pub link_joins : (q : BasicRole) (u v : Element) → Link q u v → Joins (chased ρ) q u v
      link_joins (forward j) u v h = h
      link_joins (inverse j) u v h = link_turns h

      pub is_has : (c : BasicConcept) (u : Element) → Is (chased ρ) c u → Has c u
      is_has (named i) u h = h
      is_has (some q) u h = link_has (joins_link q u h.0 h.1)

      module _ (partnered : Partnered) where
        pub has_link : (q : BasicRole) (u : Element) → Has (some q) u → (v : Element) × Link q u v
        has_link q u h = go (either (block u q))
          where
            go : (block u q ≡ true) ⊎ (block u q ≡ false) → (v : Element) × Link q u v
            go (inl e) = partnered u q e h
            go (inr e) = (child u q, down h e (step_1 (has_known u (some q) h)))

        pub has_is : (c : BasicConcept) (u : Element) → Has c u → Is (chased ρ) c u
        has_is (named i) u h = h
        has_is (some q) u h = let l = has_link q u h in (l.0, link_joins q u l.0 l.1)

    module _ (harmless : Harmless s Tells) where
      pub has_apart : (u : Element) {b c : BasicConcept} → Excluded s (concept b) (concept c) → Has b u → Has c u → ⊥
      has_apart (device a) e h k = harmless.apart h k e
      has_apart (child u p) e h k =
          has_apart u (step_8 {q = p} OneOf.has_inverse OneOf.has (step_6 h.2 (step_5 (step_6 k.2 (step_5 e))))) h.0 h.0

      -- the ends are given apart: two links between the same two elements go the same way
      apart_at : {p q : BasicRole} {u v u' v' : Element} → u ≡ u' → v ≡ v' → Excluded s (role p) (role q) → Link p u v → Link q u' v' → ⊥
      apart_at {p} {q} du dv e (told {a = a} {b = b} t) (told {a = a'} {b = b'} r) =
          harmless.apart t (subst (λ (x : ℕ). Tells (role q) a x) (sym (device_is dv)) (subst (λ (x : ℕ). Tells (role q) x b') (sym (device_is du)) r)) e
      apart_at du dv e (told t) (down k m j) = cc
      apart_at du dv e (told t) (up k m j) = cc
      apart_at du dv e (down h n i) (told r) = cc
      apart_at {p} {q} du dv e (down {q = r} {u = u} h n i) (down {q = r'} k m j) =
          let same : r' ≡ r = cc in
          let j' = subst (λ (x : BasicRole). Included s (role x) (role q)) same j in
          has_apart u (step_8 {q = r} OneOf.itself OneOf.has (step_6 i (step_5 (step_6 j' (step_5 e))))) h h
      apart_at du dv e (down {u = u} h n i) (up {u = w} k m j) = let a = ap depth du in let b = ap depth dv in omega arith
      apart_at du dv e (up h n i) (told r) = cc
      apart_at du dv e (up {u = u} h n i) (down {u = w} k m j) = let a = ap depth du in let b = ap depth dv in omega arith
      apart_at {p} {q} du dv e (up {q = r} {u = u} h n i) (up {q = r'} k m j) =
          let same : r' ≡ r = cc in
          let j' = subst (λ (x : BasicRole). Included s (role (turned x)) (role q)) same j in
          has_apart u
          (step_8 {q = r} OneOf.has_inverse OneOf.has
          (step_8 {q = turned r} OneOf.itself OneOf.has (step_6 i (step_5 (step_6 j' (step_5 e))))))
          h
          h

      pub link_apart : {p q : BasicRole} {u v : Element} → Excluded s (role p) (role q) → Link p u v → Link q u v → ⊥
      link_apart e l m = apart_at refl refl e l m

      module _ (blocks : Blocks) {q : BasicRole} (m : Memᴰ (functional q) s.rules) where
        alike : {p : BasicRole} → Included s (role p) (role q) → p ≡ q
        alike i = role_is (functional_alone s law q m i refl)

        unblocked : {u : Element} {p : BasicRole} → Included s (role p) (role q) → block u p ≡ false → block u q ≡ true → ⊥
        unblocked {u} i n b = true_not_false b (subst (λ (r : BasicRole). block u r ≡ false) (alike i) n)

        pub link_single : {u v w : Element} → Link q u v → Link q u w → v ≡ w
        link_single (told t) (told r) = ap device (harmless.single m t r)
        link_single (told t) (down h n i) = absurd (unblocked i n (blocks.by_told t))
        link_single (down h n i) (told t) = absurd (unblocked i n (blocks.by_told t))
        link_single (down {u = u} h n i) (down k o j) = ap (λ (r : BasicRole). child u r) (alike i ∙ sym (alike j))
        link_single (down h n i) (up {u = u} k o j) = absurd (unblocked i n (blocks.by_parent u j))
        link_single (up {u = u} k o j) (down h n i) = absurd (unblocked i n (blocks.by_parent u j))
        link_single (up h n i) (up k o j) = refl

      module _ (ρ : ℕ → ℕ) (partnered : Partnered) where
        pub obeys_plain : (r : Rule) → Plain r → Memᴰ r s.rules → Obeys (chased ρ) r
        obeys_plain (included b c) y m = λ u h. has_is ρ partnered c u (has_widens u (is_has ρ b u h) (Included.by_rule m kind_0))
        obeys_plain (disjoint b c) y m = λ u h k. has_apart u (Excluded.by_rule m kind_1) (is_has ρ b u h) (is_has ρ c u k)
        obeys_plain (role_included p q) y m = λ u v h. link_joins ρ q u v (link_widens (joins_link ρ p u v h) (Included.by_rule m kind_2))
        obeys_plain (role_disjoint p q) y m =
            λ u v h k. link_apart (Excluded.by_rule m kind_3) (joins_link ρ p u v h) (joins_link ρ q u v k)
        obeys_plain (functional q) y m = absurd y

        pub obeys_all : Blocks → (r : Rule) → Memᴰ r s.rules → Obeys (chased ρ) r
        obeys_all b (included c d) m = obeys_plain (included c d) tt m
        obeys_all b (disjoint c d) m = obeys_plain (disjoint c d) tt m
        obeys_all b (role_included p q) m = obeys_plain (role_included p q) tt m
        obeys_all b (role_disjoint p q) m = obeys_plain (role_disjoint p q) tt m
        obeys_all b (functional q) m = λ u v w h k. link_single b m (joins_link ρ q u v h) (joins_link ρ q u w k)
