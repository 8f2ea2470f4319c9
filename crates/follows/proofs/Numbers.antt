-- The numbers of the nodes: each number is a node's, each declared node has its number, and the declared numbers are those in the row without gaps.
use Prim.Native.Nat.{ℕ, ◌+◌, ◌-◌, ◌*◌, ◌/◌, ◌<◌}
use mathlib.Core.Path.{◌≡◌, refl, sym, ap, subst, ◌∙◌}
use mathlib.Core.Bool.{Bool, true, false, cond}
use native.Mathlib.Omega.{arith}
use native.Mathlib.Decide.{dec_lt}
use lib.Dec.{ltb}
use borrow.Author.Tests.{ltb-true, ltb-false, lt-ltb, le-ltb}
use Rattle.site.specs.Kinds.{BasicRole, Node, Site, role_in, declared}
use Rattle.site.specs.Kinds.BasicRole.{forward, inverse}
use Rattle.site.specs.Kinds.BasicConcept.{named, some}
use Rattle.site.specs.Kinds.Node.{concept, role}
use Rattle.site.specs.Codes.{role_of, role_code, concept_of, node_of, node_code}
use Rattle.site.proofs.OfKinds.{role_even, role_odd}
use Rattle.site.proofs.OfCodes.{role_code_lem, concept_code_lem}
use Rattle.rules.specs.Lawful.{Lawful}
use Rattle.tables.specs.Listed.{node_at, Listed}

-- a number's node has that number
pub node_code_lem : (x : ℕ) → node_code (node_of x) ≡ x
unfolding node_of
node_code_lem x = step (ltb x 128) refl
  where
    step : (low : Bool) → ltb x 128 ≡ low → node_code (cond low (concept (concept_of x)) (role (role_of (x - 128)))) ≡ x
    step true e = concept_code_lem x
    step false e =
        let h = ltb-false x 128 e in
        let f = role_code_lem (x - 128) in
        omega arith

-- a basic role's code has that basic role
pub role_of_code : (q : BasicRole) → role_of (role_code q) ≡ q
role_of_code (forward j) =
    let half : 2 * j / 2 ≡ j = omega arith in
    rw (role_even (2 * j) (omega arith), half)
role_of_code (inverse j) =
    let half : (2 * j + 1) / 2 ≡ j = omega arith in
    rw (role_odd (2 * j + 1) (omega arith), half)

code_in : (q : BasicRole) (n : ℕ) → role_in q < n → role_code q < 2 * n
code_in (forward j) n h = omega arith
code_in (inverse j) n h = omega arith

in_code : (q : BasicRole) (n : ℕ) → role_code q < 2 * n → role_in q < n
in_code (forward j) n h = omega arith
in_code (inverse j) n h = omega arith

-- the numbers of the three kinds of nodes
named_at : (i : ℕ) → i < 64 → node_of i ≡ concept (named i)
unfolding node_of concept_of
named_at i h = rw (lt-ltb i 128 (omega arith), lt-ltb i 64 h)

some_at : (q : BasicRole) → role_code q < 64 → node_of (64 + role_code q) ≡ concept (some q)
unfolding node_of concept_of
some_at q h =
    let k = role_code q in
    let e : 64 + k - 64 ≡ k = omega arith in
    rw (lt-ltb (64 + k) 128 (omega arith), le-ltb (64 + k) 64 (omega arith), e, role_of_code q)

role_at : (q : BasicRole) → node_of (128 + role_code q) ≡ role q
unfolding node_of
role_at q =
    let k = role_code q in
    let e : 128 + k - 128 ≡ k = omega arith in
    rw (le-ltb (128 + k) 128 (omega arith), e, role_of_code q)

-- their places
place_named : (c r i : ℕ) → i < c → node_at c r i ≡ i
unfolding node_at
place_named c r i h = rw (lt-ltb i c h)

place_some : (c r k : ℕ) → k < 2 * r → node_at c r (c + k) ≡ 64 + k
unfolding node_at
place_some c r k h =
    let e : c + k - c ≡ k = omega arith in
    rw (le-ltb (c + k) c (omega arith), e, lt-ltb k (2 * r) h)

place_role : (c r k : ℕ) → node_at c r (c + (2 * r + k)) ≡ 128 + k
unfolding node_at
place_role c r k =
    let e : c + (2 * r + k) - c ≡ 2 * r + k = omega arith in
    let f : 2 * r + k - 2 * r ≡ k = omega arith in
    rw (le-ltb (c + (2 * r + k)) c (omega arith), e, le-ltb (2 * r + k) (2 * r) (omega arith), f)

module _ (s : Site) (lawful : Lawful s) where
  abbrev c : ℕ
  c = s.concepts

  abbrev r : ℕ
  r = s.roles

  small : (q : BasicRole) → role_in q < r → role_code q < 64
  small q h =
      let b = lawful.roles_within in
      let k = code_in q r h in
      omega arith

  pub code_node : (n : Node) → declared s n ≡ true → node_of (node_code n) ≡ n
  code_node (concept (named i)) d =
      let b = lawful.concepts_within in
      let h = ltb-true i c d in
      named_at i (omega arith)
  code_node (concept (some q)) d = some_at q (small q (ltb-true (role_in q) r d))
  code_node (role q) d = role_at q

  pub code_listed : (n : Node) → declared s n ≡ true → Listed c r (node_code n)
  code_listed (concept (named i)) d =
      let b = lawful.concepts_within in
      let h = ltb-true i c d in
      record { place = i; below = omega arith; stands = place_named c r i h; small = omega arith }
  code_listed (concept (some q)) d =
      let h = ltb-true (role_in q) r d in
      let k = code_in q r h in
      let l = small q h in
      record { place = c + role_code q; below = omega arith; stands = place_some c r (role_code q) k; small = omega arith }
  code_listed (role q) d =
      let h = ltb-true (role_in q) r d in
      let k = code_in q r h in
      let l = small q h in
      record { place = c + (2 * r + role_code q); below = omega arith; stands = place_role c r (role_code q); small = omega arith }

  -- a number at a place is a declared node's
  record Of (x : ℕ) : Type 0 where
    node : Node
    is_declared : declared s node ≡ true
    is_code : node_code node ≡ x

  of_role : (k : ℕ) → k < 2 * r → ltb (role_in (role_of k)) r ≡ true
  of_role k h =
      let e = role_code_lem k in
      lt-ltb (role_in (role_of k)) r (in_code (role_of k) r (omega arith))

  of_place : (i : ℕ) → i < c + 4 * r → Of (node_at c r i)
  of_place i b = step (dec_lt i c) (dec_lt (i - c) (2 * r))
    where
      step : Dec (i < c) → Dec (i - c < 2 * r) → Of (node_at c r i)
      step (yes h) d = record { node = concept (named i); is_declared = lt-ltb i c h; is_code = sym (place_named c r i h) }
      step (no h) (yes k) =
          let e : c + (i - c) ≡ i = omega arith in
          let f = role_code_lem (i - c) in
          record {
            node = concept (some (role_of (i - c)));
            is_declared = of_role (i - c) k;
            is_code = ap (λ n. 64 + n) f ∙ sym (place_some c r (i - c) k) ∙ ap (node_at c r) e;
          }
      step (no h) (no k) =
          let j = i - c - 2 * r in
          let e : c + (2 * r + j) ≡ i = omega arith in
          let f = role_code_lem j in
          record {
            node = role (role_of j);
            is_declared = of_role j (omega arith);
            is_code = ap (λ n. 128 + n) f ∙ sym (place_role c r j) ∙ ap (node_at c r) e;
          }

  pub listed_declared : (x : ℕ) → Listed c r x → declared s (node_of x) ≡ true
  listed_declared x l =
      let o = of_place l.place l.below in
      let e : node_of x ≡ o.node = ap node_of (sym l.stands ∙ sym o.is_code) ∙ code_node o.node o.is_declared in
      subst (λ n. declared s n ≡ true) (sym e) o.is_declared

  pub declared_listed : (x : ℕ) → declared s (node_of x) ≡ true → Listed c r x
  declared_listed x d = subst (Listed c r) (node_code_lem x) (code_listed (node_of x) d)
