-- The types of a fact as a family, and what it means that two facts contradict each other: types at one place that exclude each other, or a
-- functional role that joins one thing to two. A fact is alone exactly if it contradicts itself: a single fact splits no functional role.
use Prim.Native.Nat.{ℕ, ◌-◌}
use mathlib.Core.Path.{◌≡◌, refl, sym, ap, ◌∙◌, subst⁻¹}
use mathlib.Core.Bool.{Bool, true, false, cond, not, ◌&&◌}
use mathlib.Core.Logic.{◌⊎◌, inl, inr}
use mathlib.Core.List.{Memᴰ}
use lib.Dec.{eqb}
use borrow.Author.Tests.{eqb-true, eqb-false, eq-eqb, ne_eqb, not-true}
use Rattle.site.specs.declared.fact.Fact.{Fact}
use Rattle.site.specs.Kinds.{BasicRole, Node, Site, of_concept, same_node}
use Rattle.site.specs.Kinds.BasicRole.{forward, inverse}
use Rattle.site.specs.Kinds.BasicConcept.{named, some}
use Rattle.site.specs.Kinds.Node.{concept, role}
use Rattle.site.specs.Kinds.Rule.{functional}
use Rattle.site.specs.Lists.{any}
use Rattle.site.proofs.Lists.{any_found, any_of, and_left, and_right, and_both, or_cases, or_left, or_right, true_not_false}
use Rattle.site.proofs.Same.{same_node_lem, same_role_refl}
use Rattle.steps.specs.Steps.{Excluded}
use Rattle.steps.specs.Steps.Excluded.{step_5}
use Rattle.steps.specs.Tables.{Follows}
use Rattle.steps.specs.Decides.{Decides}
use Rattle.clashes.specs.Types.{Typ, typ, concept_types, role_types, types_of}
use Rattle.clashes.specs.Marks.{same_place, jar, functional_node, split, meet, alone, contradict}

-- a node at an ordered pair is a type of a fact
pub data TypeOf (ρ : ℕ → ℕ) (f : Fact) : Node → ℕ → ℕ → Type 0 where
  is_a : of_concept f ≡ true → TypeOf ρ f (concept (named f.predicate)) (ρ f.subject) (ρ f.subject)
  has : of_concept f ≡ false → TypeOf ρ f (concept (some (forward (f.predicate - 64)))) (ρ f.subject) (ρ f.subject)
  had : of_concept f ≡ false → TypeOf ρ f (concept (some (inverse (f.predicate - 64)))) (ρ f.object) (ρ f.object)
  joins : of_concept f ≡ false → TypeOf ρ f (role (forward (f.predicate - 64))) (ρ f.subject) (ρ f.object)
  joined : of_concept f ≡ false → TypeOf ρ f (role (inverse (f.predicate - 64))) (ρ f.object) (ρ f.subject)

abbrev pub Of : (ℕ → ℕ) → Fact → Typ → Type 0
Of ρ f x = TypeOf ρ f x.node x.from x.to

-- a single fact joins a thing by a basic role to one thing only
abbrev pub end : (ℕ → ℕ) → Fact → BasicRole → ℕ
end ρ f (forward j) = ρ f.object
end ρ f (inverse j) = ρ f.subject

abbrev pub EndOf : (ℕ → ℕ) → Fact → Node → ℕ → Type 0
EndOf ρ f (concept c) b = Unit {0}
EndOf ρ f (role q) b = b ≡ end ρ f q

module _ {ρ : ℕ → ℕ} {f : Fact} where
  in_concept : of_concept f ≡ true → {x : Typ} → Memᴰ x (concept_types f.predicate (ρ f.subject)) → Of ρ f x
  in_concept h (Memᴰ.head e) = subst⁻¹ (Of ρ f) e (is_a h)
  in_concept h (Memᴰ.tail m) = elim m [ ]

  in_role : of_concept f ≡ false → {x : Typ} → Memᴰ x (role_types (f.predicate - 64) (ρ f.subject) (ρ f.object)) → Of ρ f x
  in_role h (Memᴰ.head e) = subst⁻¹ (Of ρ f) e (has h)
  in_role h (Memᴰ.tail (Memᴰ.head e)) = subst⁻¹ (Of ρ f) e (had h)
  in_role h (Memᴰ.tail (Memᴰ.tail (Memᴰ.head e))) = subst⁻¹ (Of ρ f) e (joins h)
  in_role h (Memᴰ.tail (Memᴰ.tail (Memᴰ.tail (Memᴰ.head e)))) = subst⁻¹ (Of ρ f) e (joined h)
  in_role h (Memᴰ.tail (Memᴰ.tail (Memᴰ.tail (Memᴰ.tail m)))) = elim m [ ]

  pub listed_of : {x : Typ} → Memᴰ x (types_of ρ f) → TypeOf ρ f x.node x.from x.to
  unfolding types_of
  listed_of {x} m = go (of_concept f) refl m
    where
      go : (b : Bool) → of_concept f ≡ b
          → Memᴰ x
          (cond b
          (concept_types f.predicate (ρ f.subject))
          (role_types (f.predicate - 64) (ρ f.subject) (ρ f.object)))
          → TypeOf ρ f x.node x.from x.to
      go true e k = in_concept e k
      go false e k = in_role e k

  pub of_listed : {x : Node} {a b : ℕ} → TypeOf ρ f x a b → Memᴰ (typ x a b) (types_of ρ f)
  unfolding types_of
  of_listed (is_a h) = rw h (Memᴰ.head refl)
  of_listed (has h) = rw h (Memᴰ.head refl)
  of_listed (had h) = rw h (Memᴰ.tail (Memᴰ.head refl))
  of_listed (joins h) = rw h (Memᴰ.tail (Memᴰ.tail (Memᴰ.head refl)))
  of_listed (joined h) = rw h (Memᴰ.tail (Memᴰ.tail (Memᴰ.tail (Memᴰ.head refl))))

  one_end : {x : Node} {a b : ℕ} → TypeOf ρ f x a b → EndOf ρ f x b
  one_end (is_a h) = tt
  one_end (has h) = tt
  one_end (had h) = tt
  one_end (joins h) = refl
  one_end (joined h) = refl

-- what it means that two facts contradict each other
pub data Against (ρ : ℕ → ℕ) (s : Site) (f g : Fact) : Type 0 where
  jars : {x y : Node} {a b : ℕ} → TypeOf ρ f x a b → TypeOf ρ g y a b → Excluded s x y → Against ρ s f g
  splits : {q : BasicRole} {a b c : ℕ} → TypeOf ρ f (role q) a b → TypeOf ρ g (role q) a c → Memᴰ (functional q) s.rules
      → (b ≡ c → ⊥) → Against ρ s f g

pub against_turned : {ρ : ℕ → ℕ} {s : Site} {f g : Fact} → Against ρ s f g → Against ρ s g f
against_turned (jars x y e) = jars y x (step_5 e)
against_turned (splits x y m n) = splits y x m (λ e. n (sym e))

-- two types that meet
pub record Meeting (ρ : ℕ → ℕ) (p : Typ → Typ → Bool) (f g : Fact) : Type 0 where
  pub left : Typ
  pub right : Typ
  pub of_left : TypeOf ρ f left.node left.from left.to
  pub of_right : TypeOf ρ g right.node right.from right.to
  pub meets : p left right ≡ true

module _ (ρ : ℕ → ℕ) (p : Typ → Typ → Bool) (f g : Fact) where
  pub meet_some : meet ρ p f g ≡ true → Meeting ρ p f g
  unfolding meet
  meet_some h =
      let k = any_found (λ x. any (λ y. p x y) (types_of ρ g)) (types_of ρ f) h in
      let l = any_found (λ y. p k.one y) (types_of ρ g) k.passes in
      record { left = k.one; right = l.one; of_left = listed_of k.within; of_right = listed_of l.within; meets = l.passes }

  pub some_meet : {x y : Node} {a b c d : ℕ} → TypeOf ρ f x a b → TypeOf ρ g y c d → p (typ x a b) (typ y c d) ≡ true → meet ρ p f g ≡ true
  unfolding meet
  some_meet {x} {y} {a} {b} {c} {d} i j h =
      any_of (λ u. any (λ v. p u v) (types_of ρ g)) (of_listed i) (any_of (λ v. p (typ x a b) v) (of_listed j) h)

module _ (ρ : ℕ → ℕ) (s : Site) (t : Follows) (d : Decides s t) where
  jar_against : (f g : Fact) → meet ρ (jar t) f g ≡ true → Against ρ s f g
  unfolding jar
  jar_against f g h =
      let m = meet_some ρ (jar t) f g h in
      let x = m.left in
      let y = m.right in
      let place = and_left (same_place x y) _ m.meets in
      let from = eqb-true _ _ (and_left (eqb x.from y.from) _ place) in
      let to = eqb-true _ _ (and_right (eqb x.from y.from) _ place) in
      jars m.of_left
      (subst⁻¹ (λ (a : ℕ). TypeOf ρ g y.node a x.to) from (subst⁻¹ (λ (b : ℕ). TypeOf ρ g y.node y.from b) to m.of_right))
      ((d.excluded x.node y.node).0 (and_right (same_place x y) _ m.meets))

  split_against : {f g : Fact} (x y : Node) {a b c e : ℕ} → TypeOf ρ f x a b → TypeOf ρ g y c e → x ≡ y → functional_node t x ≡ true
      → a ≡ c → (b ≡ e → ⊥) → Against ρ s f g
  split_against (concept i) y u v same by from to = absurd (true_not_false by refl)
  split_against {f} {g} (role q) y {a} {b} {c} {e} u v same by from to =
      splits {q = q} u
      (subst⁻¹ (λ (n : Node). TypeOf ρ g n a e) same (subst⁻¹ (λ (n : ℕ). TypeOf ρ g y n e) from v))
      ((d.functional_by q).0 by)
      to

  pub contradict_against : (f g : Fact) → contradict ρ t f g ≡ true → Against ρ s f g
  unfolding contradict split
  contradict_against f g h = go (or_cases (meet ρ (jar t) f g) _ h)
    where
      go : (meet ρ (jar t) f g ≡ true) ⊎ (meet ρ (split t) f g ≡ true) → Against ρ s f g
      go (inl e) = jar_against f g e
      go (inr e) =
          let m = meet_some ρ (split t) f g e in
          let x = m.left in
          let y = m.right in
          let one : Bool = same_node x.node y.node in
          let two : Bool = functional_node t x.node in
          let three : Bool = eqb x.from y.from in
          let front = and_left (one && two && three) _ m.meets in
          let both = and_left (one && two) _ front in
          split_against x.node y.node m.of_left m.of_right
          (same_node_lem _ _ (and_left one _ both))
          (and_right one _ both)
          (eqb-true _ _ (and_right (one && two) _ front))
          (eqb-false _ _ (not-true _ (and_right (one && two && three) _ m.meets)))

  place_self : (a b : ℕ) → (eqb a a && eqb b b) ≡ true
  place_self a b = and_both _ _ (eq-eqb a a refl) (eq-eqb b b refl)

  jars_meet : {f g : Fact} {x y : Node} {a b : ℕ} → TypeOf ρ f x a b → TypeOf ρ g y a b → Excluded s x y → meet ρ (jar t) f g ≡ true
  unfolding jar
  jars_meet {f} {g} {x = x} {y = y} {a = a} {b = b} i j e = some_meet ρ (jar t) f g i j (and_both _ _ (place_self a b) ((d.excluded x y).1 e))

  splits_meet : {f g : Fact} {q : BasicRole} {a b c : ℕ} → TypeOf ρ f (role q) a b → TypeOf ρ g (role q) a c
      → Memᴰ (functional q) s.rules → (b ≡ c → ⊥) → meet ρ (split t) f g ≡ true
  unfolding split
  splits_meet {f} {g} {q = q} {a = a} {b = b} {c = c} i j m n =
      some_meet ρ (split t) f g i j
      (and_both _ _
      (and_both _ _ (and_both _ _ (same_role_refl q) ((d.functional_by q).1 m)) (eq-eqb a a refl))
      (ap not (ne_eqb b c n)))

  pub against_contradict : {f g : Fact} → Against ρ s f g → contradict ρ t f g ≡ true
  unfolding contradict
  against_contradict {f} {g} (jars i j e) = or_left (meet ρ (jar t) f g) (meet ρ (split t) f g) (jars_meet i j e)
  against_contradict {f} {g} (splits i j m n) = or_right (meet ρ (jar t) f g) (meet ρ (split t) f g) (splits_meet i j m n)

  pub alone_against : (f : Fact) → alone ρ t f ≡ true → Against ρ s f f
  unfolding alone
  alone_against f h = jar_against f f h

  pub against_alone : {f : Fact} → Against ρ s f f → alone ρ t f ≡ true
  unfolding alone
  against_alone (jars i j e) = jars_meet i j e
  against_alone (splits i j m n) = absurd (n (one_end i ∙ sym (one_end j)))
