-- What the code's tests on two facts say of jarring, splitting, contradicting and being alone.
use Prim.Native.Nat.{ℕ, ◌+◌, ◌-◌, ◌*◌, ◌≤◌}
use mathlib.Core.Path.{◌≡◌, refl, sym, ap, ◌∙◌}
use mathlib.Core.Bool.{Bool, true, false, cond, ◌&&◌, ◌||◌, not, or-false, and-false}
use mathlib.Core.List.{List, [], ◌∷◌, map}
use mathlib.Core.Logic.{◌⊎◌, inl, inr}
use lib.Dec.{eqb}
use native.Mathlib.Decide.{ℕ_discrete}
use native.Mathlib.Omega.{arith}
use borrow.Author.Tests.{eq-eqb, ne_eqb, ltb-false, eqb-true, not-true}
use Rattle.site.specs.declared.fact.Fact.{Fact}
use Rattle.site.specs.Kinds.{Node, of_concept, same_node}
use Rattle.site.proofs.Lists.{and_left, and_right, is_false, true_not_false}
use Rattle.site.specs.Lists.{any}
use Rattle.steps.specs.Tables.{Follows}
use Rattle.clashes.specs.Types.{Typ as SaidTyp, types_of, itself, concept_types, role_types}
use Rattle.clashes.specs.Marks.{same_place, functional_node, jar, split, meet, alone, contradict}
use Rattle.clashes.specs.Coded.{coded_types, has_role, bits_follow, relates_coded, split_coded, far}
use Rattle.clashes.proofs.OfTypes.{TypeOf, meet_some}
use Rattle.clashes.proofs.OfTypes.TypeOf.{is_a, has, had, joins, joined}

-- a test of what is coded
pub any_map : {A B : Type 0} (p : B → Bool) (h : A → B) (l : List A) → any p (map h l) ≡ any (λ x. p (h x)) l
unfolding any
any_map p h [] = refl
any_map p h (x ∷ xs) = ap (λ (b : Bool). p (h x) || b) (any_map p h xs)

module _ (included excluded : List ℕ) (functional : ℕ) (f g : Fact) where
  pub jar_meet : any (relates_coded excluded g) (coded_types f) ≡ meet itself (jar (bits_follow included excluded functional)) f g
  unfolding meet jar coded_types
  jar_meet = simp any_map

-- a type starts at one of the fact's two things
starts : {f : Fact} {x : Node} {a b : ℕ} → TypeOf itself f x a b → (a ≡ f.subject) ⊎ (a ≡ f.object)
starts (is_a h) = inl refl
starts (has h) = inl refl
starts (had h) = inr refl
starts (joins h) = inl refl
starts (joined h) = inr refl

-- facts that are far have no types that start at one thing
differ : (a b : ℕ) → not (eqb a b) ≡ true → a ≡ b → ⊥
differ a b h e = true_not_false (eq-eqb a b e) (not-true (eqb a b) h)

pub record Four (a b c d : Bool) : Type 0 where
  pub first : a ≡ true
  pub second : b ≡ true
  pub third : c ≡ true
  pub fourth : d ≡ true

all_four : (a b c d : Bool) → (a && b && c && d) ≡ true → Four a b c d
all_four a b c d e =
    let abc = and_left (a && b && c) d e in
    let ab = and_left (a && b) c abc in
    record { first = and_left a b ab; second = and_right a b ab; third = and_right (a && b) c abc; fourth = and_right (a && b && c) d e }

module _ (f g : Fact) (e : far f g ≡ true) where
  differences : Four (not (eqb f.subject g.subject)) (not (eqb f.subject g.object)) (not (eqb f.object g.subject)) (not (eqb f.object g.object))
  unfolding far
  differences =
      all_four (not (eqb f.subject g.subject)) (not (eqb f.subject g.object)) (not (eqb f.object g.subject)) (not (eqb f.object g.object)) e

  apart : {a c : ℕ} → (a ≡ f.subject) ⊎ (a ≡ f.object) → (c ≡ g.subject) ⊎ (c ≡ g.object) → a ≡ c → ⊥
  apart (inl p) (inl q) same = differ f.subject g.subject differences.first (sym p ∙ same ∙ q)
  apart (inl p) (inr q) same = differ f.subject g.object differences.second (sym p ∙ same ∙ q)
  apart (inr p) (inl q) same = differ f.object g.subject differences.third (sym p ∙ same ∙ q)
  apart (inr p) (inr q) same = differ f.object g.object differences.fourth (sym p ∙ same ∙ q)

  far_meet : (p : SaidTyp → SaidTyp → Bool) → ((x y : SaidTyp) → p x y ≡ true → x.from ≡ y.from) → meet itself p f g ≡ false
  far_meet p starts-so =
      is_false (λ m. let k = meet_some itself p f g m in apart (starts k.of_left) (starts k.of_right) (starts-so k.left k.right k.meets))

module _ (t : Follows) (x y : SaidTyp) where
  jar_starts : jar t x y ≡ true → x.from ≡ y.from
  unfolding jar
  jar_starts e = eqb-true x.from y.from (and_left (eqb x.from y.from) (eqb x.to y.to) (and_left (same_place x y) _ e))

  split_starts : split t x y ≡ true → x.from ≡ y.from
  unfolding split
  split_starts e =
      eqb-true x.from y.from
      (all_four (same_node x.node y.node) (functional_node t x.node) (eqb x.from y.from) (not (eqb x.to y.to)) e).third

-- two facts of one role, split by numbers and by types
spread : (e h x y h' x' y' : Bool) → (e && h && x && y || e && h' && x' && y') ≡ (e && (h && x && y || h' && x' && y'))
spread true h x y h' x' y' = refl
spread false h x y h' x' y' = refl

same_role_lem : (p q : ℕ) → 64 ≤ p → 64 ≤ q → eqb (p - 64) (q - 64) ≡ eqb p q
same_role_lem p q h k = by (ℕ_discrete p q)
  where
    by : Dec (p ≡ q) → eqb (p - 64) (q - 64) ≡ eqb p q
    by (yes e) = rw (eq-eqb p q e, eq-eqb (p - 64) (q - 64) (omega arith))
    by (no d) = rw (ne_eqb p q d, ne_eqb (p - 64) (q - 64) (λ e. d (omega arith)))

module _ (included excluded : List ℕ) (functional : ℕ) where
  abbrev bits : Follows
  bits = bits_follow included excluded functional

  split_types : (f g : Fact) (one two : Bool) → (one ≡ false → 64 ≤ f.predicate) → (two ≡ false → 64 ≤ g.predicate)
      → any (λ x. any (λ y. split bits x y) (cond two (concept_types g.predicate g.subject) (role_types (g.predicate - 64) g.subject g.object)))
      (cond one (concept_types f.predicate f.subject) (role_types (f.predicate - 64) f.subject f.object))
      ≡ (not one && not two && eqb f.predicate g.predicate
      && (has_role functional (2 * (f.predicate - 64)) && eqb f.subject g.subject && not (eqb f.object g.object)
      || has_role functional (2 * (f.predicate - 64) + 1) && eqb f.object g.object && not (eqb f.subject g.subject)))
  unfolding any split
  split_types f g true true h k = simp (and-false, or-false)
  split_types f g true false h k = simp (or-false)
  split_types f g false true h k = simp (or-false)
  split_types f g false false h k =
      simp (and-false, or-false)
      (rw (same_role_lem f.predicate g.predicate (h refl) (k refl))
      (spread (eqb f.predicate g.predicate) _ _ _ _ _ _))

  split_meet : (f g : Fact) → split_coded functional f g ≡ meet itself (split bits) f g
  unfolding split_coded meet types_of
  split_meet f g =
      sym (split_types f g (of_concept f) (of_concept g) (λ e. ltb-false f.predicate 64 e) (λ e. ltb-false g.predicate 64 e))

-- what the code tests of two facts
module _ (excluded : List ℕ) (functional : ℕ) (f g : Fact) where
  abbrev jarring : Bool
  jarring = any (relates_coded excluded g) (coded_types f)

  by_far : (apart : Bool) → far f g ≡ apart
      → contradict itself (bits_follow [] excluded functional) f g ≡ (not apart && (jarring || split_coded functional f g))
  unfolding contradict
  by_far true e =
      let t = bits_follow [] excluded functional in
      rw (far_meet f g e (jar t) (jar_starts t), far_meet f g e (split t) (split_starts t))
  by_far false e = rw (← (jar_meet [] excluded functional f g), ← (split_meet [] excluded functional f g))

  pub contradict_is : contradict itself (bits_follow [] excluded functional) f g ≡ (not (far f g) && (jarring || split_coded functional f g))
  contradict_is = by_far (far f g) refl

pub alone_is : (excluded : List ℕ) (functional : ℕ) (f : Fact)
    → alone itself (bits_follow [] excluded functional) f ≡ any (relates_coded excluded f) (coded_types f)
unfolding alone
alone_is excluded functional f = sym (jar_meet [] excluded functional f f)
