-- Two tests of what follows that agree on declared nodes give declared facts the same marks, partners, counts, kept facts and answers.
use Prim.Native.Nat.{ℕ, ◌+◌, ◌-◌}
use mathlib.Core.Path.{◌≡◌, refl, sym, ap, ◌∙◌}
use mathlib.Core.Bool.{Bool, true, false, ◌&&◌, not}
use mathlib.Core.List.{List, [], ◌∷◌, map, Memᴰ}
use lib.Dec.{eqb, ltb}
use Rattle.site.specs.declared.fact.Fact.{Fact}
use Rattle.site.specs.Kinds.{BasicRole, Node, Site, of_concept, same_node, declared, declared_role}
use Rattle.site.specs.Kinds.Node.{concept, role}
use Rattle.site.specs.Codes.{predicate_declared}
use Rattle.site.specs.Limits.{no_partner}
use Rattle.site.specs.Lists.{any, count, keep, first}
use Rattle.site.proofs.Lists.{same_test}
use Rattle.steps.specs.Tables.{Follows}
use Rattle.clashes.specs.Types.{Typ, itself}
use Rattle.clashes.specs.Marks.{same_place, functional_node, jar, split, meet, alone, contradict, clash, mark, partner, marks, partners, marked, counts, kept}
use Rattle.clashes.proofs.OfTypes.{TypeOf, meet_some, some_meet}
use Rattle.clashes.proofs.OfTypes.TypeOf.{is_a, has, had, joins, joined}

-- tests that agree on the elements of a list
module _ {A : Type 0} (p p' : A → Bool) where
  abbrev Same : List A → Type 0
  Same l = (x : A) → Memᴰ x l → p x ≡ p' x

  later : {x : A} {l : List A} → Same (x ∷ l) → Same l
  later h y m = h y (Memᴰ.tail m)

  pub any_same : (l : List A) → Same l → any p l ≡ any p' l
  unfolding any
  any_same [] h = refl
  any_same (x ∷ l) h = rw (h x (Memᴰ.head refl), any_same l (later h))

  pub count_same : (l : List A) → Same l → count p l ≡ count p' l
  unfolding count
  count_same [] h = refl
  count_same (x ∷ l) h = rw (h x (Memᴰ.head refl), count_same l (later h))

  pub keep_same : (l : List A) → Same l → keep p l ≡ keep p' l
  unfolding keep
  keep_same [] h = refl
  keep_same (x ∷ l) h = rw (h x (Memᴰ.head refl), keep_same l (later h))

  pub first_same : (none k : ℕ) (l : List A) → Same l → first none p k l ≡ first none p' k l
  unfolding first
  first_same none k [] h = refl
  first_same none k (x ∷ l) h = rw (h x (Memᴰ.head refl), first_same none (k + 1) l (later h))

pub map_same : {A B : Type 0} (f f' : A → B) (l : List A) → ((x : A) → Memᴰ x l → f x ≡ f' x) → map f l ≡ map f' l
map_same f f' [] h = refl
map_same f f' (x ∷ l) h = rw (h x (Memᴰ.head refl), map_same f f' l (λ y m. h y (Memᴰ.tail m)))

-- agreement, and facts of declared predicates
pub record Agree (s : Site) (t t' : Follows) : Type 0 where
  pub on_excluded : (x y : Node) → declared s x ≡ true → declared s y ≡ true → t.is_excluded x y ≡ t'.is_excluded x y
  pub on_functional : (q : BasicRole) → declared_role s q ≡ true → t.is_functional q ≡ t'.is_functional q

abbrev pub Spoken : Site → Fact → Type 0
Spoken s f = predicate_declared s.concepts s.roles f.predicate ≡ true

abbrev pub AllSpoken : Site → List Fact → Type 0
AllSpoken s facts = (f : Fact) → Memᴰ f facts → Spoken s f

module _ (s : Site) (f : Fact) (spoken : Spoken s f) where
  low : of_concept f ≡ true → ltb f.predicate s.concepts ≡ true
  unfolding predicate_declared
  low e = rw e at spoken

  high : of_concept f ≡ false → ltb (f.predicate - 64) s.roles ≡ true
  unfolding predicate_declared
  high e = rw e at spoken

  pub type_declared : {x : Node} {a b : ℕ} → TypeOf itself f x a b → declared s x ≡ true
  type_declared (is_a h) = low h
  type_declared (has h) = high h
  type_declared (had h) = high h
  type_declared (joins h) = high h
  type_declared (joined h) = high h

-- tests of two facts that agree on their types agree
meet_same : (p p' : Typ → Typ → Bool) (f g : Fact)
    → ((x y : Typ) → TypeOf itself f x.node x.from x.to → TypeOf itself g y.node y.from y.to → p x y ≡ p' x y)
    → meet itself p f g ≡ meet itself p' f g
meet_same p p' f g h =
    same_test (meet itself p f g) (meet itself p' f g)
    (λ e. let m = meet_some itself p f g e in some_meet itself p' f g m.of_left m.of_right (sym (h m.left m.right m.of_left m.of_right) ∙ m.meets))
    (λ e. let m = meet_some itself p' f g e in some_meet itself p f g m.of_left m.of_right (h m.left m.right m.of_left m.of_right ∙ m.meets))

module _ (s : Site) (t t' : Follows) (agree : Agree s t t') where
  functional_same : (x : Node) → declared s x ≡ true → functional_node t x ≡ functional_node t' x
  functional_same (concept b) h = refl
  functional_same (role q) h = agree.on_functional q h

  module _ (f g : Fact) (f-spoken : Spoken s f) (g-spoken : Spoken s g) where
    jar_same : meet itself (jar t) f g ≡ meet itself (jar t') f g
    unfolding jar
    jar_same =
        meet_same (jar t) (jar t') f g
        (λ x y i j. ap (λ (b : Bool). same_place x y && b) (agree.on_excluded x.node y.node (type_declared s f f-spoken i) (type_declared s g g-spoken j)))

    split_same : meet itself (split t) f g ≡ meet itself (split t') f g
    unfolding split
    split_same =
        meet_same (split t) (split t') f g
        (λ x y i j.
        ap (λ (b : Bool). same_node x.node y.node && b && eqb x.from y.from && not (eqb x.to y.to))
        (functional_same x.node (type_declared s f f-spoken i)))

    contradict_same : contradict itself t f g ≡ contradict itself t' f g
    unfolding contradict
    contradict_same = rw (jar_same, split_same)

  alone_same : (f : Fact) → Spoken s f → alone itself t f ≡ alone itself t' f
  unfolding alone
  alone_same f h = jar_same f f h h

  clash_same : (f g : Fact) → Spoken s f → Spoken s g → clash itself t f g ≡ clash itself t' f g
  unfolding clash
  clash_same f g h k = rw (alone_same f h, alone_same g k, contradict_same f g h k)

  module _ (facts : List Fact) (all : AllSpoken s facts) where
    pub mark_same : (f : Fact) → Spoken s f → mark itself t facts f ≡ mark itself t' facts f
    unfolding mark
    mark_same f h = rw (alone_same f h, any_same (clash itself t f) (clash itself t' f) facts (λ g m. clash_same f g h (all g m)))

    pub partner_same : (f : Fact) → Spoken s f → partner itself t facts f ≡ partner itself t' facts f
    unfolding partner
    partner_same f h = first_same (clash itself t f) (clash itself t' f) no_partner 0 facts (λ g m. clash_same f g h (all g m))

    pub marks_same : marks itself t facts ≡ marks itself t' facts
    unfolding marks
    marks_same = map_same (mark itself t facts) (mark itself t' facts) facts (λ f m. mark_same f (all f m))

    pub partners_same : partners itself t facts ≡ partners itself t' facts
    unfolding partners
    partners_same = map_same (partner itself t facts) (partner itself t' facts) facts (λ f m. partner_same f (all f m))

    pub marked_same : (k : ℕ) (f : Fact) → Memᴰ f facts → marked itself t facts k f ≡ marked itself t' facts k f
    unfolding marked
    marked_same k f m = rw (mark_same f (all f m))

    pub counts_same : counts itself t facts ≡ counts itself t' facts
    unfolding counts
    counts_same =
        rw (count_same (marked itself t facts 0) (marked itself t' facts 0) facts (marked_same 0), count_same (marked itself t facts 1) (marked itself t' facts 1) facts (marked_same 1), count_same (marked itself t facts 2) (marked itself t' facts 2) facts (marked_same 2))

    pub kept_same : kept itself t facts ≡ kept itself t' facts
    unfolding kept
    kept_same = keep_same (marked itself t facts 0) (marked itself t' facts 0) facts (marked_same 0)
