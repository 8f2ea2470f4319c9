-- The tables' tests say what document 01 says: where tables decide what is included, excluded and functional (`Decides`), alone, clash, marks, partners,
-- counts and support by the tests are those of `Said`. Each test is an `any` over types or facts, so each law goes through a list once.
use Prim.Native.Nat.{ℕ, zero, suc, ◌<◌}
use mathlib.Core.Path.{◌≡◌, refl, sym, ap, ◌∙◌, subst, subst⁻¹}
use mathlib.Core.Bool.{Bool, true, false, cond, not, ◌&&◌}
use mathlib.Core.Logic.{◌↔◌, ◌⊎◌, inl, inr}
use mathlib.Core.List.{List, [], ◌∷◌, Memᴰ}
use lib.Dec.{eqb}
use lib.ListN.{length, get_or}
use native.Mathlib.Omega.{arith}
use borrow.Author.Tests.{eqb-true, eqb-false, eq-eqb, ne_eqb, not-true}
use Rattle.site.specs.declared.fact.Fact.{Fact}
use Rattle.site.specs.Kinds.{Node, Site, same_node}
use Rattle.site.specs.Kinds.Node.{concept, role}
use Rattle.site.specs.Lists.{any, count, keep}
use Rattle.site.proofs.Lists.{any_found, any_of, and_left, and_right, and_both, or_cases, or_left, or_right, is_false, true_not_false, length_keep}
use Rattle.site.proofs.Same.{same_node_lem, same_role_refl}
use Rattle.steps.specs.Tables.{Follows}
use Rattle.steps.specs.Decides.{Decides}
use Rattle.clashes.specs.Types.{Typ, typ, types_of}
use Rattle.clashes.specs.Marks.{same_place, jar, functional_node, split, meet, alone, contradict, clash, supports, mark, partner, marked, counts, kept, support}
use Rattle.clashes.proofs.OfClash.{clash_is}
use Rattle.clashes.proofs.OfMarks.{MarkOf, mark_of}
use Rattle.clashes.proofs.OfMarks.MarkOf.{is_kept, is_alone, is_disputed}
use Rattle.clashes.proofs.OfPartners.{no_partner_lem, lowest_clash}
use Rattle.clashes.proofs.OfAnswers.{supported, support_of}
use Rattle.demands.specs.Said.{Numbered, Those, HowMany, Jars, Splits, Alone, Clash, Supports, Disputed, Kept, MarkIs, LowestClash, PartnerIs, LowestSupport}
use Rattle.demands.specs.Said.Those.{none, this, not_this}
use Rattle.demands.specs.Said.MarkIs.{kept as kept_so, alone as alone-so, disputed as disputed-so}
use Rattle.demands.specs.Said.PartnerIs.{of_kept, of_alone, of_disputed}

-- ---- lists
-- what stands at a place that is there does not depend on what stands for one that is not
pub get_or_any : {A : Type 0} (l : List A) (i : ℕ) (d e : A) → i < length l → get_or l i d ≡ get_or l i e
get_or_any [] i d e less = absurd (omega arith)
get_or_any (x ∷ xs) zero d e less = refl
get_or_any (x ∷ xs) (suc i) d e less = get_or_any xs i d e (omega arith)

pub numbered : (facts : List Fact) (k : ℕ) (d : Fact) → k < length facts → Numbered facts k (get_or facts k d)
numbered facts k d less = record { inside = less; is = get_or_any facts k (get_or facts k d) d less }

module _ {A : Type 0} (p : A → Bool) (P : A → Type 0) (is : (x : A) → (p x ≡ true) ↔ P x) where
  -- those that pass a test that decides the property
  pub those_kept : (l : List A) → Those P l (keep p l)
  unfolding keep
  those_kept [] = none
  those_kept (x ∷ xs) = go (p x) refl (those_kept xs)
    where
      go : (b : Bool) → p x ≡ b → Those P xs (keep p xs) → Those P (x ∷ xs) (cond b (x ∷ keep p xs) (keep p xs))
      go true e rest = this ((is x).0 e) rest
      go false e rest = not_this (λ h. true_not_false ((is x).1 h) e) rest

  pub how_many : (l : List A) → HowMany P l (count p l)
  how_many l = record { those = keep p l; are = those_kept l; many = sym (length_keep p l) }

-- there is one such list
pub those_once : {A : Type 0} {P : A → Type 0} {l xs ys : List A} → Those P l xs → Those P l ys → xs ≡ ys
those_once none none = refl
those_once (this {x = x} h a) (this k b) = ap (λ l. x ∷ l) (those_once a b)
those_once (this h a) (not_this k b) = absurd (k h)
those_once (not_this h a) (this k b) = absurd (h k)
those_once (not_this h a) (not_this k b) = those_once a b

-- a type of a list, its parts known by other names
placed : (l : List Typ) (x : Typ) → Memᴰ x l → (n : Node) (a b : ℕ) → x.node ≡ n → x.from ≡ a → x.to ≡ b → Memᴰ (typ n a b) l
placed l x m n a b is-n is_a is_b =
    subst (λ (z : ℕ). Memᴰ (typ n a z) l) is_b
    (subst (λ (z : ℕ). Memᴰ (typ n z x.to) l) is_a (subst (λ (z : Node). Memᴰ (typ z x.from x.to) l) is-n m))

module _ (ρ : ℕ → ℕ) (s : Site) (t : Follows) (d : Decides s t) where
  -- ---- two types that exclude each other
  module _ (f g : Fact) where
    jars_to : meet ρ (jar t) f g ≡ true → Jars ρ s f g
    unfolding meet jar
    jars_to h =
        let k = any_found (λ x. any (λ y. jar t x y) (types_of ρ g)) (types_of ρ f) h in
        let l = any_found (λ y. jar t k.one y) (types_of ρ g) k.passes in
        let x = k.one in
        let y = l.one in
        let place = and_left (same_place x y) _ l.passes in
        record {
          one = x;
          other = y;
          of_first = k.within;
          of_second = l.within;
          same_from = eqb-true _ _ (and_left (eqb x.from y.from) _ place);
          same_to = eqb-true _ _ (and_right (eqb x.from y.from) _ place);
          exclude = (d.excluded x.node y.node).0 (and_right (same_place x y) _ l.passes);
        }

    jars_from : Jars ρ s f g → meet ρ (jar t) f g ≡ true
    unfolding meet jar
    jars_from j =
        let x = j.one in
        let y = j.other in
        let place = and_both _ _ (eq-eqb x.from y.from j.same_from) (eq-eqb x.to y.to j.same_to) in
        any_of (λ u. any (λ v. jar t u v) (types_of ρ g)) j.of_first
        (any_of (λ v. jar t x v) j.of_second (and_both _ _ place ((d.excluded x.node y.node).1 j.exclude)))

    -- ---- a functional role that would join one thing to two
    split_by : (n : Node) (x y : Typ) → Memᴰ x (types_of ρ f) → Memᴰ y (types_of ρ g) → x.node ≡ n → y.node ≡ n → functional_node t n ≡ true
        → x.from ≡ y.from → (x.to ≡ y.to → ⊥) → Splits ρ s f g
    split_by (concept c) x y m k is_x is_y by from to = absurd (true_not_false by refl)
    split_by (role q) x y m k is_x is_y by from to =
        record {
          by = q;
          from = x.from;
          one = x.to;
          other = y.to;
          is_functional_lem = (d.functional_by q).0 by;
          of_first = placed (types_of ρ f) x m (role q) x.from x.to is_x refl refl;
          of_second = placed (types_of ρ g) y k (role q) x.from y.to is_y (sym from) refl;
          different = to;
        }

    splits_to : meet ρ (split t) f g ≡ true → Splits ρ s f g
    unfolding meet split
    splits_to h =
        let k = any_found (λ x. any (λ y. split t x y) (types_of ρ g)) (types_of ρ f) h in
        let l = any_found (λ y. split t k.one y) (types_of ρ g) k.passes in
        let x = k.one in
        let y = l.one in
        let three = and_left (same_node x.node y.node && functional_node t x.node && eqb x.from y.from) _ l.passes in
        let two = and_left (same_node x.node y.node && functional_node t x.node) _ three in
        let nodes : x.node ≡ y.node = same_node_lem x.node y.node (and_left (same_node x.node y.node) _ two) in
        let by : functional_node t x.node ≡ true = and_right (same_node x.node y.node) _ two in
        let from = eqb-true x.from y.from (and_right (same_node x.node y.node && functional_node t x.node) _ three) in
        let apart = not-true _ (and_right (same_node x.node y.node && functional_node t x.node && eqb x.from y.from) _ l.passes) in
        split_by x.node x y k.within l.within refl (sym nodes) by from (eqb-false x.to y.to apart)

    splits_from : Splits ρ s f g → meet ρ (split t) f g ≡ true
    unfolding meet split
    splits_from j =
        let x = typ (role j.by) j.from j.one in
        let two = and_both _ _ (same_role_refl j.by) ((d.functional_by j.by).1 j.is_functional_lem) in
        let three = and_both _ _ two (eq-eqb j.from j.from refl) in
        any_of (λ u. any (λ v. split t u v) (types_of ρ g)) j.of_first
        (any_of (λ v. split t x v) j.of_second (and_both _ _ three (ap not (ne_eqb j.one j.other j.different))))

  -- ---- alone and clash
  pub alone_is : (f : Fact) → (alone ρ t f ≡ true) ↔ Alone ρ s f
  unfolding alone
  alone_is f = (jars_to f f, jars_from f f)

  not_alone : (f : Fact) → alone ρ t f ≡ false → Alone ρ s f → ⊥
  not_alone f e a = true_not_false ((alone_is f).1 a) e

  contradict_to : (f g : Fact) → contradict ρ t f g ≡ true → Jars ρ s f g ⊎ Splits ρ s f g
  unfolding contradict
  contradict_to f g h = go (or_cases (meet ρ (jar t) f g) (meet ρ (split t) f g) h)
    where
      go : (meet ρ (jar t) f g ≡ true) ⊎ (meet ρ (split t) f g ≡ true) → Jars ρ s f g ⊎ Splits ρ s f g
      go (inl e) = inl (jars_to f g e)
      go (inr e) = inr (splits_to f g e)

  contradict_from : (f g : Fact) → Jars ρ s f g ⊎ Splits ρ s f g → contradict ρ t f g ≡ true
  unfolding contradict
  contradict_from f g (inl j) = or_left (meet ρ (jar t) f g) (meet ρ (split t) f g) (jars_from f g j)
  contradict_from f g (inr j) = or_right (meet ρ (jar t) f g) (meet ρ (split t) f g) (splits_from f g j)

  pub clash_said : (f g : Fact) → (clash ρ t f g ≡ true) ↔ Clash ρ s f g
  clash_said f g = (
    λ h.
        let c = (clash_is ρ t f g).0 h in
        record {
          first_not_alone = not_alone f c.first_not_alone;
          second_not_alone = not_alone g c.second_not_alone;
          contradict = contradict_to f g c.contradicts;
        },
    λ c.
        (clash_is ρ t f g).1
        (record {
          first_not_alone = is_false (λ e. c.first_not_alone ((alone_is f).0 e));
          second_not_alone = is_false (λ e. c.second_not_alone ((alone_is g).0 e));
          contradicts = contradict_from f g c.contradict;
        }),
  )

  -- ---- support for a question
  pub supports_said : (asked : Typ) (f : Fact) → (supports ρ t asked f ≡ true) ↔ Supports ρ s asked f
  unfolding supports
  supports_said asked f = (
    λ h.
        let k = any_found (λ x. same_place x asked && t.is_included x.node asked.node) (types_of ρ f) h in
        let x = k.one in
        let place = and_left (same_place x asked) _ k.passes in
        record {
          one = x;
          of = k.within;
          same_from = eqb-true _ _ (and_left (eqb x.from asked.from) _ place);
          same_to = eqb-true _ _ (and_right (eqb x.from asked.from) _ place);
          included = (d.included x.node asked.node).0 (and_right (same_place x asked) _ k.passes);
        },
    λ j.
        let x = j.one in
        let place = and_both _ _ (eq-eqb x.from asked.from j.same_from) (eq-eqb x.to asked.to j.same_to) in
        any_of (λ u. same_place u asked && t.is_included u.node asked.node) j.of (and_both _ _ place ((d.included x.node asked.node).1 j.included)),
  )

  -- ---- marks
  module _ (facts : List Fact) where
    said_by : {f : Fact} {m : ℕ} → MarkOf ρ t facts f m → MarkIs ρ s facts f m
    said_by {f} (is_kept e k) =
        kept_so
        (record {
          not_alone = not_alone f e;
          not_disputed = λ u. true_not_false (any_of (clash ρ t f) u.within ((clash_said f u.by).1 u.clash)) k;
        })
    said_by {f} (is_alone e) = alone-so ((alone_is f).0 e)
    said_by {f} (is_disputed e k) =
        let p = any_found (clash ρ t f) facts k in
        disputed-so (record { by = p.one; within = p.within; clash = (clash_said f p.one).0 p.passes })

    pub mark_said : (f : Fact) → MarkIs ρ s facts f (mark ρ t facts f)
    mark_said f = said_by (mark_of ρ t facts f)

  -- a fact has one mark
  pub one_mark : {facts : List Fact} {f : Fact} {m n : ℕ} → MarkIs ρ s facts f m → MarkIs ρ s facts f n → m ≡ n
  one_mark (kept_so h) (kept_so k) = refl
  one_mark (kept_so h) (alone-so k) = absurd (h.not_alone k)
  one_mark (kept_so h) (disputed-so k) = absurd (h.not_disputed k)
  one_mark (alone-so h) (kept_so k) = absurd (k.not_alone h)
  one_mark (alone-so h) (alone-so k) = refl
  one_mark (alone-so h) (disputed-so k) = absurd (k.clash.first_not_alone h)
  one_mark (disputed-so h) (kept_so k) = absurd (k.not_disputed h)
  one_mark (disputed-so h) (alone-so k) = absurd (h.clash.first_not_alone k)
  one_mark (disputed-so h) (disputed-so k) = refl

  -- the property behind a mark
  kept_of : {facts : List Fact} {f : Fact} {m : ℕ} → MarkIs ρ s facts f m → m ≡ 0 → Kept ρ s facts f
  kept_of (kept_so h) e = h
  kept_of (alone-so h) e = absurd (omega arith)
  kept_of (disputed-so h) e = absurd (omega arith)

  alone_of : {facts : List Fact} {f : Fact} {m : ℕ} → MarkIs ρ s facts f m → m ≡ 1 → Alone ρ s f
  alone_of (kept_so h) e = absurd (omega arith)
  alone_of (alone-so h) e = h
  alone_of (disputed-so h) e = absurd (omega arith)

  disputed_of : {facts : List Fact} {f : Fact} {m : ℕ} → MarkIs ρ s facts f m → m ≡ 2 → Disputed ρ s facts f
  disputed_of (kept_so h) e = absurd (omega arith)
  disputed_of (alone-so h) e = absurd (omega arith)
  disputed_of (disputed-so h) e = h

  module _ (facts : List Fact) where
    pub kept_is : (f : Fact) → (mark ρ t facts f ≡ 0) ↔ Kept ρ s facts f
    kept_is f = (kept_of (mark_said facts f), λ h. one_mark (mark_said facts f) (kept_so h))

    -- a test of a mark decides its property
    marked_is : (m : ℕ) (P : Fact → Type 0) → ((f : Fact) → (mark ρ t facts f ≡ m) ↔ P f) → (f : Fact) → (marked ρ t facts m f ≡ true) ↔ P f
    unfolding marked
    marked_is m P is f = (λ h. (is f).0 (eqb-true _ m h), λ h. eq-eqb _ m ((is f).1 h))

    pub kept_those : Those (Kept ρ s facts) facts (kept ρ t facts)
    unfolding kept
    kept_those = those_kept (marked ρ t facts 0) (Kept ρ s facts) (marked_is 0 (Kept ρ s facts) kept_is) facts

    pub kept_many : HowMany (Kept ρ s facts) facts (counts ρ t facts).kept
    unfolding counts
    kept_many = how_many (marked ρ t facts 0) (Kept ρ s facts) (marked_is 0 (Kept ρ s facts) kept_is) facts

    pub alone_many : HowMany (Alone ρ s) facts (counts ρ t facts).alone
    unfolding counts
    alone_many =
        how_many (marked ρ t facts 1) (Alone ρ s)
        (marked_is 1 (Alone ρ s) (λ f. (alone_of (mark_said facts f), λ h. one_mark (mark_said facts f) (alone-so h)))) facts

    pub disputed_many : HowMany (Disputed ρ s facts) facts (counts ρ t facts).disputed
    unfolding counts
    disputed_many =
        how_many (marked ρ t facts 2) (Disputed ρ s facts)
        (marked_is 2 (Disputed ρ s facts) (λ f. (disputed_of (mark_said facts f), λ h. one_mark (mark_said facts f) (disputed-so h)))) facts

    -- ---- partners
    lowest_said : (f : Fact) → mark ρ t facts f ≡ 2 → LowestClash ρ s facts f (partner ρ t facts f)
    lowest_said f e =
        let l = lowest_clash ρ t facts f e in
        record {
          partner = get_or facts (partner ρ t facts f) f;
          is_fact = numbered facts (partner ρ t facts f) f l.inside;
          clash = (clash_said f _).0 (l.passes f);
          lowest = λ k g n c less. true_not_false (ap (clash ρ t f) n.is ∙ (clash_said f g).1 c) (l.lowest g k less);
        }

    partner_by_lem : {f : Fact} {m : ℕ} → MarkOf ρ t facts f m → mark ρ t facts f ≡ m → PartnerIs ρ s facts f m (partner ρ t facts f)
    partner_by_lem {f} (is_kept h k) e = subst⁻¹ (PartnerIs ρ s facts f 0) (no_partner_lem ρ t facts f (omega arith)) of_kept
    partner_by_lem {f} (is_alone h) e = subst⁻¹ (PartnerIs ρ s facts f 1) (no_partner_lem ρ t facts f (omega arith)) of_alone
    partner_by_lem {f} (is_disputed h k) e = of_disputed (lowest_said f e)

    pub partner_said : (f : Fact) → PartnerIs ρ s facts f (mark ρ t facts f) (partner ρ t facts f)
    partner_said f = partner_by_lem (mark_of ρ t facts f) refl

    -- ---- the lowest-numbered kept fact that supports a question
    module _ (asked : Typ) where
      pub support_said : support ρ t facts asked < length facts → LowestSupport ρ s facts asked (support ρ t facts asked)
      support_said h =
          let l = support_of ρ t facts asked h in
          let n : ℕ = support ρ t facts asked in
          record {
            by = get_or facts n nowhere;
            is_fact = numbered facts n nowhere l.inside;
            is_kept = (kept_is _).0 (l.is_kept nowhere);
            supports = (supports_said asked _).0 (l.supporting nowhere);
            lowest = λ k g i q z less.
                true_not_false (ap (supports ρ t asked) i.is ∙ (supports_said asked g).1 z)
                (l.lowest g k less (ap (mark ρ t facts) i.is ∙ (kept_is g).1 q));
          }
        where
          nowhere : Fact
          nowhere = record { predicate = 0; subject = 0; object = 0 }

      pub no_support : (support ρ t facts asked < length facts → ⊥) → (f : Fact) → Memᴰ f facts → Kept ρ s facts f → Supports ρ s asked f → ⊥
      no_support nowhere f m q z =
          nowhere ((supported ρ t facts asked).1 (record { fact = f; within = m; is_kept = (kept_is f).1 q; supporting = (supports_said asked f).1 z }))
