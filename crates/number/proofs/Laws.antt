-- Laws of a number's definitions, for all that reads or writes numbers. What stands at the head of some bytes is a fault 1 to 3 or a form;
-- a form's facts are proved once, at its one, two or three bytes, and what is said of an accepted or a refused number follows from them.
use Prim.Native.Nat.{ℕ, zero, suc, ◌+◌, ◌-◌, ◌*◌, ◌/◌, ◌%◌, ◌≤◌, ◌<◌}
use mathlib.Core.Path.{◌≡◌, refl, sym, ap, ◌∙◌}
use mathlib.Core.List.{List, [], ◌∷◌, ◌++◌}
use lib.ListN.{length, get_or, take, drop, length-drop}
use lib.Seq.{drop-append_seam, drop-drop, get_or-drop, take_at, take-nil, take-take, drop_at}
use lib.Dec.{ltb, leb, eqb}
use native.Mathlib.Omega.{arith}
use borrow.Author.Tests.{lt-ltb, le-ltb, le-leb, ne_eqb, ltb-true, ltb-false, leb-true, eqb-false}
use Rattle.number.specs.Answer.{Answer, refusal, number_of}
use Rattle.std.specs.Prelude.{Ok, Err, None}
use Rattle.number.specs.Number.{Form, ending, third, second, form_of, judged, judge_at, number_at, bytes_of, three_bytes}
use Rattle.number.specs.Number.Form.{whole, fault}
use Rattle.number.specs.Told.{Writes}
use Rattle.number.specs.declared.refusal.Refusal.{Refusal}
use Rattle.number.specs.declared.read.Read.{Read}
use Rattle.number.specs.declared.refusal.Fault.{Fault}
use Rattle.number.specs.declared.refusal.Fault.TheVariants.{Cut, Long, Over}
use Rattle.number.specs.declared.refusal.Side.{Side}
use Rattle.number.proofs.Answers.{never, given_once, same_refused}
use Rattle.number.proofs.One.{one, Same}
use Rattle.number.proofs.Writing.{picked, by_form, sized, size_1, bytes_1, bytes_2, bytes_3}

-- every element is a byte
abbrev pub Bytes : List ℕ → Type 0
Bytes s = (i : ℕ) → get_or s i 0 < 256

no_bytes : Bytes []
no_bytes i = omega arith

more_bytes : (a : ℕ) (s : List ℕ) → a < 256 → Bytes s → Bytes (a ∷ s)
more_bytes a s h k zero = h
more_bytes a s h k (suc i) = k i

pub bytes_from : (s : List ℕ) (at : ℕ) → Bytes s → Bytes (drop at s)
bytes_from s at h i = rw get_or-drop (h (at + i))

-- the bytes of a value
module _ (v : ℕ) where
  -- "A number has at most three bytes"
  pub at_least_one : 1 ≤ length (bytes_of v)
  at_least_one = sized v

  pub at_most_three : length (bytes_of v) ≤ 3
  at_most_three = by_form v (λ l. length l ≤ 3) (λ h. omega arith) (λ h k. omega arith) (λ h. omega arith)

  pub two_bytes : v < 16384 → length (bytes_of v) ≤ 2
  two_bytes small = by_form v (λ l. length l ≤ 2) (λ h. omega arith) (λ h k. omega arith) (λ h. absurd (omega arith))

  module _ (has-form : v ≤ three_bytes) where
    pub written_bytes : Bytes (bytes_of v)
    written_bytes =
        by_form v Bytes
        (λ h. more_bytes v [] (omega arith) no_bytes)
        (λ h k. more_bytes (v % 128 + 128) (v / 128 ∷ []) (omega arith) (more_bytes (v / 128) [] (omega arith) no_bytes))
        (λ h.
        more_bytes (v % 128 + 128) ((v / 128 % 128 + 128) ∷ v / 16384 ∷ []) (omega arith)
        (more_bytes (v / 128 % 128 + 128) (v / 16384 ∷ []) (omega arith) (more_bytes (v / 16384) [] (omega arith) no_bytes)))

    form_back : (after : List ℕ) → form_of (bytes_of v ++ after) ≡ whole v (length (bytes_of v))
    unfolding form_of second third
    form_back after =
        by_form v (λ l. form_of (l ++ after) ≡ whole v (length l))
        (λ h. rw (lt-ltb v 128 h))
        (λ h k.
        rw (le-ltb (v % 128 + 128) 128 (omega arith), lt-ltb (v / 128) 128 (omega arith), ne_eqb (v / 128) 0 (omega arith))
        (ap (λ n. whole n 2) (omega arith)))
        (λ h.
        rw (
          le-ltb (v % 128 + 128) 128 (omega arith),
          le-ltb (v / 128 % 128 + 128) 128 (omega arith),
          lt-ltb (v / 16384) 128 (omega arith),
          ne_eqb (v / 16384) 0 (omega arith),
        )
        (ap (λ n. whole n 3) (omega arith)))

    -- what is written is read back, whatever stands before it and after it
    pub reads_back : (before after : List ℕ) (most : ℕ) (side : Side) → v ≤ most
        → number_at (before ++ (bytes_of v ++ after)) (length before) most side ≡ Ok (record { value = v; next = length before + length (bytes_of v) })
    unfolding number_at
    reads_back before after most side h = rw (drop-append_seam before (bytes_of v ++ after), form_back after, le-leb v most h)

-- the bytes of a form are what is written for its value
record Written (s : List ℕ) (v n : ℕ) : Type 0 where
  formed : v ≤ three_bytes
  size : n ≡ length (bytes_of v)
  bytes : s ≡ bytes_of v ++ drop n s

-- a form of n bytes at the head of some bytes
record Formed (s : List ℕ) (v n : ℕ) : Type 0 where
  some : 1 ≤ n
  few : n ≤ 3
  inside : n ≤ length s
  written : Bytes s → Written s v n

-- what stands at the head of some bytes
data Stands (s : List ℕ) (f : Form) : Type 0 where
  faulty : (k : Fault) → 1 ≤ number_of k → number_of k ≤ 3 → f ≡ fault k → Stands s f
  formed : (v n : ℕ) → Formed s v n → f ≡ whole v n → Stands s f

written_as : (v n : ℕ) (l t : List ℕ) → v ≤ three_bytes → length l ≡ n → bytes_of v ≡ l → Written (l ++ t) v n
written_as v n l t h k e = record { formed = h; size = rw e (sym k); bytes = rw (e, drop_at l t n k) }

-- a last byte that is 0 is a fault, and any other ends a form
ended : (s : List ℕ) (last v n : ℕ) → ((last ≡ 0 → ⊥) → Formed s v n) → Stands s (ending last v n)
ended s last v n form =
    picked (Stands s) _ _ (eqb last 0)
    (λ t. faulty Long (omega arith) (omega arith) refl)
    (λ f. formed v n (form (eqb-false last 0 f)) refl)

one_form_at : (a : ℕ) (t : List ℕ) → a < 128 → Formed (a ∷ t) a 1
one_form_at a t h =
    record {
      some = omega arith;
      few = omega arith;
      inside = omega arith;
      written = λ bytes. written_as a 1 (a ∷ []) t (omega arith) refl (bytes_1 a h);
    }

-- a byte with its top bit set, and the groups above it
module _ (a above v : ℕ) (top : 128 ≤ a) (small : a < 256) (is-v : v ≡ a - 128 + 128 * above) where
  lowest_group : v % 128 + 128 ≡ a
  lowest_group = omega arith

  other_groups : v / 128 ≡ above
  other_groups = omega arith

two_form_at : (a b : ℕ) (t : List ℕ) → 128 ≤ a → b < 128 → (b ≡ 0 → ⊥) → Formed (a ∷ b ∷ t) (a - 128 + 128 * b) 2
two_form_at a b t h k z =
    record {
      some = omega arith;
      few = omega arith;
      inside = omega arith;
      written = λ bytes.
          let v : ℕ = a - 128 + 128 * b in
          let first : v % 128 + 128 ≡ a = lowest_group a b v h (bytes 0) refl in
          let last : v / 128 ≡ b = other_groups a b v h (bytes 0) refl in
          written_as v 2 (a ∷ b ∷ []) t (omega (arith, bytes 0)) refl (cc (bytes_2 v (omega arith) (omega (arith, bytes 0))));
    }

three_form_at : (a b c : ℕ) (t : List ℕ) → 128 ≤ a → 128 ≤ b → c < 128 → (c ≡ 0 → ⊥) → Formed (a ∷ b ∷ c ∷ t) (a - 128 + 128 * (b - 128) + 16384 * c) 3
three_form_at a b c t h k l z =
    record {
      some = omega arith;
      few = omega arith;
      inside = omega arith;
      written = λ bytes.
          let v : ℕ = a - 128 + 128 * (b - 128) + 16384 * c in
          let above : ℕ = b - 128 + 128 * c in
          let first : v % 128 + 128 ≡ a = lowest_group a above v h (bytes 0) (omega arith) in
          let others : v / 128 ≡ above = other_groups a above v h (bytes 0) (omega arith) in
          let middle : v / 128 % 128 + 128 ≡ b = rw others (lowest_group b c above k (bytes 1) refl) in
          let last : v / 16384 ≡ c = omega (arith, bytes 0, bytes 1) in
          written_as v 3 (a ∷ b ∷ c ∷ []) t (omega (arith, bytes 0, bytes 1)) refl (cc (bytes_3 v (omega arith)));
    }

third_stands : (a b : ℕ) (s : List ℕ) → 128 ≤ a → 128 ≤ b → Stands (a ∷ b ∷ s) (third (a - 128 + 128 * (b - 128)) s)
unfolding third
third_stands a b [] h k = faulty Cut (omega arith) (omega arith) refl
third_stands a b (c ∷ t) h k =
    picked (Stands (a ∷ b ∷ c ∷ t)) _ _ (ltb c 128)
    (λ l. ended _ c _ 3 (three_form_at a b c t h k (ltb-true c 128 l)))
    (λ l. faulty Over (omega arith) (omega arith) refl)

second_stands : (a : ℕ) (s : List ℕ) → 128 ≤ a → Stands (a ∷ s) (second (a - 128) s)
unfolding second
second_stands a [] h = faulty Cut (omega arith) (omega arith) refl
second_stands a (b ∷ t) h =
    picked (Stands (a ∷ b ∷ t)) _ _ (ltb b 128)
    (λ l. ended _ b _ 2 (two_form_at a b t h (ltb-true b 128 l)))
    (λ l. third_stands a b t h (ltb-false b 128 l))

stands : (s : List ℕ) → Stands s (form_of s)
unfolding form_of
stands [] = faulty Cut (omega arith) (omega arith) refl
stands (a ∷ s) =
    picked (Stands (a ∷ s)) _ _ (ltb a 128)
    (λ l. formed a 1 (one_form_at a s (ltb-true a 128 l)) refl)
    (λ l. second_stands a s (ltb-false a 128 l))

-- a number that is accepted: its form, and its value within its bound
record Accepts (s : List ℕ) (at most v next : ℕ) : Type 0 where
  size : ℕ
  form : Formed (drop at s) v size
  place : next ≡ at + size
  within : v ≤ most

-- what is known of an accepted number
pub record Bounds (s : List ℕ) (at most v next : ℕ) : Type 0 where
  pub past : at + 1 ≤ next
  pub near : next ≤ at + 3
  pub inside : next ≤ length s
  pub within : v ≤ most
  pub formed : Bytes s → v ≤ three_bytes

-- and of its bytes: they are what is written for its value
pub record OneForm (s : List ℕ) (at v next : ℕ) : Type 0 where
  pub size : next ≡ at + length (bytes_of v)
  pub rest : drop at s ≡ bytes_of v ++ drop next s
  pub bytes : take (next - at) (drop at s) ≡ bytes_of v

module _ (s : List ℕ) (at most : ℕ) (side : Side) (v next : ℕ) where
  judged_accepts : (w n : ℕ) → Formed (drop at s) w n → judged w (at + n) at most side ≡ Ok (record { value = v; next = next }) → Accepts s at most v next
  judged_accepts w n form =
      picked (λ a. a ≡ Ok (record { value = v; next = next }) → Accepts s at most v next) _ _ (leb w most)
      (λ t e.
      let read : record { value = w; next = at + n } ≡ record { value = v; next = next } = given_once e in
      let is-v : w ≡ v = ap (λ r. r.value) read in
      record { size = n; form = rw is-v at form; place = sym (ap (λ r. r.next) read); within = rw is-v at (leb-true w most t) })
      (λ f e. absurd (never e))

  accepts : (f : Form) → Stands (drop at s) f → judge_at at most side f ≡ Ok (record { value = v; next = next }) → Accepts s at most v next
  accepts f (faulty k low high is) e = absurd (never (rw is at e))
  accepts f (formed w n form is) e = judged_accepts w n form (rw is at e)

  module _ (e : number_at s at most side ≡ Ok (record { value = v; next = next })) where
    acceptance : Accepts s at most v next
    unfolding number_at
    acceptance = accepts (form_of (drop at s)) (stands (drop at s)) e

    pub bounds : Bounds s at most v next
    bounds =
        let form = acceptance.form in
        let room = length-drop at s in
        record {
          past = omega (arith, acceptance.place, form.some);
          near = omega (arith, acceptance.place, form.few);
          inside = omega (arith, acceptance.place, form.some, form.inside, room);
          within = acceptance.within;
          formed = λ bytes. (form.written (bytes_from s at bytes)).formed;
        }

    -- "Only the shortest form is allowed"
    pub one_form : Bytes s → OneForm s at v next
    one_form bytes =
        let n : ℕ = acceptance.size in
        let w : Written (drop at s) v n = acceptance.form.written (bytes_from s at bytes) in
        let from : drop n (drop at s) ≡ drop next s = drop-drop n at s ∙ ap (λ k. drop k s) (sym acceptance.place) in
        let rest : drop at s ≡ bytes_of v ++ drop next s = w.bytes ∙ ap (λ l. bytes_of v ++ l) from in
        let size : next ≡ at + length (bytes_of v) = rw (← w.size) acceptance.place in
        record { size = size; rest = rest; bytes = rw rest (take_at (bytes_of v) (drop next s) (next - at) (omega arith)) }

    -- a small one has one byte
    pub one_byte : Bytes s → v < 128 → next ≡ at + 1
    one_byte bytes low = omega (arith, (one_form bytes).size, size_1 v low)

-- a refused number: the side that was given, the number's first byte, and 1, 2 or 3
pub record RefusedHow (at : ℕ) (side : Side) (r : Refusal) : Type 0 where
  pub side_given : r.side ≡ side
  pub first_byte : r.place ≡ at
  pub low : 1 ≤ number_of r.fault
  pub high : number_of r.fault ≤ 3
  pub of_none : r.item ≡ None

module _ (at most : ℕ) (side : Side) (r : Refusal) where
  by_number : (n : Fault) → 1 ≤ number_of n → number_of n ≤ 3 → ◌≡◌ {A = Answer (Read ℕ)} (Err (refusal n side at)) (Err r) → RefusedHow at side r
  by_number n low high e =
      let how : RefusedHow at side (refusal n side at) = record { side_given = refl; first_byte = refl; low = low; high = high; of_none = refl } in
      rw (same_refused e) at how

  form_refused : {s : List ℕ} (f : Form) → Stands s f → judge_at at most side f ≡ Err r → RefusedHow at side r
  form_refused f (faulty k low high is) e = by_number k low high (rw is at e)
  form_refused f (formed v n form is) e =
      picked (λ a. a ≡ Err r → RefusedHow at side r) _ _ (leb v most)
      (λ t given. absurd (never (sym given)))
      (λ t given. by_number Over (omega arith) (omega arith) given)
      (rw is at e)

  pub refused_how : (s : List ℕ) → number_at s at most side ≡ Err r → RefusedHow at side r
  unfolding number_at
  refused_how s e = form_refused (form_of (drop at s)) (stands (drop at s)) e

-- reading looks at three bytes at most, from its place on
first_three : (s : List ℕ) → form_of s ≡ form_of (take 3 s)
unfolding form_of second third
first_three [] = refl
first_three (a ∷ []) = refl
first_three (a ∷ b ∷ []) = refl
first_three (a ∷ b ∷ c ∷ s) = refl

module _ (s t : List ℕ) (at most : ℕ) (side : Side) where
  pub from_three_bytes : take 3 (drop at s) ≡ take 3 (drop at t) → number_at s at most side ≡ number_at t at most side
  unfolding number_at
  from_three_bytes e = ap (judge_at at most side) (first_three (drop at s) ∙ ap form_of e ∙ sym (first_three (drop at t)))

  pub from_place_on : drop at s ≡ drop at t → number_at s at most side ≡ number_at t at most side
  from_place_on e = from_three_bytes (ap (take 3) e)

window : (at n m : ℕ) (l : List ℕ) → m ≡ at + n → drop at (take m l) ≡ take n (drop at l)
window zero n m l e = let all : m ≡ n = omega arith in ap (λ (k : ℕ). take k l) all
window (suc at) n zero l e = absurd (omega arith)
window (suc at) n (suc m) [] e = sym (take-nil n)
window (suc at) n (suc m) (a ∷ l) e = window at n m l (omega arith)

-- bytes that agree up to n have the same numbers there
module _ (s t : List ℕ) (n : ℕ) (agree : take n s ≡ take n t) (at : ℕ) (here : at + 3 ≤ n) where
  same_window : take 3 (drop at s) ≡ take 3 (drop at t)
  same_window =
      sym (window at 3 (at + 3) s refl)
      ∙ ap (drop at) (sym (take-take (at + 3) n s here) ∙ ap (take (at + 3)) agree ∙ take-take (at + 3) n t here)
      ∙ window at 3 (at + 3) t refl

  pub same_number : (most : ℕ) (side : Side) → number_at s at most side ≡ number_at t at most side
  same_number most side = from_three_bytes s t at most side same_window

-- reading and writing leave one answer only
pub one_reading : (r r' : Answer (Read ℕ)) (s : List ℕ) (at most : ℕ) (side : Side) → r ≡ number_at s at most side → r' ≡ number_at s at most side → r ≡ r'
one_reading r r' s at most side e e' = one e e'

pub one_answer : (out : List ℕ) (at value most : ℕ) (r r₂ : Answer ℕ) (out' out₂' : List ℕ)
    → Writes out at value most r out' → Writes out at value most r₂ out₂' → Same r r₂ out' out₂'
one_answer out at value most r r₂ out' out₂' w w₂ = record { answer = one w.answer w₂.answer; memory = one w.memory w₂.memory }
