-- Where a file's refusal stands: on the file's side, at one of its bytes, or for refusal 1 at their end, with one of the numbers that the file's
-- table has. Said of a number, one with a test, the items and the end; the readings of each file put it together.
use Prim.Native.Nat.{ℕ, ◌≤◌, ◌<◌}
use mathlib.Core.Path.{◌≡◌, refl, sym, ap, ◌∙◌}
use mathlib.Core.Bool.{Bool, true, false}
use mathlib.Core.List.{List}
use lib.ListN.{length, drop_of_length-le}
use lib.Dec.{ltb}
use native.Mathlib.Omega.{arith}
use borrow.Author.Tests.{ltb-true, ltb-false}
use Rattle.number.specs.Answer.{Answer, refusal, of_item, number_of}
use Rattle.std.specs.Prelude.{Ok, Err, None}
use Rattle.number.specs.Number.{form_of, number_at}
use Rattle.number.specs.declared.refusal.Refusal.{Refusal}
use Rattle.number.specs.declared.read.Read.{Read}
use Rattle.number.specs.declared.refusal.Fault.{Fault}
use Rattle.number.specs.declared.refusal.Fault.TheVariants.{Cut, After}
use Rattle.number.specs.declared.refusal.Side.{Side}
use Rattle.number.proofs.Answers.{same_refused}
use Rattle.number.proofs.Laws.{bounds, refused_how}
use Rattle.number.proofs.Refusing.{Refuses, refuses_gives, refuses_so, refuses_test, refuses_tested, refuses_then}
use Rattle.number.proofs.Writing.{picked}
use Rattle.site.specs.Items.{tested_at, end_at, items_from}
use Rattle.site.specs.Limits.{most_number}
use Rattle.site.proofs.Numbered.{items_refuse}
use Rattle.site.proofs.There.{tested_there}

-- a refusal of the file, with one of its numbers, at one of its bytes or at their end
pub record InFile (file : Side) (Listed : ℕ → Type 0) (s : List ℕ) (r : Refusal) : Type 0 where
  pub side : r.side ≡ file
  pub place : r.place ≤ length s
  pub low : 1 ≤ number_of r.fault
  pub listed : Listed (number_of r.fault)
  pub at_byte : (number_of r.fault ≡ 1 → ⊥) → r.place < length s

-- what is refused outside of the items is about none
abbrev pub OfNone : Refusal → Type 0
OfNone r = r.item ≡ None

pub tested_of_none : (s : List ℕ) (at : ℕ) (test : ℕ → Bool) (fault : Fault) (side : Side) → Refuses OfNone (tested_at s at test fault side)
unfolding tested_at
tested_of_none s at test fault side =
    refuses_then _ (number_at s at most_number side) _ (λ r e. (refused_how at most_number side r s e).of_none)
    (λ n e. refuses_tested _ (test n.value) n (refusal fault side at) refl)

pub end_of_none : (s : List ℕ) (at : ℕ) (side : Side) → Refuses OfNone (end_at s at side)
unfolding end_at
end_of_none s at side = refuses_test _ (ltb at (length s)) _ _ (refuses_so _ (refusal After side at) refl) (refuses_gives _ at)

-- where a number that was read starts and ends
module _ (file : Side) (s : List ℕ) where
  pub after_number : (at bound : ℕ) (n : Read ℕ) → number_at s at bound file ≡ Ok n → n.next ≤ length s
  after_number at bound n e = (bounds s at bound file n.value n.next e).inside

  pub number_starts : (at bound : ℕ) (n : Read ℕ) → number_at s at bound file ≡ Ok n → at < length s
  number_starts at bound n e = omega (arith, (bounds s at bound file n.value n.next e).past, after_number at bound n e)

  module _ (test : ℕ → Bool) (fault : Fault) (at : ℕ) (n : Read ℕ) (e : tested_at s at test fault file ≡ Ok n) where
    pub after_tested : n.next ≤ length s
    after_tested = after_number at most_number n (tested_there s at test fault file n e).number

    pub tested_starts : at < length s
    tested_starts = number_starts at most_number n (tested_there s at test fault file n e).number

  -- a number that is due past the bytes is refusal 1
  none_left : (at bound : ℕ) → length s ≤ at → number_at s at bound file ≡ Err (refusal Cut file at)
  unfolding number_at form_of
  none_left at bound h = rw (drop_of_length-le s h)

module _ (file : Side) (Listed : ℕ → Type 0) (s : List ℕ) where
  -- an answer whose refusal, if it is one, is of the file
  abbrev pub Placed : {A : Type 0} → Answer A → Type 0
  Placed a = Refuses (InFile file Listed s) a

  pub at_a_byte : (fault : Fault) (place : ℕ) → 1 ≤ number_of fault → Listed (number_of fault) → place < length s → InFile file Listed s (refusal fault file place)
  at_a_byte fault place low listed h = record { side = refl; place = omega arith; low = low; listed = listed; at_byte = λ other. h }

  -- whichever item it is about
  any_item : (k : ℕ) (r : Refusal) → InFile file Listed s r → InFile file Listed s (of_item k r)
  any_item k r i = record { side = i.side; place = i.place; low = i.low; listed = i.listed; at_byte = i.at_byte }

  -- the items: what holds of where each is read from holds of where the next is
  pub items_placed : {A : Type 0} (read : A → Answer A) (Here : A → Type 0) → ((x : A) → Here x → Placed (read x)) → ((x y : A) → Here x → read x ≡ Ok y → Here y)
      → (n : ℕ) (x : A) → Here x → Placed (items_from read 0 n x)
  items_placed read Here placed on = items_refuse read (InFile file Listed s) any_item Here placed on 0

  module _ (of_numbers : (n : ℕ) → n ≤ 3 → Listed n) where
    pub number_placed : (at bound : ℕ) → at ≤ length s → Placed (number_at s at bound file)
    number_placed at bound h r e =
        let how = refused_how at bound file r s e in
        record {
          side = how.side_given;
          place = omega (arith, how.first_byte);
          low = how.low;
          listed = of_numbers (number_of r.fault) (omega (arith, how.high));
          at_byte = λ other. by other (ltb at (length s)) refl;
        }
      where
        by : (number_of r.fault ≡ 1 → ⊥) → (t : Bool) → ltb at (length s) ≡ t → r.place < length s
        by other true inside = omega (arith, ltb-true at (length s) inside, (refused_how at bound file r s e).first_byte)
        by other false past =
            absurd (other (ap (λ (q : Refusal). number_of q.fault) (same_refused (sym e ∙ none_left file s at bound (ltb-false at (length s) past)))))

    pub tested_placed : (test : ℕ → Bool) (fault : Fault) → 1 ≤ number_of fault → Listed (number_of fault) → (at : ℕ) → at ≤ length s → Placed (tested_at s at test fault file)
    unfolding tested_at
    tested_placed test fault low listed at h =
        refuses_then _ (number_at s at most_number file) _ (number_placed at most_number h)
        (λ n e. refuses_tested _ (test n.value) n (refusal fault file at) (at_a_byte fault at low listed (number_starts file s at most_number n e)))

  pub end_placed : Listed 7 → (at : ℕ) → Placed (end_at s at file)
  unfolding end_at
  end_placed listed at =
      picked (Refuses (InFile file Listed s)) (Err (refusal After file at)) (Ok at) (ltb at (length s))
      (λ t. refuses_so _ (refusal After file at) (at_a_byte After at (omega arith) listed (ltb-true at (length s) t)))
      (λ t. refuses_gives _ at)
