-- No refusal of any operation has number 0. C reads number 0 as "not refused", so this is what makes the two cases differ: by the number alone a caller knows whether the operation did its work, and if it did not, which refusal it is.
use Prim.Native.Nat.{ℕ, ◌≤◌}
use mathlib.Core.Path.{◌≡◌, refl, sym, ap, subst}
use mathlib.Core.List.{List}
use lib.ListN.{length}
use native.Mathlib.Omega.{arith}
use Rattle.std.specs.Prelude.{Option, Some, None, Ok, Err}
use Rattle.number.specs.Answer.{Answer, number_of, over}
use Rattle.number.specs.declared.refusal.Refusal.{Refusal}
use Rattle.number.specs.declared.refusal.Fault.{Fault}
use Rattle.number.specs.declared.refusal.Fault.TheVariants.{Cut, Long, Over, Count as TooMany, Unknown, Broken, After, Order, Room, NoFact, Kind, Object}
use Rattle.number.proofs.Numbers.{fault_told_apart, side_told_apart}
use Rattle.site.specs.declared.fact.Fact.{Fact}
use Rattle.rules.specs.RuleFile.{check_rules}
use Rattle.bundle.specs.Opened.{opening}
use Rattle.records.specs.Reading.{reader_start, reader_step}
use Rattle.records.specs.Rows.{hand_records, write_row}
use Rattle.records.specs.declared.record.Record.{Record}
use Rattle.rows.specs.declared.reader.Reader.{Reader}
use Rattle.clean.specs.Operations.{marking, counting, asking, having, joining, keeping}
use Rattle.shown.specs.Shown.{refused, item_of, shown_counts, shown_asked, shown_answer, shown_length, shown_start, shown_yield}
use Rattle.shown.specs.declared.shapes.DzyRefusal.{DzyRefusal}
use Rattle.shown.specs.declared.shapes.DzyCounts.{DzyCounts}
use Rattle.shown.specs.declared.shapes.DzyAsked.{DzyAsked}
use Rattle.shown.specs.declared.shapes.DzyAnswer.{DzyAnswer}
use Rattle.shown.specs.declared.shapes.DzyLength.{DzyLength}
use Rattle.shown.specs.declared.shapes.DzyStart.{DzyStart}
use Rattle.shown.specs.declared.shapes.DzyYield.{DzyYield}
use Rattle.dzyunagor.specs.Promises.{CheckRules, CheckBundle, Mark, Count, Ask, Has, Joins, WriteKept, Records, WriteRecords, ReaderStart, ReaderNext}

-- the table's numbers are from 1 on
pub from_one : (fault : Fault) → 1 ≤ number_of fault
from_one =
    elim [
      | Cut ↦ omega arith
      | Long ↦ omega arith
      | Over ↦ omega arith
      | TooMany ↦ omega arith
      | Unknown ↦ omega arith
      | Broken ↦ omega arith
      | After ↦ omega arith
      | Order ↦ omega arith
      | Room ↦ omega arith
      | NoFact ↦ omega arith
      | Kind ↦ omega arith
      | Object ↦ omega arith
    ]

-- ---- what C sees tells the two apart
pub record Gave {A : Type 0} (a : Answer A) : Type 0 where
  pub value : A
  pub is : a ≡ Ok value

-- it refused, and C is shown that refusal
pub record Stopped {A : Type 0} (a : Answer A) (x : DzyRefusal) : Type 0 where
  pub refusal : Refusal
  pub is : a ≡ Err refusal
  pub as_shown : x ≡ refused refusal

-- and by what C is shown, one: two refusals that it sees alike are of one fault, side and place, and about one item
pub record Alike (q r : Refusal) : Type 0 where
  pub fault : q.fault ≡ r.fault
  pub side : q.side ≡ r.side
  pub place : q.place ≡ r.place
  pub item : item_of q.item ≡ item_of r.item

pub seen_alike : (q r : Refusal) → refused q ≡ refused r → Alike q r
seen_alike q r e =
    record {
      fault = fault_told_apart q.fault r.fault (ap (λ x. x.number) e);
      side = side_told_apart q.side r.side (ap (λ x. x.side) e);
      place = ap (λ x. x.place) e;
      item = ap (λ x. x.item) e;
    }

-- number 0: the operation did its work; another number: it refused so
pub record Tells {A : Type 0} (a : Answer A) (x : DzyRefusal) : Type 0 where
  pub given : x.number ≡ 0 → Gave a
  pub refused : 1 ≤ x.number → Stopped a x

-- once for every shape: it shows what was given with number 0, and a refusal as it is
module _ {A S : Type 0} (part : S → DzyRefusal) (show : Answer A → S) (plain : (x : A) → (part (show (Ok x))).number ≡ 0) (as_is : (r : Refusal) → part (show (Err r)) ≡ refused r) where
  told : (a : Answer A) → Tells a (part (show a))
  told (Ok x) = record { given = λ e. record { value = x; is = refl }; refused = λ low. absurd (omega (arith, plain x)) }
  told (Err r) =
      record {
        given = λ e. absurd (omega (arith, ap (λ x. x.number) (as_is r), from_one r.fault));
        refused = λ low. record { refusal = r; is = refl; as_shown = as_is r };
      }

  tells : (a : Answer A) (s : S) → s ≡ show a → Tells a (part s)
  tells a s e = subst (λ (z : S). Tells a (part z)) (sym e) (told a)

-- a question's reply and a reader's yield have two cases each that are no refusal
reply_plain : (x : Option ℕ) → (shown_answer (Ok x)).refused.number ≡ 0
reply_plain (Some n) = refl
reply_plain None = refl

found_plain : (x : Option Fact) → (shown_yield (Ok x)).refused.number ≡ 0
found_plain (Some f) = refl
found_plain None = refl

-- most answers are shown as a length
length_tells : {A : Type 0} (f : A → ℕ) (a : Answer A) (r : DzyLength) → r ≡ shown_length (over f a) → Tells a r.refused
length_tells f = tells (λ s. s.refused) (λ a. shown_length (over f a)) (λ x. refl) (λ r. refl)

-- from each promise, whatever the operation returned
module _ (rules : List ℕ) where
  pub check_rules_tells : (r : DzyLength) → CheckRules rules r → Tells (check_rules rules) r.refused
  unfolding CheckRules
  check_rules_tells = length_tells (λ h. h.rules) (check_rules rules)

  pub write_records_tells : (row : List Record) (out out' : List ℕ) (r : DzyLength) → WriteRecords rules row out r out' → Tells (write_row rules (length out) row) r.refused
  write_records_tells row out out' r p = length_tells length (write_row rules (length out) row) r p.answer

  module _ (bundle : List ℕ) where
    pub check_bundle_tells : (r : DzyLength) → CheckBundle rules bundle r → Tells (opening rules bundle) r.refused
    unfolding CheckBundle
    check_bundle_tells = length_tells (λ i. i.facts.count) (opening rules bundle)

    pub mark_tells : (row pair row' pair' : List ℕ) (r : DzyCounts) → Mark rules bundle row pair r row' pair' → Tells (marking rules bundle (length row) (length pair)) r.refused
    mark_tells row pair row' pair' r p = tells (λ s. s.refused) (λ a. shown_counts (over (λ m. m.counts) a)) (λ x. refl) (λ q. refl) (marking rules bundle (length row) (length pair)) r p.answer

    pub count_tells : (r : DzyCounts) → Count rules bundle r → Tells (counting rules bundle) r.refused
    unfolding Count
    count_tells = tells (λ s. s.refused) shown_counts (λ x. refl) (λ r. refl) (counting rules bundle)

    pub ask_tells : (n : ℕ) (r : DzyAsked) → Ask rules bundle n r → Tells (asking rules bundle n) r.refused
    unfolding Ask
    ask_tells n = tells (λ s. s.refused) shown_asked (λ x. refl) (λ r. refl) (asking rules bundle n)

    pub has_tells : (code thing : ℕ) (r : DzyAnswer) → Has rules bundle code thing r → Tells (having rules bundle code thing) r.refused
    unfolding Has
    has_tells code thing = tells (λ s. s.refused) shown_answer reply_plain (λ r. refl) (having rules bundle code thing)

    pub joins_tells : (code from to : ℕ) (r : DzyAnswer) → Joins rules bundle code from to r → Tells (joining rules bundle code from to) r.refused
    unfolding Joins
    joins_tells code from to = tells (λ s. s.refused) shown_answer reply_plain (λ r. refl) (joining rules bundle code from to)

    pub write_kept_tells : (out out' : List ℕ) (r : DzyLength) → WriteKept rules bundle out r out' → Tells (keeping rules bundle (length out)) r.refused
    write_kept_tells out out' r p = length_tells length (keeping rules bundle (length out)) r p.answer

    pub records_tells : (row row' : List Record) (r : DzyLength) → Records rules bundle row r row' → Tells (hand_records rules bundle (length row)) r.refused
    records_tells row row' r p = length_tells length (hand_records rules bundle (length row)) r p.answer

    pub reader_start_tells : (r : DzyStart) → ReaderStart rules bundle r → Tells (reader_start rules bundle) r.refused
    unfolding ReaderStart
    reader_start_tells = tells (λ s. s.refused) shown_start (λ x. refl) (λ r. refl) (reader_start rules bundle)

pub reader_next_tells : (before left : Reader) (r : DzyYield) → ReaderNext before r left → Tells (reader_step before.src.now before.at).yields r.refused
reader_next_tells before left r p = tells (λ s. s.refused) shown_yield found_plain (λ q. refl) (reader_step before.src.now before.at).yields r p.answer
