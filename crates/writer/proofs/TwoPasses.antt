-- Writing records as a bundle, in each of the four ways that it goes, is document 01's plan: where they are refused nothing is written, and else
-- both passes over them are through.
use Prim.Native.Nat.{ℕ, ◌≤◌, ◌<◌}
use mathlib.Core.Path.{◌≡◌, refl, subst}
use mathlib.Core.Bool.{Bool, true, false}
use mathlib.Core.List.{List}
use lib.Dec.{leb}
use lib.ListN.{length}
use lib.Seq.{sets}
use borrow.Author.Tests.{le-leb, lt-leb, leb-true, leb-false}
use Rattle.std.specs.Prelude.{None, Ok, Err}
use Rattle.number.specs.Answer.{Answer, refusal}
use Rattle.number.specs.declared.refusal.Refusal.{Refusal}
use Rattle.number.specs.declared.refusal.Fault.TheVariants.{Count, Room}
use Rattle.number.specs.declared.refusal.Side.TheVariants.{Call}
use Rattle.site.specs.declared.fact.Fact.{Fact}
use Rattle.site.specs.Limits.{most_facts}
use Rattle.rule.specs.declared.head.Head.{Head}
use Rattle.bundle.specs.Bundle.{bundle_of}
use Rattle.writer.specs.Records.{room_for, within, records_from, plan_records}
use Rattle.writer.specs.Stored.{StoresFacts, StoredFacts, WritesFacts}
use Rattle.writer.proofs.Judging.{accepted_lawful, lawful_formed}
use Rattle.writer.proofs.OneWriting.{one_answer}
use Rattle.writer.proofs.Within.{within_few}

-- the four ways that writing records goes: which of them applies, the answer, and the lent memory afterwards
pub data Comes (h : Head) (out : List ℕ) (records : List Fact) : Answer ℕ → List ℕ → Type 0 where
  beyond : most_facts < length records → Comes h out records (Err (refusal Count Call 0)) out
  faulty : length records ≤ most_facts → (r : Refusal) → records_from h None 0 records ≡ Err r → Comes h out records (Err r) out
  short : length records ≤ most_facts → (n : ℕ) → records_from h None 0 records ≡ Ok n → length out < length (bundle_of records)
      → Comes h out records (Err (refusal Room Call 0)) out
  written : length records ≤ most_facts → (n : ℕ) → records_from h None 0 records ≡ Ok n → length (bundle_of records) ≤ length out
      → (size : ℕ) (out' : List ℕ) → StoredFacts out records size out' → Comes h out records (Ok size) out'

module _ (h : Head) (out : List ℕ) (records : List Fact) where
  pub two_passes_of_records : {r : Answer ℕ} {out' : List ℕ} → Comes h out records r out' → WritesFacts h records out r out'
  unfolding plan_records room_for
  two_passes_of_records (beyond many) =
      let e = lt-leb (length records) most_facts many in
      record { answer = rw e; memory = rw e }
  two_passes_of_records (faulty few r stopped) =
      let e = le-leb (length records) most_facts few in
      record { answer = rw (e, stopped); memory = rw (e, stopped) }
  two_passes_of_records (short few n passed less) =
      let e = le-leb (length records) most_facts few in
      let full = lt-leb (length (bundle_of records)) (length out) less in
      record { answer = rw (e, passed, full); memory = rw (e, passed, full) }
  two_passes_of_records (written few n passed room size out' st) =
      let e = le-leb (length records) most_facts few in
      let fits = le-leb (length (bundle_of records)) (length out) room in
      record { answer = rw (e, passed, fits, st.size); memory = rw (e, passed, fits) st.memory }

  -- one of the four applies, and an answer and memory that are the plan's are its own
  record Comings : Type 0 where
    answer : Answer ℕ
    memory : List ℕ
    comes : Comes h out records answer memory

  module _ (few : length records ≤ most_facts) where
    by_room : (n : ℕ) → records_from h None 0 records ≡ Ok n → (t : Bool) → leb (length (bundle_of records)) (length out) ≡ t → Comings
    by_room n passed true is =
        let room = leb-true (length (bundle_of records)) (length out) is in
        let size : ℕ = length (bundle_of records) in
        let out' : List ℕ = sets out 0 (bundle_of records) in
        record { answer = Ok size; memory = out'; comes = written few n passed room size out' (record { size = refl; memory = refl }) }
    by_room n passed false is =
        let less = leb-false (length (bundle_of records)) (length out) is in
        record { answer = Err (refusal Room Call 0); memory = out; comes = short few n passed less }

    by_judged : (a : Answer ℕ) → records_from h None 0 records ≡ a → Comings
    by_judged (Ok n) passed = by_room n passed (leb (length (bundle_of records)) (length out)) refl
    by_judged (Err r) stopped = record { answer = Err r; memory = out; comes = faulty few r stopped }

  by_count : (t : Bool) → leb (length records) most_facts ≡ t → Comings
  by_count true is = by_judged (leb-true (length records) most_facts is) (records_from h None 0 records) refl
  by_count false is = record { answer = Err (refusal Count Call 0); memory = out; comes = beyond (leb-false (length records) most_facts is) }

  pub always_comes : (r : Answer ℕ) (out' : List ℕ) → WritesFacts h records out r out' → Comes h out records r out'
  always_comes r out' w =
      let c = by_count (leb (length records) most_facts) refl in
      let s = one_answer h records out c.answer r c.memory out' (two_passes_of_records c.comes) w in
      subst (λ (a : Answer ℕ). Comes h out records a out') s.answer (subst (Comes h out records c.answer) s.memory c.comes)

-- what is stored has forms: `within` asks nothing of the head
pub both_fit : (h : Head) (out : List ℕ) (records : List Fact) (n : ℕ) → length records ≤ most_facts → records_from (within h) None 0 records ≡ Ok n
    → length (bundle_of records) ≤ length out → StoresFacts out records
both_fit h out records n few passed room =
    record { few = few; formed = lawful_formed (within h) (within_few h) (accepted_lawful (within h) None 0 n records passed); room = room }
