-- Demand 2, one bundle for each list: both round trips, and the same through rows of records.
use Prim.Native.Nat.{ℕ, ◌≤◌}
use mathlib.Core.Path.{◌≡◌, sym, ap, subst, ◌∙◌}
use mathlib.Core.Bool.{cond}
use mathlib.Core.List.{List, map}
use lib.Dec.{leb}
use lib.ListN.{length, length-map, take}
use native.Mathlib.Omega.{arith}
use borrow.Author.Tests.{le-leb, leb-true}
use Rattle.number.specs.Answer.{Answer, refusal, over, laid}
use Rattle.number.specs.declared.refusal.Fault.TheVariants.{Count, Room}
use Rattle.number.specs.declared.refusal.Side.TheVariants.{Call}
use Rattle.std.specs.Prelude.{None, Ok, Err}
use Rattle.number.proofs.Answers.{went, passed, given_once, over_given}
use Rattle.number.proofs.Laid.{laid_taken}
use Rattle.number.proofs.Laws.{Bytes}
use Rattle.site.specs.Limits.{most_facts}
use Rattle.site.specs.declared.fact.Fact.{Fact}
use Rattle.rules.specs.RuleFile.{check_rules}
use Rattle.rule.specs.declared.head.Head.{Head}
use Rattle.bundle.specs.Bundle.{facts_of, bundle_of}
use Rattle.bundle.specs.Lawful.{LawfulFacts}
use Rattle.bundle.proofs.RoundTrips.{written_read, read_again}
use Rattle.writer.specs.Records.{room_for, records_from, plan_records}
use Rattle.writer.proofs.Judging.{lawful_accepted}
use Rattle.records.specs.Rows.{record_of, fact_of, hand_out, hand_records, write_row}
use Rattle.records.specs.declared.record.Record.{Record}
use Rattle.records.proofs.HandedOut.{handed_out}
use Rattle.records.proofs.OfRows.{out_and_back, in_and_out}
use Rattle.shown.specs.Shown.{shown_length}
use Rattle.shown.specs.declared.shapes.DzyLength.{DzyLength}
use Rattle.dzyunagor.specs.Promises.{Records, WriteRecords}
use Rattle.promises.proofs.NeverZero.{records_tells, write_records_tells}
use Rattle.demands.specs.Demands.{Done, RoundTrips}

-- records handed out fit the row: its front, and the answer's length
handed_front : (row row' records : List Record) (r : DzyLength) (a : Answer (List Record)) → a ≡ Ok records → length records ≤ length row → row' ≡ laid row 0 a → r ≡ shown_length (over length a) → take r.length row' ≡ records
handed_front row row' records r a is fits memory answer =
    let long : r.length ≡ length records = ap (λ (l : DzyLength). l.length) (answer ∙ ap (λ (b : Answer (List Record)). shown_length (over length b)) is) in
    ap (λ (n : ℕ). take n row') long ∙ ap (take (length records)) (memory ∙ ap (laid row 0) is) ∙ laid_taken row records fits

-- what was handed out fitted its row
handed_fits : (rules bundle : List ℕ) (room : ℕ) (records : List Record) → hand_records rules bundle room ≡ Ok records → length records ≤ room
unfolding hand_records
handed_fits rules bundle room records e =
    let b = over_given (λ b. map record_of (facts_of bundle b)) (hand_out rules bundle room) e in
    let h = handed_out rules bundle room b.value b.given in
    subst (λ (l : List Record). length l ≤ room) b.told (omega (arith, h.fits, h.all, length-map (facts_of bundle b.value) record_of))

-- a bundle for which there is room is written
roomy : (room : ℕ) (bundle : List ℕ) → length bundle ≤ room → room_for room bundle ≡ Ok bundle
unfolding room_for
roomy room bundle fits = rw (le-leb (length bundle) room fits)

records_back : (rules bundle : List ℕ) → Bytes bundle → (row row' : List Record) (r : DzyLength) → Records rules bundle row r row' → Done r.refused
    → (out out' : List ℕ) (w : DzyLength) → WriteRecords rules (take r.length row') out w out' → length bundle ≤ length out
    → (w ≡ shown_length (Ok (length bundle))) × (out' ≡ laid out 0 (Ok bundle))
records_back rules bundle bytes row row' r p plain out out' w q fits =
    let g = (records_tells rules bundle row row' r p).given plain in
    let same : take r.length row' ≡ g.value = handed_front row row' g.value r (hand_records rules bundle (length row)) g.is (handed_fits rules bundle (length row) g.value g.is) p.memory p.answer in
    let written : write_row rules (length out) (take r.length row') ≡ Ok bundle =
    ap (write_row rules (length out)) same ∙ out_and_back rules bundle (length row) g.value bytes g.is (length out) ∙ roomy (length out) bundle fits in
    (q.answer ∙ ap (λ (b : Answer (List ℕ)). shown_length (over length b)) written, q.memory ∙ ap (laid out 0) written)

-- what was written fitted its output
fitted : (rules : List ℕ) (row : List Record) (room : ℕ) (bytes : List ℕ) → write_row rules room row ≡ Ok bytes → length bytes ≤ room
unfolding write_row plan_records room_for
fitted rules row room bytes e =
    let w = went (check_rules rules) _ e in
    let facts = map fact_of row in
    let v = went (cond (leb (length facts) most_facts) (records_from w.value None 0 facts) (Err (refusal Count Call 0))) _ w.rest in
    let t = passed (leb (length (bundle_of facts)) room) (Ok (bundle_of facts)) (refusal Room Call 0) v.rest in
    subst (λ (l : List ℕ). length l ≤ room) (given_once t.answer) (leb-true (length (bundle_of facts)) room t.test)

rows_back : (rules : List ℕ) (row : List Record) (out out' : List ℕ) (w : DzyLength) → WriteRecords rules row out w out' → Done w.refused
    → (lent lent' : List Record) (r : DzyLength) → Records rules (take w.length out') lent r lent' → length row ≤ length lent
    → (r ≡ shown_length (Ok (length row))) × (lent' ≡ laid lent 0 (Ok row))
rows_back rules row out out' w p plain lent lent' r q fits =
    let g = (write_records_tells rules row out out' w p).given plain in
    let long : w.length ≡ length g.value = ap (λ (l : DzyLength). l.length) (p.answer ∙ ap (λ (b : Answer (List ℕ)). shown_length (over length b)) g.is) in
    let front : take w.length out' ≡ g.value =
    ap (λ (n : ℕ). take n out') long ∙ ap (take (length g.value)) (p.memory ∙ ap (laid out 0) g.is) ∙ laid_taken out g.value (fitted rules row (length out) g.value g.is) in
    let handed : hand_records rules (take w.length out') (length lent) ≡ Ok row =
    ap (λ (l : List ℕ). hand_records rules l (length lent)) front ∙ in_and_out rules g.value (length out) row g.is (length lent) fits in
    (q.answer ∙ ap (λ (b : Answer (List Record)). shown_length (over length b)) handed, q.memory ∙ ap (laid lent 0) handed)

-- ---- a lawful list, handed in as records
lawful_planned : (h : Head) (room : ℕ) (facts : List Fact) → LawfulFacts h facts → plan_records h room facts ≡ room_for room (bundle_of facts)
unfolding plan_records
lawful_planned h room facts l = rw (le-leb (length facts) most_facts l.few, lawful_accepted h l.lawful 0)

planned : (rules : List ℕ) (h : Head) → check_rules rules ≡ Ok h → (room : ℕ) (row : List Record) → write_row rules room row ≡ plan_records h room (map fact_of row)
unfolding write_row
planned rules h read room row = rw read

list_written : (rules : List ℕ) (h : Head) → check_rules rules ≡ Ok h → (row : List Record) → LawfulFacts h (map fact_of row)
    → (out out' : List ℕ) (w : DzyLength) → WriteRecords rules row out w out' → length (bundle_of (map fact_of row)) ≤ length out
    → (w ≡ shown_length (Ok (length (bundle_of (map fact_of row))))) × (out' ≡ laid out 0 (Ok (bundle_of (map fact_of row))))
list_written rules h read row l out out' w p fits =
    (p.answer ∙ ap (λ (b : Answer (List ℕ)). shown_length (over length b)) written, p.memory ∙ ap (laid out 0) written)
  where
    written : write_row rules (length out) row ≡ Ok (bundle_of (map fact_of row))
    written = planned rules h read (length out) row ∙ lawful_planned h (length out) (map fact_of row) l ∙ roomy (length out) (bundle_of (map fact_of row)) fits

pub round_trips : RoundTrips
round_trips =
    record { written_read = written_read; read_written = λ s bytes h facts e. sym (read_again s bytes h facts e); list_written = list_written; records_back = records_back; rows_back = rows_back }
