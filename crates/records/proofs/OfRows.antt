-- Laws of rows: records that were handed out are written back as the same bundle, and a row that was accepted is handed out as itself.
use Prim.Native.Nat.{ℕ, ◌≤◌}
use mathlib.Core.Path.{◌≡◌, refl, sym, ap, ◌∙◌}
use mathlib.Core.Bool.{cond}
use mathlib.Core.List.{List, map, map-map, map-id}
use lib.ListN.{length, length-map}
use lib.Dec.{leb}
use native.Mathlib.Omega.{arith}
use borrow.Author.Tests.{le-leb, leb-true}
use Rattle.number.specs.Answer.{Answer, refusal, ◌then◌, over}
use Rattle.number.specs.declared.refusal.Fault.TheVariants.{Count, Room}
use Rattle.number.specs.declared.refusal.Side.TheVariants.{Call}
use Rattle.std.specs.Prelude.{Ok, Err}
use Rattle.number.proofs.Laws.{Bytes}
use Rattle.number.proofs.Answers.{never, given_once as same-given, went, passed}
use Rattle.site.specs.declared.fact.Fact.{Fact}
use Rattle.site.specs.Limits.{most_facts, most_roles}
use Rattle.rules.specs.RuleFile.{check_rules, site_of}
use Rattle.rule.specs.declared.head.Head.{Head}
use Rattle.rules.proofs.AcceptedFile.{accepted_lawful as rules-lawful}
use Rattle.bundle.specs.Bundle.{check_bundle, facts_of, bundle_of}
use Rattle.std.specs.Prelude.{None}
use Rattle.bundle.specs.Lawful.{LawfulFacts}
use Rattle.bundle.specs.declared.facts.Facts.{Facts}
use Rattle.bundle.specs.Opened.{Accepted}
use Rattle.bundle.proofs.Accepted.{accepted_lawful}
use Rattle.bundle.proofs.OfOpened.{opening_given}
use Rattle.bundle.proofs.RoundTrips.{written_head, written_accepted, written_facts, accepted_again}
use Rattle.writer.specs.Records.{room_for, records_from, plan_records}
use Rattle.writer.proofs.Judging.{accepted_lawful as records_lawful, lawful_accepted}
use Rattle.records.specs.Rows.{record_of, fact_of, hand_out, hand_records, write_row}
use Rattle.records.specs.declared.record.Record.{Record}
use Rattle.records.proofs.HandedOut.{handed_out}

-- records and facts are the same numbers
pub facts_back : (facts : List Fact) → map fact_of (map record_of facts) ≡ facts
facts_back facts = map-map fact_of record_of facts ∙ map-id facts

pub records_back : (row : List Record) → map record_of (map fact_of row) ≡ row
records_back row = map-map record_of fact_of row ∙ map-id row

-- accepted rules declare few roles
pub few_roles : (rules : List ℕ) (h : Head) → check_rules rules ≡ Ok h → h.roles ≤ most_roles
unfolding site_of
few_roles rules h e = (rules-lawful rules h e).roles_within

-- what is planned for lawful facts is their bundle, where there is room
planned : (h : Head) (room : ℕ) (facts : List Fact) → LawfulFacts h facts → plan_records h room facts ≡ room_for room (bundle_of facts)
unfolding plan_records
planned h room facts l = rw (le-leb (length facts) most_facts l.few, lawful_accepted h l.lawful 0)

-- out and back: the same bundle, or 9 if the lent output is shorter
pub out_and_back : (rules bundle : List ℕ) (room : ℕ) (row : List Record) → Bytes bundle → hand_records rules bundle room ≡ Ok row
    → (room' : ℕ) → write_row rules room' row ≡ room_for room' bundle
unfolding hand_records write_row
out_and_back rules bundle room row bytes e room' = by_answer (hand_out rules bundle room) refl e
  where
    by_answer : (a : Answer Facts) → hand_out rules bundle room ≡ a → over (λ b. map record_of (facts_of bundle b)) a ≡ Ok row
        → (check_rules rules then λ h. plan_records h room' (map fact_of row)) ≡ room_for room' bundle
    by_answer (Ok b) is e =
        let out = handed_out rules bundle room b is in
        let same : map fact_of row ≡ facts_of bundle b = ap (map fact_of) (sym (same-given e)) ∙ facts_back (facts_of bundle b) in
        rw (out.accepted.of_rules, same)
        (planned out.head room' (facts_of bundle b) (accepted_lawful out.head bundle b out.accepted.of_bundle)
        ∙ ap (room_for room') (accepted_again bundle bytes out.head b out.accepted.of_bundle))
    by_answer (Err r) is e = absurd (never e)

-- the bundle of lawful facts, read again
module _ (h : Head) (few : h.roles ≤ most_roles) (facts : List Fact) (lawful : LawfulFacts h facts) (bytes : List ℕ) (same : bundle_of facts ≡ bytes) where
  accepted : check_bundle h bytes ≡ Ok (written_head facts)
  accepted = rw same at (written_accepted h few facts lawful)

  read_facts : facts_of bytes (written_head facts) ≡ facts
  read_facts = rw same at (written_facts h few facts lawful)

-- a row that was accepted is handed out as itself
pub in_and_out : (rules bytes : List ℕ) (room : ℕ) (row : List Record) → write_row rules room row ≡ Ok bytes
    → (room' : ℕ) → length row ≤ room' → hand_records rules bytes room' ≡ Ok row
unfolding hand_records hand_out write_row plan_records room_for
in_and_out rules bytes room row e room' fits =
    let facts : List Fact = map fact_of row in
    let w = went (check_rules rules) (λ h. plan_records h room facts) e in
    let v = went (cond (leb (length facts) most_facts) (records_from w.value None 0 facts) (Err (refusal Count Call 0))) (λ _. room_for room (bundle_of facts)) w.rest in
    let p = passed (leb (length facts) most_facts) (records_from w.value None 0 facts) (refusal Count Call 0) v.first in
    let q = passed (leb (length (bundle_of facts)) room) (Ok (bundle_of facts)) (refusal Room Call 0) v.rest in
    let same : bundle_of facts ≡ bytes = same-given q.answer in
    let few = few_roles rules w.value w.first in
    let lawful : LawfulFacts w.value facts = record { few = leb-true (length facts) most_facts p.test; lawful = records_lawful w.value None 0 v.value facts p.answer } in
    let long : length facts ≤ room' = omega (arith, length-map row fact_of) in
    let both : Accepted rules bytes w.value (written_head facts) = record { of_rules = w.first; of_bundle = accepted w.value few facts lawful bytes same } in
    rw (opening_given rules bytes w.value (written_head facts) both, le-leb (length facts) room' long)
    (ap Ok (ap (map record_of) (read_facts w.value few facts lawful bytes same) ∙ records_back row))
