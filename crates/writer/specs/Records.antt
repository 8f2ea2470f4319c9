-- Writing a bundle: the room it needs, and the judging of records that are handed in to be written.
use Rattle.std.specs.Prelude.{ℕ, ◌+◌, ◌-◌, min, cond, ◌&&◌, not, List, [], ◌∷◌, length, leb, eqb, Option, Some, None, Ok, Err}
use Rattle.number.specs.Answer.{Answer, refusal, ◌then◌}
use Rattle.number.specs.declared.refusal.Fault.{Fault}
use Rattle.number.specs.declared.refusal.Fault.TheVariants.{Over, Count, Unknown, Order, Room, Object}
use Rattle.number.specs.declared.refusal.Side.TheVariants.{Call}
use Rattle.site.specs.declared.fact.Fact.{Fact}
use Rattle.site.specs.Kinds.{of_concept}
use Rattle.site.specs.Limits.{most_facts, most_number, most_thing}
use Rattle.rule.specs.declared.head.Head.{Head}
use Rattle.bundle.specs.Bundle.{ascends, predicate_known, bundle_of}

-- refusal 9: "a lent output is too short"
unfoldable pub room_for : ℕ → List ℕ → Answer (List ℕ)
room_for room bytes = cond (leb (length bytes) room) (Ok bytes) (Err (refusal Room Call 0))

-- no predicate over 65,535 is declared, whatever the head, also one that no rule file gives: 64+j is at most 65,535 only for j below 65,472
unfoldable pub within : Head → Head
within h = record { concepts = h.concepts; roles = min h.roles (most_number - 63); rules = h.rules; start = h.start }

-- "each record's predicate (5), object of a concept (5), subject (3), object (3), order (8)", at the record's number; since request 2 the second is
-- "12 object on a concept record"
unfoldable pub record_fault : Head → Option Fact → Fact → Option Fault
record_fault h last f =
    cond (not (predicate_known h f.predicate)) (Some Unknown)
    (cond (of_concept f && not (eqb f.object 0)) (Some Object)
    (cond (not (leb f.subject most_thing)) (Some Over)
    (cond (not (leb f.object most_thing)) (Some Over)
    (cond (not (ascends last f)) (Some Order) None))))

-- a record's refusal at its number, or what is found of those after it
abbrev pub refused_or : Option Fault → ℕ → Answer ℕ → Answer ℕ
refused_or None k rest = rest
refused_or (Some fault) k rest = Err (refusal fault Call k)

-- so many records after one that came before, the first of them with this number: how many there are, or the first fault
unfoldable pub records_from : Head → Option Fact → ℕ → List Fact → Answer ℕ
records_from h last k [] = Ok k
records_from h last k (f ∷ fs) = refused_or (record_fault h last f) k (records_from h (Some f) (k + 1) fs)

-- "Records: count (4), then each record"; then room
unfoldable pub plan_records : Head → ℕ → List Fact → Answer (List ℕ)
plan_records h room records =
    cond (leb (length records) most_facts) (records_from h None 0 records) (Err (refusal Count Call 0)) then λ _.
    room_for room (bundle_of records)
