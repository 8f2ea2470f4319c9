-- Bundles and rows of records at each limit and one past it, each as one statement over one list, so that a limit or the order of the
-- judging cannot change unseen. The checker computes the small ones; 4,096 facts are accepted by the round trip's law, and 4,096 records
-- by going over them one by one.
use Prim.Native.Nat.{ℕ, zero, suc, ◌+◌, ◌≤◌}
use mathlib.Core.Path.{◌≡◌, refl, ap, ◌∙◌}
use mathlib.Core.Bool.{true}
use mathlib.Core.List.{List, [], ◌∷◌, ◌++◌, map}
use lib.ListN.{length, replicate, length-replicate}
use native.Mathlib.Omega.{arith}
use borrow.Author.Tests.{lt-ltb, le-leb}
use Rattle.std.specs.Prelude.{Option, None, Some, Ok, Err}
use Rattle.number.specs.Answer.{Answer, refusal, of_item, fault_of}
use Rattle.number.specs.Number.{third, second, form_of, number_at, bytes_of}
use Rattle.number.specs.declared.refusal.Fault.TheVariants.{Count, Room}
use Rattle.number.specs.declared.refusal.Side.TheVariants.{Bundle, Call}
use Rattle.site.specs.declared.fact.Fact.{Fact}
use Rattle.site.specs.Codes.{predicate_declared}
use Rattle.site.specs.Items.{tested_at, at_most, items_from, end_at}
use Rattle.site.specs.Limits.{most_thing}
use Rattle.site.specs.Lists.{each}
use Rattle.rule.specs.declared.head.Head.{Head}
use Rattle.bundle.specs.Bundle.{ascends, fact_at, next_fact, facts_in, check_bundle, read_bundle, fact_bytes, bundle_of}
use Rattle.bundle.specs.Lawful.{LawfulFrom}
use Rattle.bundle.specs.Lawful.LawfulFrom.{done, next}
use Rattle.bundle.proofs.Cases.{fact}
use Rattle.bundle.proofs.RoundTrips.{written_read}
use Rattle.writer.specs.Records.{room_for, record_fault, records_from, plan_records}

-- rules of so many concepts and roles, and of no rules
abbrev pub with : ℕ → ℕ → Head
with concepts roles = record { concepts = concepts; roles = roles; rules = 0; start = 3 }

-- so many facts of concept 0, from a thing on
pub row : ℕ → ℕ → List Fact
row k zero = []
row k (suc n) = fact 0 k 0 ∷ row (k + 1) n

row_length : (k n : ℕ) → length (row k n) ≡ n
unfolding row
row_length k zero = refl
row_length k (suc n) = ap suc (row_length (k + 1) n)

row_ascends : (k : ℕ) → ascends (Some (fact 0 k 0)) (fact 0 (k + 1) 0) ≡ true
row_ascends k = rw (lt-ltb k (k + 1) (omega arith))

row_lawful : (n k : ℕ) (last : Option Fact) → k + n ≤ 65536 → ascends last (fact 0 k 0) ≡ true → LawfulFrom (with 1 0) last (row k n)
unfolding row predicate_declared
row_lawful zero k last low up = done
row_lawful (suc n) k last low up =
    next {f = fact 0 k 0} (record { known = refl; subject_within = omega arith; object_within = omega arith; no_object = λ _. refl }) up
    (row_lawful n (k + 1) (Some (fact 0 k 0)) (omega arith) (row_ascends k))

-- 4,096 facts, and 4,097
pub facts_4096 : read_bundle (with 1 0) (bundle_of (row 0 4096)) ≡ Ok (row 0 4096)
facts_4096 =
    let many = row_length 0 4096 in
    written_read (with 1 0) (omega arith) (row 0 4096) (record { few = omega arith; lawful = row_lawful 4096 0 None (omega arith) refl })

pub facts_4097 : read_bundle (with 1 0) (bundle_of (row 0 4097)) ≡ Err (refusal Count Bundle 0)
unfolding bundle_of bytes_of number_at form_of second tested_at at_most check_bundle read_bundle
facts_4097 = rw (row_length 0 4097)

-- under some rules, bytes, and what is expected
pub record Case : Type 0 where
  pub head : Head
  pub bytes : List ℕ
  pub expected : Answer (List Fact)

abbrev pub is : Head → List ℕ → List Fact → Case
is head bytes facts = record { head = head; bytes = bytes; expected = Ok facts }

-- refused in the header or after the last fact
abbrev pub refused : Head → List ℕ → ℕ → ℕ → Case
refused head bytes number place = record { head = head; bytes = bytes; expected = Err (refusal (fault_of number) Bundle place) }

-- refused in the first fact
abbrev pub refused_first : Head → List ℕ → ℕ → ℕ → Case
refused_first head bytes number place = record { head = head; bytes = bytes; expected = Err (of_item 0 (refusal (fault_of number) Bundle place)) }

abbrev pub many : List Case
many = is (with 1 0) (bundle_of (row 0 4096)) (row 0 4096) ∷ refused (with 1 0) (bundle_of (row 0 4097)) 4 0 ∷ []

abbrev pub few : List Case
few =
    -- "number of facts (0 to 4,096)": 4,096 begin, and 4,097 do not
    refused_first (with 1 0) (0x80 ∷ 0x20 ∷ []) 1 2
    ∷ refused (with 1 0) (0x81 ∷ 0x20 ∷ []) 4 0
    ∷ refused (with 1 0) (0x80 ∷ 0x80 ∷ 0x04 ∷ []) 3 0
    -- "i for concept i": the last one of 64, and of 63; it has no object
    ∷ is (with 64 0) (0x01 ∷ 0x3F ∷ 0x07 ∷ []) (fact 63 7 0 ∷ [])
    ∷ is (with 63 0) (0x01 ∷ 0x3E ∷ 0x07 ∷ []) (fact 62 7 0 ∷ [])
    ∷ refused_first (with 63 32) (0x01 ∷ 0x3F ∷ 0x07 ∷ []) 5 1
    ∷ refused (with 64 32) (0x01 ∷ 0x3F ∷ 0x07 ∷ 0x08 ∷ []) 7 3
    -- "64+j for role j": the first and the last, past them, and over every number; each has an object
    ∷ is (with 0 1) (0x01 ∷ 0x40 ∷ 0x07 ∷ 0x08 ∷ []) (fact 64 7 8 ∷ [])
    ∷ refused_first (with 0 1) (0x01 ∷ 0x40 ∷ 0x07 ∷ []) 1 3
    ∷ refused_first (with 64 0) (0x01 ∷ 0x40 ∷ 0x07 ∷ 0x08 ∷ []) 5 1
    ∷ is (with 0 32) (0x01 ∷ 0x5F ∷ 0x07 ∷ 0x08 ∷ []) (fact 95 7 8 ∷ [])
    ∷ refused_first (with 64 31) (0x01 ∷ 0x5F ∷ 0x07 ∷ 0x08 ∷ []) 5 1
    ∷ refused_first (with 64 32) (0x01 ∷ 0x60 ∷ 0x07 ∷ 0x08 ∷ []) 5 1
    ∷ refused_first (with 64 32) (0x01 ∷ 0xFF ∷ 0xFF ∷ 0x03 ∷ []) 5 1
    ∷ refused_first (with 64 32) (0x01 ∷ 0x80 ∷ 0x80 ∷ 0x04 ∷ []) 3 1
    -- "A number has at most three bytes and is at most 65,535": a subject and an object
    ∷ is (with 1 0) (0x01 ∷ 0x00 ∷ 0xFF ∷ 0xFF ∷ 0x03 ∷ []) (fact 0 65535 0 ∷ [])
    ∷ refused_first (with 1 0) (0x01 ∷ 0x00 ∷ 0x80 ∷ 0x80 ∷ 0x04 ∷ []) 3 2
    ∷ refused_first (with 1 0) (0x01 ∷ 0x00 ∷ 0x80 ∷ 0x80 ∷ 0x80 ∷ []) 3 2
    ∷ refused_first (with 1 0) (0x01 ∷ 0x00 ∷ 0x80 ∷ 0x80 ∷ 0x00 ∷ []) 2 2
    ∷ refused_first (with 1 0) (0x01 ∷ 0x00 ∷ 0x80 ∷ 0x80 ∷ []) 1 2
    ∷ is (with 0 1) (0x01 ∷ 0x40 ∷ 0x07 ∷ 0xFF ∷ 0xFF ∷ 0x03 ∷ []) (fact 64 7 65535 ∷ [])
    ∷ refused_first (with 0 1) (0x01 ∷ 0x40 ∷ 0x07 ∷ 0x80 ∷ 0x80 ∷ 0x04 ∷ []) 3 3
    ∷ []

small : map (λ c. read_bundle c.head c.bytes) few ≡ map (λ c. c.expected) few
unfolding number_at form_of second third tested_at at_most items_from end_at predicate_declared fact_at next_fact facts_in check_bundle read_bundle
small = refl

pub bundles_at_limits : map (λ c. read_bundle c.head c.bytes) (many ++ few) ≡ map (λ c. c.expected) (many ++ few)
bundles_at_limits = λ i. facts_4096 i ∷ facts_4097 i ∷ small i

-- ---- records: 4,096 are judged one by one, and only room is left to judge
row_faultless : (k : ℕ) (last : Option Fact) → k ≤ most_thing → ascends last (fact 0 k 0) ≡ true → record_fault (with 1 0) last (fact 0 k 0) ≡ None
unfolding record_fault predicate_declared
row_faultless k last low up = rw (le-leb k most_thing low, up)

row_judged : (n k : ℕ) (last : Option Fact) → k + n ≤ 65536 → ascends last (fact 0 k 0) ≡ true → records_from (with 1 0) last k (row k n) ≡ Ok (k + n)
unfolding row records_from
row_judged zero k last low up = ap Ok (omega arith)
row_judged (suc n) k last low up =
    rw (row_faultless k last (omega arith) up) (row_judged n (k + 1) (Some (fact 0 k 0)) (omega arith) (row_ascends k) ∙ ap Ok (omega arith))

pub records_4096 : (room : ℕ) → plan_records (with 1 0) room (row 0 4096) ≡ room_for room (bundle_of (row 0 4096))
unfolding plan_records
records_4096 room = rw (row_length 0 4096, row_judged 4096 0 None (omega arith) refl)

-- "count (4), then each record": whatever the 4,097 records are, under whatever rules and with whatever room
pub records_4097 : (h : Head) (room : ℕ) (records : List Fact) → length records ≡ 4097 → plan_records h room records ≡ Err (refusal Count Call 0)
unfolding plan_records
records_4097 h room records e = rw e

-- a row of bad ones: an undeclared concept's
pub bad_4097 : (room : ℕ) → plan_records (with 0 0) room (replicate 4097 (fact 0 0 0)) ≡ Err (refusal Count Call 0)
bad_4097 room = records_4097 (with 0 0) room (replicate 4097 (fact 0 0 0)) (length-replicate 4097 (fact 0 0 0))

-- ---- "each record's predicate (5), object of a concept (5), subject (3), object (3), order (8)", the second now 12, at the record's number; then room (9)
pub record Row : Type 0 where
  pub room : ℕ
  pub records : List Fact
  pub expected : Answer (List ℕ)

abbrev pub written : ℕ → List Fact → List ℕ → Row
written room records bytes = record { room = room; records = records; expected = Ok bytes }

abbrev pub faulty : List Fact → ℕ → ℕ → Row
faulty records number place = record { room = 0; records = records; expected = Err (refusal (fault_of number) Call place) }

abbrev pub short : ℕ → List Fact → Row
short room records = record { room = room; records = records; expected = Err (refusal Room Call 0) }

-- under one concept and one role; all of a record's later faults come with the earlier one
abbrev pub rows : List Row
rows =
    -- an undeclared predicate
    faulty (fact 1 65536 65536 ∷ []) 5 0
    ∷ faulty (fact 63 65536 65536 ∷ []) 5 0
    ∷ faulty (fact 65 65536 65536 ∷ []) 5 0
    ∷ faulty (fact 64 7 8 ∷ fact 1 65536 65536 ∷ []) 5 1
    -- an object of a concept
    ∷ faulty (fact 0 65536 1 ∷ []) 12 0
    ∷ faulty (fact 64 7 8 ∷ fact 0 65536 65536 ∷ []) 12 1
    -- a subject
    ∷ faulty (fact 0 65536 0 ∷ []) 3 0
    ∷ faulty (fact 64 65536 65536 ∷ []) 3 0
    ∷ faulty (fact 64 7 8 ∷ fact 0 65536 0 ∷ []) 3 1
    -- an object
    ∷ faulty (fact 64 7 65536 ∷ []) 3 0
    ∷ faulty (fact 64 8 8 ∷ fact 64 7 65536 ∷ []) 3 1
    -- the order, equal included
    ∷ faulty (fact 0 7 0 ∷ fact 0 7 0 ∷ []) 8 1
    ∷ faulty (fact 64 7 8 ∷ fact 0 9 0 ∷ []) 8 1
    ∷ faulty (fact 0 7 0 ∷ fact 64 7 8 ∷ fact 64 7 8 ∷ []) 8 2
    -- a record's last fault before a later record's first
    ∷ faulty (fact 0 7 0 ∷ fact 0 7 0 ∷ fact 1 65536 65536 ∷ []) 8 1
    -- no fault: the bytes, with just enough room, and 9 with one less
    ∷ written 3 (fact 0 7 0 ∷ []) (0x01 ∷ 0x00 ∷ 0x07 ∷ [])
    ∷ short 2 (fact 0 7 0 ∷ [])
    ∷ written 1 [] (0x00 ∷ [])
    ∷ short 0 []
    ∷ written 12 (fact 0 65535 0 ∷ fact 64 65535 65535 ∷ []) (0x02 ∷ 0x00 ∷ 0xFF ∷ 0xFF ∷ 0x03 ∷ 0x40 ∷ 0xFF ∷ 0xFF ∷ 0x03 ∷ 0xFF ∷ 0xFF ∷ 0x03 ∷ [])
    ∷ []

pub records_in_order : map (λ r. plan_records (with 1 1) r.room r.records) rows ≡ map (λ r. r.expected) rows
unfolding predicate_declared bytes_of each fact_bytes bundle_of room_for record_fault records_from plan_records
records_in_order = refl
