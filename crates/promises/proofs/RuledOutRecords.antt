-- Wrong answers that the promises rule out, as in RuledOut.antt: the two files, the rows of records, and the reader.
use Prim.Native.Nat.{ℕ, ◌≤◌}
use mathlib.Core.Path.{◌≡◌, refl, sym, ap, ◌∙◌}
use mathlib.Core.List.{List, [], ◌∷◌, ◌++◌}
use lib.ListN.{length, get_or}
use denote.Ref.{Bor}
use Rattle.std.specs.Prelude.{Err}
use Rattle.number.specs.Answer.{over, laid, refusal, of_item}
use Rattle.number.specs.declared.refusal.Fault.TheVariants.{Cut, Broken, Order, Room, Kind, Object}
use Rattle.number.specs.declared.refusal.Side.TheVariants.{Rules, Bundle, Call}
use Rattle.number.proofs.One.{Same}
use Rattle.records.specs.Reading.{reader_step}
use Rattle.records.specs.declared.step.Step.{Step}
use Rattle.records.specs.declared.record.Record.{Record}
use Rattle.rows.specs.declared.reader.Reader.{Reader}
use Rattle.cases.proofs.Cases.{R, F}
use Rattle.shown.specs.Shown.{not_refused, no_item, no_record, shown_length, shown_start, shown_yield}
use Rattle.shown.specs.declared.shapes.DzyLength.{DzyLength}
use Rattle.shown.specs.declared.shapes.DzyStart.{DzyStart}
use Rattle.shown.specs.declared.shapes.DzyYield.{DzyYield}
use Rattle.dzyunagor.specs.Promises.{CheckRules, CheckBundle, Records, WriteRecords, ReaderStart, ReaderNext}
use Rattle.promises.proofs.OneAnswer.{one_check_rules, one_check_bundle, one_records, one_write_records, one_reader_start, one_reader_next, SameStep}
use Rattle.promises.proofs.WorkedSite.{twice, bad_rules, rec, six, bad_row, worked, long, refused_with, differ, differ_at, accepted, bad_kind}

-- ---- reading the rules: five
pub rules_right : CheckRules R (long 5)
unfolding CheckRules
rules_right = sym (ap shown_length worked.rules)

module _ (r : DzyLength) (p : CheckRules R r) where
  pub rules_is : r ≡ long 5
  rules_is = one_check_rules R p rules_right

  -- the number of concepts for the number of rules
  pub rules_not_concepts : r.length ≡ 2 → ⊥
  rules_not_concepts e = differ (ap (λ l. l.length) rules_is) e refl

  -- it is refused, in whatever way
  pub rules_not_refused : 1 ≤ r.refused.number → ⊥
  rules_not_refused low = accepted (ap (λ l. l.refused.number) rules_is) low

-- rules that are refused, with 6 at byte 3, the kind of rule 0
pub bad_rules_right : CheckRules bad_rules (refused_with (of_item 0 (refusal Broken Rules 3)))
unfolding CheckRules
bad_rules_right = sym (ap shown_length worked.bad_rules_lem)

module _ (r : DzyLength) (p : CheckRules bad_rules r) where
  pub bad_rules_is : r ≡ refused_with (of_item 0 (refusal Broken Rules 3))
  bad_rules_is = one_check_rules bad_rules p bad_rules_right

  -- they are accepted
  pub bad_rules_not_accepted : r.refused.number ≡ 0 → ⊥
  bad_rules_not_accepted e = differ (ap (λ l. l.refused.number) bad_rules_is) e refl

  -- the place is that of the kind 2 rule
  pub bad_rules_not_elsewhere : r.refused.place ≡ 5 → ⊥
  bad_rules_not_elsewhere e = differ (ap (λ l. l.refused.place) bad_rules_is) e refl

  -- the item is the kind 2 rule, or none
  pub bad_rules_not_the_other : r.refused.item ≡ 1 → ⊥
  bad_rules_not_the_other e = differ (ap (λ l. l.refused.item) bad_rules_is) e refl

  pub bad_rules_not_of_none : r.refused.item ≡ no_item → ⊥
  bad_rules_not_of_none e = differ (ap (λ l. l.refused.item) bad_rules_is) e refl

-- a kind that is not known: 11 at it, in rule 0
pub bad_kind_right : CheckRules bad_kind (refused_with (of_item 0 (refusal Kind Rules 3)))
unfolding CheckRules
bad_kind_right = sym (ap shown_length worked.bad_kind_lem)

module _ (r : DzyLength) (p : CheckRules bad_kind r) where
  pub bad_kind_is : r ≡ refused_with (of_item 0 (refusal Kind Rules 3))
  bad_kind_is = one_check_rules bad_kind p bad_kind_right

  -- it is told as what is not declared
  pub bad_kind_not_undeclared : r.refused.number ≡ 5 → ⊥
  bad_kind_not_undeclared e = differ (ap (λ l. l.refused.number) bad_kind_is) e refl

  -- the item is the next one
  pub bad_kind_not_next : r.refused.item ≡ 1 → ⊥
  bad_kind_not_next e = differ (ap (λ l. l.refused.item) bad_kind_is) e refl

-- ---- reading both files: six facts
pub bundle_right : CheckBundle R F (long 6)
unfolding CheckBundle
bundle_right = sym (ap shown_length worked.facts)

module _ (r : DzyLength) (p : CheckBundle R F r) where
  pub bundle_is : r ≡ long 6
  bundle_is = one_check_bundle R F p bundle_right

  -- the place of the first fact for the number of facts
  pub bundle_not_start : r.length ≡ 1 → ⊥
  bundle_not_start e = differ (ap (λ l. l.length) bundle_is) e refl

  -- it is refused, in whatever way
  pub bundle_not_refused : 1 ≤ r.refused.number → ⊥
  bundle_not_refused low = accepted (ap (λ l. l.refused.number) bundle_is) low

-- a fact twice is refused, with 8 at the second
pub twice_right : CheckBundle R twice (refused_with (of_item 1 (refusal Order Bundle 3)))
unfolding CheckBundle
twice_right = sym (ap shown_length worked.bad_facts)

module _ (r : DzyLength) (p : CheckBundle R twice r) where
  pub twice_is : r ≡ refused_with (of_item 1 (refusal Order Bundle 3))
  twice_is = one_check_bundle R twice p twice_right

  -- it is accepted
  pub twice_not_accepted : r.refused.number ≡ 0 → ⊥
  twice_not_accepted e = differ (ap (λ l. l.refused.number) twice_is) e refl

  -- the place is that of the first of the two
  pub twice_not_at_first : r.refused.place ≡ 1 → ⊥
  twice_not_at_first e = differ (ap (λ l. l.refused.place) twice_is) e refl

  -- the item is the first of the two, the next one, or none
  pub twice_not_first : r.refused.item ≡ 0 → ⊥
  twice_not_first e = differ (ap (λ l. l.refused.item) twice_is) e refl

  pub twice_not_next : r.refused.item ≡ 2 → ⊥
  twice_not_next e = differ (ap (λ l. l.refused.item) twice_is) e refl

  pub twice_not_of_none : r.refused.item ≡ no_item → ⊥
  twice_not_of_none e = differ (ap (λ l. l.refused.item) twice_is) e refl

-- a bundle of no bytes: 1 at the count, which is about no item
pub no_facts_right : CheckBundle R [] (refused_with (refusal Cut Bundle 0))
unfolding CheckBundle
no_facts_right = sym (ap shown_length worked.no_facts)

module _ (r : DzyLength) (p : CheckBundle R [] r) where
  pub no_facts_is : r ≡ refused_with (refusal Cut Bundle 0)
  no_facts_is = one_check_bundle R [] p no_facts_right

  -- an item in the header
  pub no_facts_not_of_first : r.refused.item ≡ 0 → ⊥
  no_facts_not_of_first e = differ (ap (λ l. l.refused.item) no_facts_is) e refl

-- ---- the facts as a row of records, with a slot to spare
abbrev old : Record
old = rec 7 7 7

abbrev seven : List Record
seven = old ∷ old ∷ old ∷ old ∷ old ∷ old ∷ old ∷ []

pub records_right : Records R F seven (long 6) (six ++ (old ∷ []))
records_right =
    record { answer = sym (ap (λ a. shown_length (over length a)) worked.handed); memory = sym (ap (laid seven 0) worked.handed) }

module _ (r : DzyLength) (row : List Record) (p : Records R F seven r row) where
  pub records_is : Same r (long 6) row (six ++ (old ∷ []))
  records_is = one_records R F seven p records_right

  -- nothing is written, though the count may be right
  pub records_not_unwritten : row ≡ seven → ⊥
  records_not_unwritten e = differ (ap (λ s. (get_or s 0 old).predicate) records_is.memory) (ap (λ s. (get_or s 0 old).predicate) e) refl

  -- the object of uplink(9,7) is forgotten
  pub records_not_object_forgotten : (get_or row 3 old).object ≡ 0 → ⊥
  records_not_object_forgotten e = differ (ap (λ s. (get_or s 3 old).object) records_is.memory) e refl

  -- the row is filled one slot too far, whatever is written there
  pub records_not_past_facts : (get_or row 6 no_record ≡ old → ⊥) → ⊥
  records_not_past_facts other = other (ap (λ s. get_or s 6 no_record) records_is.memory)

  -- it is refused, in whatever way
  pub records_not_refused : 1 ≤ r.refused.number → ⊥
  records_not_refused low = accepted (ap (λ l. l.refused.number) records_is.answer) low

-- one slot too few: refusal 9, and the row stays as it was
abbrev five : List Record
five = old ∷ old ∷ old ∷ old ∷ old ∷ []

pub no_slot_right : Records R F five (refused_with (refusal Room Call 0)) five
no_slot_right =
    record { answer = sym (ap (λ a. shown_length (over length a)) worked.not_handed); memory = sym (ap (laid five 0) worked.not_handed) }

module _ (r : DzyLength) (row : List Record) (p : Records R F five r row) where
  pub no_slot_is : Same r (refused_with (refusal Room Call 0)) row five
  no_slot_is = one_records R F five p no_slot_right

  -- as many records as there is room for are written
  pub no_slot_not_part_written : get_or row 0 old ≡ rec 0 7 0 → ⊥
  no_slot_not_part_written e = differ (ap (λ s. (get_or s 0 old).predicate) no_slot_is.memory) (ap (λ s. s.predicate) e) refl

  -- it is not refused
  pub no_slot_not_accepted : r.refused.number ≡ 0 → ⊥
  no_slot_not_accepted e = differ (ap (λ l. l.refused.number) no_slot_is.answer) e refl

-- ---- writing the six records: F's 17 bytes, with a byte to spare
abbrev blank : List ℕ
blank = 5 ∷ 5 ∷ 5 ∷ 5 ∷ 5 ∷ 5 ∷ 5 ∷ 5 ∷ 5 ∷ 5 ∷ 5 ∷ 5 ∷ 5 ∷ 5 ∷ 5 ∷ 5 ∷ 5 ∷ 5 ∷ []

pub write_right : WriteRecords R six blank (long 17) (F ++ (5 ∷ []))
write_right =
    record { answer = sym (ap (λ a. shown_length (over length a)) worked.written); memory = sym (ap (laid blank 0) worked.written) }

module _ (r : DzyLength) (out : List ℕ) (p : WriteRecords R six blank r out) where
  pub write_is : Same r (long 17) out (F ++ (5 ∷ []))
  write_is = one_write_records R six blank p write_right

  -- nothing is written, though the length may be right
  pub write_not_unwritten : out ≡ blank → ⊥
  write_not_unwritten e = differ_at 0 write_is.memory e refl

  -- the number 300 is written as one byte
  pub write_not_shorter : r.length ≡ 16 → ⊥
  write_not_shorter e = differ (ap (λ l. l.length) write_is.answer) e refl

  -- a byte past the written ones is changed, whatever is written there
  pub write_not_past_bytes : (get_or out 17 0 ≡ 5 → ⊥) → ⊥
  write_not_past_bytes other = other (ap (λ s. get_or s 17 0) write_is.memory)

  -- it is refused, in whatever way
  pub write_not_refused : 1 ≤ r.refused.number → ⊥
  write_not_refused low = accepted (ap (λ l. l.refused.number) write_is.answer) low

-- a concept's record that has an object: refusal 12 at that record's number, and the output stays as it was
abbrev out_six : List ℕ
out_six = 5 ∷ 5 ∷ 5 ∷ 5 ∷ 5 ∷ 5 ∷ []

pub bad_row_right : WriteRecords R bad_row out_six (refused_with (refusal Object Call 1)) out_six
bad_row_right =
    record { answer = sym (ap (λ a. shown_length (over length a)) worked.not_written); memory = sym (ap (laid out_six 0) worked.not_written) }

module _ (r : DzyLength) (out : List ℕ) (p : WriteRecords R bad_row out_six r out) where
  pub bad_row_is : Same r (refused_with (refusal Object Call 1)) out out_six
  bad_row_is = one_write_records R bad_row out_six p bad_row_right

  -- the object is dropped without a word
  pub bad_row_not_accepted : r.refused.number ≡ 0 → ⊥
  bad_row_not_accepted e = differ (ap (λ l. l.refused.number) bad_row_is.answer) e refl

  -- it is told as what is not declared
  pub bad_row_not_undeclared : r.refused.number ≡ 5 → ⊥
  bad_row_not_undeclared e = differ (ap (λ l. l.refused.number) bad_row_is.answer) e refl

  -- the record's number is told as an item too
  pub bad_row_not_of_item : r.refused.item ≡ 1 → ⊥
  bad_row_not_of_item e = differ (ap (λ l. l.refused.item) bad_row_is.answer) e refl

  -- the place is that of another record
  pub bad_row_not_elsewhere : r.refused.place ≡ 0 → ⊥
  bad_row_not_elsewhere e = differ (ap (λ l. l.refused.place) bad_row_is.answer) e refl

  -- the count and the good record before it are written
  pub bad_row_not_part_written : out ≡ 0x02 ∷ 0x00 ∷ 0x07 ∷ 5 ∷ 5 ∷ 5 ∷ [] → ⊥
  bad_row_not_part_written e = differ_at 0 bad_row_is.memory e refl

-- ---- a reader's start: the byte after the count
abbrev starts_at : ℕ → DzyStart
starts_at n = record { refused = not_refused; at = n }

abbrev no_start : DzyStart
no_start = shown_start (Err (of_item 1 (refusal Order Bundle 3)))

pub start_right : ReaderStart R F (starts_at 1)
unfolding ReaderStart
start_right = sym (ap shown_start worked.started)

module _ (r : DzyStart) (p : ReaderStart R F r) where
  pub start_is : r ≡ starts_at 1
  start_is = one_reader_start R F p start_right

  -- at the count, which would be read as a fact
  pub start_not_at_count : r.at ≡ 0 → ⊥
  start_not_at_count e = differ (ap (λ x. x.at) start_is) e refl

  -- it is refused, in whatever way
  pub start_not_refused : 1 ≤ r.refused.number → ⊥
  start_not_refused low = accepted (ap (λ x. x.refused.number) start_is) low

-- a fact twice: there is no start
pub no_start_right : ReaderStart R twice no_start
unfolding ReaderStart
no_start_right = sym (ap shown_start worked.not_started)

module _ (r : DzyStart) (p : ReaderStart R twice r) where
  pub no_start_is : r ≡ no_start
  no_start_is = one_reader_start R twice p no_start_right

  -- it starts on a bundle that is not accepted
  pub no_start_not_accepted : r.refused.number ≡ 0 → ⊥
  no_start_not_accepted e = differ (ap (λ x. x.refused.number) no_start_is) e refl

-- ---- one step of a reader, whichever reader it is over the bytes
abbrev reader : Bor (List ℕ) → ℕ → Reader
reader s n = record { src = s; at = n }

-- what is seen of a step that is known
steps_to : (s : Bor (List ℕ)) (bytes : List ℕ) (at : ℕ) (x : Step) → s.now ≡ bytes → reader_step bytes at ≡ x → ReaderNext (reader s at) (shown_yield x.yields) (reader s x.next)
steps_to s bytes at x same is =
    record {
      answer = sym (ap (λ z. shown_yield z.yields) (ap (λ b. reader_step b at) same ∙ is));
      bundle = refl;
      next = sym (ap (λ z. z.next) (ap (λ b. reader_step b at) same ∙ is));
    }

-- over F at byte 7: uplink(9,7), and byte 10 next
abbrev uplink : DzyYield
uplink = record { refused = not_refused; found = 1; fact = rec 64 9 7 }

module _ (s : Bor (List ℕ)) (bytes : s.now ≡ F) where
  pub next_right : ReaderNext (reader s 7) uplink (reader s 10)
  next_right = steps_to s F 7 _ bytes worked.stepped

  module _ (r : DzyYield) (after : Reader) (p : ReaderNext (reader s 7) r after) where
    pub next_is : SameStep r uplink after (reader s 10)
    next_is = one_reader_next (reader s 7) p next_right

    -- the object is forgotten
    pub next_not_object_forgotten : r.fact.object ≡ 0 → ⊥
    next_not_object_forgotten e = differ (ap (λ y. y.fact.object) next_is.answer) e refl

    -- it does not move; it moves no further than to the object
    pub next_not_stuck : after.at ≡ 7 → ⊥
    next_not_stuck e = differ (ap (λ a. a.at) next_is.reader) e refl

    pub next_not_before_object : after.at ≡ 9 → ⊥
    next_not_before_object e = differ (ap (λ a. a.at) next_is.reader) e refl

    -- it is done before the end, or refuses
    pub next_not_done : r.found ≡ 0 → ⊥
    next_not_done e = differ (ap (λ y. y.found) next_is.answer) e refl

    -- it reads on in another bundle
    pub next_not_other_bundle : (after.src ≡ s → ⊥) → ⊥
    next_not_other_bundle other = other (ap (λ a. a.src) next_is.reader)

  -- at the end it is done, and stays there
  abbrev done_yield : DzyYield
  done_yield = record { refused = not_refused; found = 0; fact = no_record }

  pub end_right : ReaderNext (reader s 17) done_yield (reader s 17)
  end_right = steps_to s F 17 _ bytes worked.ended

  module _ (r : DzyYield) (after : Reader) (p : ReaderNext (reader s 17) r after) where
    pub end_is : SameStep r done_yield after (reader s 17)
    end_is = one_reader_next (reader s 17) p end_right

    -- the last fact comes once more
    pub end_not_found : r.found ≡ 1 → ⊥
    end_not_found e = differ (ap (λ y. y.found) end_is.answer) e refl

    -- it begins again
    pub end_not_again : after.at ≡ 1 → ⊥
    end_not_again e = differ (ap (λ a. a.at) end_is.reader) e refl

-- over bytes that are no fact: refusal 1, and it stays where it is
abbrev no_fact : DzyYield
no_fact = shown_yield (Err (refusal Cut Bundle 0))

module _ (s : Bor (List ℕ)) (bytes : s.now ≡ 0x80 ∷ []) where
  pub stop_right : ReaderNext (reader s 0) no_fact (reader s 0)
  stop_right = steps_to s (0x80 ∷ []) 0 _ bytes worked.not_stepped

  module _ (r : DzyYield) (after : Reader) (p : ReaderNext (reader s 0) r after) where
    pub stop_is : SameStep r no_fact after (reader s 0)
    stop_is = one_reader_next (reader s 0) p stop_right

    -- it passes over them
    pub stop_not_moved : after.at ≡ 1 → ⊥
    stop_not_moved e = differ (ap (λ a. a.at) stop_is.reader) e refl

    -- it numbers its facts, though it knows of no item
    pub stop_not_of_item : r.refused.item ≡ 0 → ⊥
    stop_not_of_item e = differ (ap (λ y. y.refused.item) stop_is.answer) e refl

    -- it is done, without a refusal
    pub stop_not_done : r.refused.number ≡ 0 → ⊥
    stop_not_done e = differ (ap (λ y. y.refused.number) stop_is.answer) e refl
