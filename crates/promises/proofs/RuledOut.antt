-- Wrong answers that the promises rule out, at document 01's worked site (rule file R, bundle F): marks, counts, questions and the kept facts.
-- For each operation: the right answer keeps the promise; every answer that keeps it is that one; and then wrong answers, none of which keeps
-- it, so that a version that answers so cannot be proved. The two files, the rows of records and the reader are in RuledOutRecords.antt.
use Prim.Native.Nat.{ℕ, ◌≤◌}
use mathlib.Core.Path.{◌≡◌, refl, sym, ap}
use mathlib.Core.List.{List, [], ◌∷◌}
use lib.ListN.{length, get_or}
use Rattle.std.specs.Prelude.{Err}
use Rattle.number.specs.Answer.{over, laid, refusal}
use Rattle.number.specs.declared.refusal.Fault.TheVariants.{Room}
use Rattle.number.specs.declared.refusal.Side.TheVariants.{Call}
use Rattle.number.proofs.One.{Same}
use Rattle.cases.proofs.Cases.{R, F}
use Rattle.shown.specs.Shown.{not_refused, shown_counts, shown_asked, shown_answer, shown_length}
use Rattle.shown.specs.declared.shapes.DzyCounts.{DzyCounts}
use Rattle.shown.specs.declared.shapes.DzyAsked.{DzyAsked}
use Rattle.shown.specs.declared.shapes.DzyAnswer.{DzyAnswer}
use Rattle.shown.specs.declared.shapes.DzyLength.{DzyLength}
use Rattle.dzyunagor.specs.Promises.{Mark, Count, Ask, Has, Joins, WriteKept}
use Rattle.promises.proofs.OneAnswer.{one_mark, one_count, one_ask, one_has, one_joins, one_write_kept, SameMarks}
use Rattle.promises.proofs.WorkedSite.{one_uplink, worked, long, refused_with, differ, differ_at, accepted}

-- ---- marking, with a slot to spare in both rows
abbrev lent : List ℕ
lent = 7 ∷ 7 ∷ 7 ∷ 7 ∷ 7 ∷ 7 ∷ 7 ∷ []

abbrev right_counts : DzyCounts
right_counts = record { refused = not_refused; facts = 6; kept = 1; alone = 1; disputed = 4 }

abbrev right_marks : List ℕ
right_marks = 2 ∷ 2 ∷ 0 ∷ 2 ∷ 2 ∷ 1 ∷ 7 ∷ []

abbrev right_partners : List ℕ
right_partners = 1 ∷ 0 ∷ 65535 ∷ 1 ∷ 3 ∷ 65535 ∷ 7 ∷ []

pub mark_right : Mark R F lent lent right_counts right_marks right_partners
mark_right =
    record {
      answer = sym (ap (λ a. shown_counts (over (λ m. m.counts) a)) worked.marked_so);
      marks = sym (ap (λ a. laid lent 0 (over (λ m. m.marks) a)) worked.marked_so);
      partners = sym (ap (λ a. laid lent 0 (over (λ m. m.partners) a)) worked.marked_so);
    }

module _ (r : DzyCounts) (row pair : List ℕ) (p : Mark R F lent lent r row pair) where
  pub mark_is : SameMarks R F r right_counts row right_marks pair right_partners
  mark_is = one_mark R F lent lent p mark_right

  -- nothing is written, though the counts may be right
  pub mark_not_unwritten : row ≡ lent → ⊥
  mark_not_unwritten e = differ_at 0 mark_is.marks e refl

  pub mark_not_partners_unwritten : pair ≡ lent → ⊥
  mark_not_partners_unwritten e = differ_at 0 mark_is.partners e refl

  -- every fact is kept
  pub mark_not_all_kept : row ≡ 0 ∷ 0 ∷ 0 ∷ 0 ∷ 0 ∷ 0 ∷ 7 ∷ [] → ⊥
  mark_not_all_kept e = differ_at 0 mark_is.marks e refl

  -- every fact is dropped: as alone, or as disputed, which is also the first fact's mark filled into the rest
  pub mark_not_all_alone : row ≡ 1 ∷ 1 ∷ 1 ∷ 1 ∷ 1 ∷ 1 ∷ 7 ∷ [] → ⊥
  mark_not_all_alone e = differ_at 0 mark_is.marks e refl

  pub mark_not_all_disputed : row ≡ 2 ∷ 2 ∷ 2 ∷ 2 ∷ 2 ∷ 2 ∷ 7 ∷ [] → ⊥
  mark_not_all_disputed e = differ_at 2 mark_is.marks e refl

  -- the first of two contradicting facts is kept
  pub mark_not_first_kept : get_or row 0 0 ≡ 0 → ⊥
  mark_not_first_kept e = differ (ap (λ s. get_or s 0 0) mark_is.marks) e refl

  -- the partner is the last fact that it clashes with, and not the lowest-numbered
  pub mark_not_last_partner : get_or pair 3 0 ≡ 4 → ⊥
  mark_not_last_partner e = differ (ap (λ s. get_or s 3 0) mark_is.partners) e refl

  -- a kept fact has fact 0 for its partner
  pub mark_not_partner_of_kept : get_or pair 2 0 ≡ 0 → ⊥
  mark_not_partner_of_kept e = differ (ap (λ s. get_or s 2 0) mark_is.partners) e refl

  -- a row is filled one slot too far, whatever is written there
  pub mark_not_past_facts : (get_or row 6 0 ≡ 7 → ⊥) → ⊥
  mark_not_past_facts other = other (ap (λ s. get_or s 6 0) mark_is.marks)

  pub mark_not_partners_past_facts : (get_or pair 6 0 ≡ 7 → ⊥) → ⊥
  mark_not_partners_past_facts other = other (ap (λ s. get_or s 6 0) mark_is.partners)

  -- it is refused, in whatever way
  pub mark_not_refused : 1 ≤ r.refused.number → ⊥
  mark_not_refused low = accepted (ap (λ c. c.refused.number) mark_is.answer) low

-- one slot too few: refusal 9, and both rows stay as they were
abbrev too_short : List ℕ
too_short = 7 ∷ 7 ∷ 7 ∷ 7 ∷ 7 ∷ []

abbrev no_counts : DzyCounts
no_counts = shown_counts (Err (refusal Room Call 0))

pub short_right : Mark R F too_short lent no_counts too_short lent
short_right =
    record {
      answer = sym (ap (λ a. shown_counts (over (λ m. m.counts) a)) worked.not_marked);
      marks = sym (ap (λ a. laid too_short 0 (over (λ m. m.marks) a)) worked.not_marked);
      partners = sym (ap (λ a. laid lent 0 (over (λ m. m.partners) a)) worked.not_marked);
    }

module _ (r : DzyCounts) (row pair : List ℕ) (p : Mark R F too_short lent r row pair) where
  pub short_is : SameMarks R F r no_counts row too_short pair lent
  short_is = one_mark R F too_short lent p short_right

  -- as many marks as there is room for are written
  pub short_not_part_written : row ≡ 2 ∷ 2 ∷ 0 ∷ 2 ∷ 2 ∷ [] → ⊥
  short_not_part_written e = differ_at 0 short_is.marks e refl

  -- the row that is long enough is written all the same
  pub short_not_partners_written : pair ≡ right_partners → ⊥
  short_not_partners_written e = differ_at 0 short_is.partners e refl

  -- it is not refused
  pub short_not_accepted : r.refused.number ≡ 0 → ⊥
  short_not_accepted e = differ (ap (λ c. c.refused.number) short_is.answer) e refl

-- ---- counting
pub count_right : Count R F right_counts
unfolding Count
count_right = sym (ap shown_counts worked.counted)

module _ (r : DzyCounts) (p : Count R F r) where
  pub count_is : r ≡ right_counts
  count_is = one_count R F p count_right

  -- all six are counted as kept
  pub count_not_all_kept : r.kept ≡ 6 → ⊥
  count_not_all_kept e = differ (ap (λ c. c.kept) count_is) e refl

  -- nothing is counted
  pub count_not_zeros : r.facts ≡ 0 → ⊥
  count_not_zeros e = differ (ap (λ c. c.facts) count_is) e refl

  -- the alone fact is counted among the disputed ones
  pub count_not_alone_as_disputed : r.disputed ≡ 5 → ⊥
  count_not_alone_as_disputed e = differ (ap (λ c. c.disputed) count_is) e refl

  -- it is refused, in whatever way
  pub count_not_refused : 1 ≤ r.refused.number → ⊥
  count_not_refused low = accepted (ap (λ c. c.refused.number) count_is) low

-- ---- asking about fact 3, uplink(9,7): disputed, first by fact 1, Camera(7)
abbrev right_asked : DzyAsked
right_asked = record { refused = not_refused; mark = 2; partner = 1 }

pub ask_right : Ask R F 3 right_asked
unfolding Ask
ask_right = sym (ap shown_asked worked.asked)

module _ (r : DzyAsked) (p : Ask R F 3 r) where
  pub ask_is : r ≡ right_asked
  ask_is = one_ask R F 3 p ask_right

  -- it is kept
  pub ask_not_kept : r.mark ≡ 0 → ⊥
  ask_not_kept e = differ (ap (λ a. a.mark) ask_is) e refl

  -- its partner is the last fact that it clashes with, uplink(9,300)
  pub ask_not_last_partner : r.partner ≡ 4 → ⊥
  ask_not_last_partner e = differ (ap (λ a. a.partner) ask_is) e refl

  -- it is disputed without a partner
  pub ask_not_without_partner : r.partner ≡ 65535 → ⊥
  ask_not_without_partner e = differ (ap (λ a. a.partner) ask_is) e refl

  -- it is refused, in whatever way
  pub ask_not_refused : 1 ≤ r.refused.number → ⊥
  ask_not_refused low = accepted (ap (λ a. a.refused.number) ask_is) low

-- ---- does 9 have an uplink (code 64)? Yes by fact 2, Camera(9), though no uplink of it is kept
abbrev right_has : DzyAnswer
right_has = record { refused = not_refused; yes = 1; fact = 2 }

pub has_right : Has R F 64 9 right_has
unfolding Has
has_right = sym (ap shown_answer worked.had)

module _ (r : DzyAnswer) (p : Has R F 64 9 r) where
  pub has_is : r ≡ right_has
  has_is = one_has R F 64 9 p has_right

  -- no, as if only an uplink that is named counted
  pub has_not_no : r.yes ≡ 0 → ⊥
  has_not_no e = differ (ap (λ a. a.yes) has_is) e refl

  -- yes by fact 3, uplink(9,7), which is disputed
  pub has_not_by_disputed : r.fact ≡ 3 → ⊥
  has_not_by_disputed e = differ (ap (λ a. a.fact) has_is) e refl

  -- yes without the fact's number
  pub has_not_fact_forgotten : r.fact ≡ 0 → ⊥
  has_not_fact_forgotten e = differ (ap (λ a. a.fact) has_is) e refl

  -- it is refused, in whatever way
  pub has_not_refused : 1 ≤ r.refused.number → ⊥
  has_not_refused low = accepted (ap (λ a. a.refused.number) has_is) low

-- ---- uplink(9,7) joins 7 to 9 by its inverse (code 1), and not 9 to 7
abbrev right_joins : DzyAnswer
right_joins = record { refused = not_refused; yes = 1; fact = 0 }

abbrev right_not : DzyAnswer
right_not = record { refused = not_refused; yes = 0; fact = 0 }

pub joins_right : Joins R one_uplink 1 7 9 right_joins
unfolding Joins
joins_right = sym (ap shown_answer worked.joined)

pub turned_right : Joins R one_uplink 1 9 7 right_not
unfolding Joins
turned_right = sym (ap shown_answer worked.not_joined)

module _ (r : DzyAnswer) where
  pub joins_is : Joins R one_uplink 1 7 9 r → r ≡ right_joins
  joins_is p = one_joins R one_uplink 1 7 9 p joins_right

  pub turned_is : Joins R one_uplink 1 9 7 r → r ≡ right_not
  turned_is p = one_joins R one_uplink 1 9 7 p turned_right

  -- the two directions are exchanged: no where it is yes, yes where it is no
  pub joins_not_no : Joins R one_uplink 1 7 9 r → r.yes ≡ 0 → ⊥
  joins_not_no p e = differ (ap (λ a. a.yes) (joins_is p)) e refl

  pub joins_not_turned : Joins R one_uplink 1 9 7 r → r.yes ≡ 1 → ⊥
  joins_not_turned p e = differ (ap (λ a. a.yes) (turned_is p)) e refl

  -- it is refused, in whatever way
  pub joins_not_refused : Joins R one_uplink 1 7 9 r → 1 ≤ r.refused.number → ⊥
  joins_not_refused p low = accepted (ap (λ a. a.refused.number) (joins_is p)) low

-- ---- writing the kept facts: Camera(9), three bytes, with a byte to spare
abbrev four : List ℕ
four = 7 ∷ 7 ∷ 7 ∷ 7 ∷ []

abbrev right_bytes : List ℕ
right_bytes = 0x01 ∷ 0x01 ∷ 0x09 ∷ 7 ∷ []

pub kept_right : WriteKept R F four (long 3) right_bytes
kept_right =
    record { answer = sym (ap (λ a. shown_length (over length a)) worked.kept_so); memory = sym (ap (laid four 0) worked.kept_so) }

module _ (r : DzyLength) (out : List ℕ) (p : WriteKept R F four r out) where
  pub kept_is : Same r (long 3) out right_bytes
  kept_is = one_write_kept R F four p kept_right

  -- no fact is written
  pub kept_not_none : out ≡ 0x00 ∷ 7 ∷ 7 ∷ 7 ∷ [] → ⊥
  kept_not_none e = differ_at 0 kept_is.memory e refl

  -- the whole bundle is copied, as far as there is room
  pub kept_not_copied : out ≡ 0x06 ∷ 0x00 ∷ 0x07 ∷ 0x01 ∷ [] → ⊥
  kept_not_copied e = differ_at 0 kept_is.memory e refl

  -- the length is that of the lent output
  pub kept_not_room_for_length : r.length ≡ 4 → ⊥
  kept_not_room_for_length e = differ (ap (λ l. l.length) kept_is.answer) e refl

  -- a byte past the written ones is changed, whatever is written there
  pub kept_not_past_bytes : (get_or out 3 0 ≡ 7 → ⊥) → ⊥
  kept_not_past_bytes other = other (ap (λ s. get_or s 3 0) kept_is.memory)

  -- it is refused, in whatever way
  pub kept_not_refused : 1 ≤ r.refused.number → ⊥
  kept_not_refused low = accepted (ap (λ l. l.refused.number) kept_is.answer) low

-- just enough room
abbrev three : List ℕ
three = 7 ∷ 7 ∷ 7 ∷ []

pub exact_right : WriteKept R F three (long 3) (0x01 ∷ 0x01 ∷ 0x09 ∷ [])
exact_right =
    record {
      answer = sym (ap (λ a. shown_length (over length a)) worked.kept_exactly);
      memory = sym (ap (laid three 0) worked.kept_exactly);
    }

module _ (r : DzyLength) (out : List ℕ) (p : WriteKept R F three r out) where
  pub exact_is : Same r (long 3) out (0x01 ∷ 0x01 ∷ 0x09 ∷ [])
  exact_is = one_write_kept R F three p exact_right

  -- it is refused, as if room had to be left
  pub exact_not_refused : r.refused.number ≡ 9 → ⊥
  exact_not_refused e = differ (ap (λ l. l.refused.number) exact_is.answer) e refl

-- one byte too few: refusal 9, and the output stays as it was
abbrev two : List ℕ
two = 7 ∷ 7 ∷ []

pub no_room_right : WriteKept R F two (refused_with (refusal Room Call 0)) two
no_room_right =
    record { answer = sym (ap (λ a. shown_length (over length a)) worked.not_kept); memory = sym (ap (laid two 0) worked.not_kept) }

module _ (r : DzyLength) (out : List ℕ) (p : WriteKept R F two r out) where
  pub no_room_is : Same r (refused_with (refusal Room Call 0)) out two
  no_room_is = one_write_kept R F two p no_room_right

  -- as many bytes as there is room for are written
  pub no_room_not_part_written : out ≡ 0x01 ∷ 0x01 ∷ [] → ⊥
  no_room_not_part_written e = differ_at 0 no_room_is.memory e refl

  -- it is not refused
  pub no_room_not_accepted : r.refused.number ≡ 0 → ⊥
  no_room_not_accepted e = differ (ap (λ l. l.refused.number) no_room_is.answer) e refl
