-- Document 01's worked site (rule file R, bundle F) for the lists of wrong answers, RuledOut.antt and RuledOutRecords.antt: what the definitions
-- give there, which the checker computes from the bytes, and how two numbers are told apart.
use Prim.Native.Nat.{ℕ, ◌≤◌}
use mathlib.Core.Path.{◌≡◌, refl, sym, ap, ◌∙◌}
use mathlib.Core.Bool.{false}
use mathlib.Core.List.{List, [], ◌∷◌}
use lib.ListN.{get_or}
use lib.Dec.{eqb}
use native.Mathlib.Omega.{arith}
use borrow.Author.Tests.{eqb-false}
use Rattle.number.specs.Answer.{refusal, of_item, over}
use Rattle.std.specs.Prelude.{Some, None, Ok, Err}
use Rattle.number.specs.declared.refusal.Refusal.{Refusal}
use Rattle.number.specs.Number.{form_of, second, third, number_at, bytes_of}
use Rattle.number.specs.declared.refusal.Fault.TheVariants.{Cut, Broken, Order, Room, Kind, Object}
use Rattle.number.specs.declared.refusal.Side.TheVariants.{Rules, Bundle, Call}
use Rattle.site.specs.Codes.{role_of, concept_of, concept_declared, predicate_declared}
use Rattle.site.specs.Lists.{up_to, any, count, keep, first, each}
use Rattle.site.specs.Items.{tested_at, at_most, items_from, end_at}
use Rattle.rule.specs.OneRule.{head_of, code_declared, rule_at}
use Rattle.rules.specs.RuleFile.{next_rule, rules_in, next_unbroken, after_rules, check_rules, site_of}
use Rattle.bundle.specs.Bundle.{fact_at, next_fact, facts_in, check_bundle, read_bundle, fact_bytes, bundle_of}
use Rattle.bundle.specs.Opened.{opening}
use Rattle.writer.specs.Records.{room_for, record_fault, records_from, plan_records}
use Rattle.records.specs.Reading.{reader_start, reader_step}
use Rattle.records.specs.Rows.{hand_out, hand_records, write_row}
use Rattle.records.specs.declared.record.Record.{Record}
use Rattle.steps.specs.Tables.{roles_of, nodes_of, arrow, mates, find, rows_of, looked, through, closure, apart, empty, excludes, functional_in, excluded_rows, follows_from, follows_of}
use Rattle.clashes.specs.Types.{types_of}
use Rattle.clashes.specs.Marks.{jar, split, meet, alone, contradict, clash, mark, partner, marks, partners, marked, counts, kept, supports, support}
use Rattle.clashes.specs.Judging.{judged}
use Rattle.clashes.specs.declared.answers.Counts.{Counts}
use Rattle.clashes.specs.declared.answers.Judged.TheVariants.{Disputed}
use Rattle.clean.specs.Operations.{given, room_for_marks, marking, counting, asking, reply_of, having, joining, keeping}
use Rattle.cases.proofs.Cases.{R, F}
use Rattle.shown.specs.Shown.{not_refused, shown_length}
use Rattle.shown.specs.declared.shapes.DzyLength.{DzyLength}

-- uplink(9,7) alone; Switch(7) twice; a functional role on the right of a kind 2 rule
abbrev pub one_uplink : List ℕ
one_uplink = 0x01 ∷ 0x40 ∷ 0x09 ∷ 0x07 ∷ []

abbrev pub twice : List ℕ
twice = 0x02 ∷ 0x00 ∷ 0x07 ∷ 0x00 ∷ 0x07 ∷ []

abbrev pub bad_rules : List ℕ
bad_rules = 0x00 ∷ 0x01 ∷ 0x02 ∷ 0x04 ∷ 0x00 ∷ 0x02 ∷ 0x01 ∷ 0x01 ∷ []

-- a rule of kind 5
abbrev pub bad_kind : List ℕ
bad_kind = 0x00 ∷ 0x00 ∷ 0x01 ∷ 0x05 ∷ []

-- F's facts as records; and a row with a concept's record that has an object
abbrev pub rec : ℕ → ℕ → ℕ → Record
rec predicate subject object = record { predicate = predicate; subject = subject; object = object }

abbrev pub six : List Record
six = rec 0 7 0 ∷ rec 1 7 0 ∷ rec 1 9 0 ∷ rec 64 9 7 ∷ rec 64 9 300 ∷ rec 64 12 12 ∷ []

abbrev pub bad_row : List Record
bad_row = rec 0 7 0 ∷ rec 1 9 5 ∷ []

abbrev pub six_counts : Counts
six_counts = record { facts = 6; kept = 1; alone = 1; disputed = 4 }

-- the answers of document 01's definitions, with so many slots or bytes of room
pub record Worked : Type 0 where
  pub marked_so : marking R F 7 7 ≡ Ok (record { counts = six_counts; marks = 2 ∷ 2 ∷ 0 ∷ 2 ∷ 2 ∷ 1 ∷ []; partners = 1 ∷ 0 ∷ 65535 ∷ 1 ∷ 3 ∷ 65535 ∷ [] })
  pub not_marked : marking R F 5 7 ≡ Err (refusal Room Call 0)
  pub counted : counting R F ≡ Ok six_counts
  pub asked : asking R F 3 ≡ Ok (Disputed 1)
  pub had : having R F 64 9 ≡ Ok (Some 2)
  pub joined : joining R one_uplink 1 7 9 ≡ Ok (Some 0)
  pub not_joined : joining R one_uplink 1 9 7 ≡ Ok None
  pub kept_exactly : keeping R F 3 ≡ Ok (0x01 ∷ 0x01 ∷ 0x09 ∷ [])
  pub kept_so : keeping R F 4 ≡ Ok (0x01 ∷ 0x01 ∷ 0x09 ∷ [])
  pub not_kept : keeping R F 2 ≡ Err (refusal Room Call 0)
  pub rules : over (λ h. h.rules) (check_rules R) ≡ Ok 5
  pub bad_rules_lem : over (λ h. h.rules) (check_rules bad_rules) ≡ Err (of_item 0 (refusal Broken Rules 3))
  pub bad_kind_lem : over (λ h. h.rules) (check_rules bad_kind) ≡ Err (of_item 0 (refusal Kind Rules 3))
  pub facts : over (λ i. i.facts.count) (opening R F) ≡ Ok 6
  pub no_facts : over (λ i. i.facts.count) (opening R []) ≡ Err (refusal Cut Bundle 0)
  pub bad_facts : over (λ i. i.facts.count) (opening R twice) ≡ Err (of_item 1 (refusal Order Bundle 3))
  pub handed : hand_records R F 7 ≡ Ok six
  pub not_handed : hand_records R F 5 ≡ Err (refusal Room Call 0)
  pub written : write_row R 18 six ≡ Ok F
  pub not_written : write_row R 6 bad_row ≡ Err (refusal Object Call 1)
  pub started : reader_start R F ≡ Ok 1
  pub not_started : reader_start R twice ≡ Err (of_item 1 (refusal Order Bundle 3))
  pub stepped : reader_step F 7 ≡ record { yields = Ok (Some (record { predicate = 64; subject = 9; object = 7 })); next = 10 }
  pub not_stepped : reader_step (0x80 ∷ []) 0 ≡ record { yields = Err (refusal Cut Bundle 0); next = 0 }
  pub ended : reader_step F 17 ≡ record { yields = Ok None; next = 17 }

pub worked : Worked
unfolding form_of second third number_at bytes_of role_of concept_of concept_declared predicate_declared up_to any count keep first each tested_at at_most items_from end_at head_of code_declared rule_at next_rule rules_in next_unbroken after_rules check_rules site_of fact_at next_fact facts_in check_bundle read_bundle fact_bytes bundle_of room_for record_fault records_from plan_records roles_of nodes_of arrow mates find rows_of looked through closure apart empty excludes functional_in excluded_rows follows_from follows_of types_of jar split meet alone contradict clash mark partner marks partners marked counts kept supports support judged given room_for_marks marking counting asking reply_of having joining keeping opening reader_start reader_step hand_out hand_records write_row
worked =
    record {
      marked_so = refl;
      not_marked = refl;
      counted = refl;
      asked = refl;
      had = refl;
      joined = refl;
      not_joined = refl;
      kept_exactly = refl;
      kept_so = refl;
      not_kept = refl;
      rules = refl;
      bad_rules_lem = refl;
      bad_kind_lem = refl;
      facts = refl;
      no_facts = refl;
      bad_facts = refl;
      handed = refl;
      not_handed = refl;
      written = refl;
      not_written = refl;
      started = refl;
      not_started = refl;
      stepped = refl;
      not_stepped = refl;
      ended = refl;
    }

-- a length, and a refusal in its place
abbrev pub long : ℕ → DzyLength
long n = record { refused = not_refused; length = n }

abbrev pub refused_with : Refusal → DzyLength
refused_with r = shown_length (Err r)

-- one number is not two others; nor, in two rows, the number at one place
pub differ : {x y z : ℕ} → x ≡ y → x ≡ z → eqb y z ≡ false → ⊥
differ {y = y} {z = z} a b e = eqb-false y z e (sym a ∙ b)

pub differ_at : (k : ℕ) {row row' row'' : List ℕ} → row ≡ row' → row ≡ row'' → eqb (get_or row' k 0) (get_or row'' k 0) ≡ false → ⊥
differ_at k a b e = differ (ap (λ row. get_or row k 0) a) (ap (λ row. get_or row k 0) b) e

-- a refusal's number is not 0 (NeverZero.antt): what has number 0 is refused in no way
pub accepted : {x : ℕ} → x ≡ 0 → 1 ≤ x → ⊥
accepted a low = omega arith
