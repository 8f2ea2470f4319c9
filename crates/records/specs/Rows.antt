-- Rows of records: what is handed out of a bundle, what is written from a row, and what the lent memory holds afterwards.
use Rattle.std.specs.Prelude.{ℕ, ◌≡◌, cond, List, map, length, leb, Ok, Err}
use Rattle.number.specs.Answer.{Answer, refusal, ◌then◌, over, laid}
use Rattle.number.specs.declared.refusal.Fault.TheVariants.{Room}
use Rattle.number.specs.declared.refusal.Side.TheVariants.{Call}
use Rattle.site.specs.declared.fact.Fact.{Fact}
use Rattle.rules.specs.RuleFile.{check_rules}
use Rattle.bundle.specs.Bundle.{facts_of}
use Rattle.bundle.specs.Opened.{opening}
use Rattle.bundle.specs.declared.facts.Facts.{Facts}
use Rattle.writer.specs.Records.{plan_records}
use Rattle.records.specs.declared.record.Record.{Record}

-- "A record has predicate, subject and object; a concept's object is 0."
abbrev pub record_of : Fact → Record
record_of f = record { predicate = f.predicate; subject = f.subject; object = f.object }

-- the fact that a record is of
abbrev pub fact_of : Record → Fact
fact_of r = record { predicate = r.predicate; subject = r.subject; object = r.object }

-- the head of an accepted bundle whose facts there is room for; refusals of rules, of the bundle, then 9
unfoldable pub hand_out : List ℕ → List ℕ → ℕ → Answer Facts
hand_out rules bundle room =
    opening rules bundle then λ i. cond (leb i.facts.count room) (Ok i.facts) (Err (refusal Room Call 0))

-- "The console receives the facts as a lent row of fact records": the records that are handed out
unfoldable pub hand_records : List ℕ → List ℕ → ℕ → Answer (List Record)
hand_records rules bundle room = over (λ b. map record_of (facts_of bundle b)) (hand_out rules bundle room)

-- handing the facts out: the answer, and the lent row afterwards
pub record Hands (rules bundle : List ℕ) (row : List Record) (r : Answer ℕ) (row' : List Record) : Type 0 where
  pub answer : r ≡ over length (hand_records rules bundle (length row))
  pub memory : row' ≡ laid row 0 (hand_records rules bundle (length row))

-- "and hands such a row back to be written": refusals of the rules, of the records, then 9; or the bundle's bytes
unfoldable pub write_row : List ℕ → ℕ → List Record → Answer (List ℕ)
write_row rules room row = check_rules rules then λ h. plan_records h room (map fact_of row)

-- writing a row: the answer, and the lent memory afterwards
pub record WritesRow (rules : List ℕ) (row : List Record) (out : List ℕ) (r : Answer ℕ) (out' : List ℕ) : Type 0 where
  pub answer : r ≡ over length (write_row rules (length out) row)
  pub memory : out' ≡ laid out 0 (write_row rules (length out) row)
