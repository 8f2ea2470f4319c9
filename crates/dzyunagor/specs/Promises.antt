-- The promises of the library, one for each public operation: its answer as C sees it, and the lent memory afterwards, for all bytes, numbers
-- and lent memory. Each is an equation with document 01's definitions, so that one answer is left.
use Rattle.std.specs.Prelude.{ℕ, ◌≡◌, List, length}
use Rattle.number.specs.Answer.{over, laid}
use Rattle.rules.specs.RuleFile.{check_rules}
use Rattle.bundle.specs.Opened.{opening}
use Rattle.records.specs.Reading.{reader_start, reader_step}
use Rattle.records.specs.Rows.{hand_records, write_row}
use Rattle.records.specs.declared.record.Record.{Record}
use Rattle.rows.specs.declared.reader.Reader.{Reader}
use Rattle.clean.specs.Operations.{marking, counting, asking, having, joining, keeping}
use Rattle.shown.specs.Shown.{shown_counts, shown_asked, shown_answer, shown_length, shown_start, shown_yield}
use Rattle.shown.specs.declared.shapes.DzyCounts.{DzyCounts}
use Rattle.shown.specs.declared.shapes.DzyAsked.{DzyAsked}
use Rattle.shown.specs.declared.shapes.DzyAnswer.{DzyAnswer}
use Rattle.shown.specs.declared.shapes.DzyLength.{DzyLength}
use Rattle.shown.specs.declared.shapes.DzyStart.{DzyStart}
use Rattle.shown.specs.declared.shapes.DzyYield.{DzyYield}

-- reading the rules: how many they are
unfoldable pub CheckRules : List ℕ → DzyLength → Type 0
CheckRules rules r = r ≡ shown_length (over (λ h. h.rules) (check_rules rules))

-- reading both: how many facts there are
unfoldable pub CheckBundle : List ℕ → List ℕ → DzyLength → Type 0
CheckBundle rules bundle r = r ≡ shown_length (over (λ i. i.facts.count) (opening rules bundle))

-- marking: the counts, and both rows
pub record Mark (rules bundle row pair : List ℕ) (r : DzyCounts) (row' pair' : List ℕ) : Type 0 where
  pub answer : r ≡ shown_counts (over (λ m. m.counts) (marking rules bundle (length row) (length pair)))
  pub marks : row' ≡ laid row 0 (over (λ m. m.marks) (marking rules bundle (length row) (length pair)))
  pub partners : pair' ≡ laid pair 0 (over (λ m. m.partners) (marking rules bundle (length row) (length pair)))

-- counting
unfoldable pub Count : List ℕ → List ℕ → DzyCounts → Type 0
Count rules bundle r = r ≡ shown_counts (counting rules bundle)

-- one fact
unfoldable pub Ask : List ℕ → List ℕ → ℕ → DzyAsked → Type 0
Ask rules bundle n r = r ≡ shown_asked (asking rules bundle n)

-- "B of a", and "q from a to b"
unfoldable pub Has : List ℕ → List ℕ → ℕ → ℕ → DzyAnswer → Type 0
Has rules bundle code thing r = r ≡ shown_answer (having rules bundle code thing)

-- "q from a to b"
unfoldable pub Joins : List ℕ → List ℕ → ℕ → ℕ → ℕ → DzyAnswer → Type 0
Joins rules bundle code from to r = r ≡ shown_answer (joining rules bundle code from to)

-- the kept facts: their bundle's length, and the output
pub record WriteKept (rules bundle out : List ℕ) (r : DzyLength) (out' : List ℕ) : Type 0 where
  pub answer : r ≡ shown_length (over length (keeping rules bundle (length out)))
  pub memory : out' ≡ laid out 0 (keeping rules bundle (length out))

-- "The console receives the facts as a lent row of fact records": their count, and the row
pub record Records (rules bundle : List ℕ) (row : List Record) (r : DzyLength) (row' : List Record) : Type 0 where
  pub answer : r ≡ shown_length (over length (hand_records rules bundle (length row)))
  pub memory : row' ≡ laid row 0 (hand_records rules bundle (length row))

-- "and hands such a row back to be written": the bundle's length, and the output
pub record WriteRecords (rules : List ℕ) (row : List Record) (out : List ℕ) (r : DzyLength) (out' : List ℕ) : Type 0 where
  pub answer : r ≡ shown_length (over length (write_row rules (length out) row))
  pub memory : out' ≡ laid out 0 (write_row rules (length out) row)

-- "A reader that remembers the bundle and its next byte": its first next byte
unfoldable pub ReaderStart : List ℕ → List ℕ → DzyStart → Type 0
ReaderStart rules bundle r = r ≡ shown_start (reader_start rules bundle)

-- it "yields one fact at a time": what it yields, the same bundle, and its next byte afterwards
pub record ReaderNext (before : Reader) (r : DzyYield) (after : Reader) : Type 0 where
  pub answer : r ≡ shown_yield (reader_step before.src.now before.at).yields
  pub bundle : after.src ≡ before.src
  pub next : after.at ≡ (reader_step before.src.now before.at).next
