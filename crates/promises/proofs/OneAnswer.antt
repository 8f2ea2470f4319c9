-- Each promise leaves one answer only, lent memory included: two outcomes that are equal to the same definition are equal.
use Prim.Native.Nat.{ℕ}
use mathlib.Core.Path.{◌≡◌}
use mathlib.Core.List.{List}
use Rattle.number.proofs.One.{one, Same}
use Rattle.records.specs.declared.record.Record.{Record}
use Rattle.rows.specs.declared.reader.Reader.{Reader}
use Rattle.shown.specs.declared.shapes.DzyCounts.{DzyCounts}
use Rattle.shown.specs.declared.shapes.DzyAsked.{DzyAsked}
use Rattle.shown.specs.declared.shapes.DzyAnswer.{DzyAnswer}
use Rattle.shown.specs.declared.shapes.DzyLength.{DzyLength}
use Rattle.shown.specs.declared.shapes.DzyStart.{DzyStart}
use Rattle.shown.specs.declared.shapes.DzyYield.{DzyYield}
use Rattle.dzyunagor.specs.Promises.{CheckRules, CheckBundle, Mark, Count, Ask, Has, Joins, WriteKept, Records, WriteRecords, ReaderStart, ReaderNext}

module _ (rules : List ℕ) where
  pub one_check_rules : {r r' : DzyLength} → CheckRules rules r → CheckRules rules r' → r ≡ r'
  unfolding CheckRules
  one_check_rules p q = one p q

  module _ (bundle : List ℕ) where
    pub one_check_bundle : {r r' : DzyLength} → CheckBundle rules bundle r → CheckBundle rules bundle r' → r ≡ r'
    unfolding CheckBundle
    one_check_bundle p q = one p q

    pub one_count : {r r' : DzyCounts} → Count rules bundle r → Count rules bundle r' → r ≡ r'
    unfolding Count
    one_count p q = one p q

    pub one_ask : (n : ℕ) {r r' : DzyAsked} → Ask rules bundle n r → Ask rules bundle n r' → r ≡ r'
    unfolding Ask
    one_ask n p q = one p q

    pub one_has : (code thing : ℕ) {r r' : DzyAnswer} → Has rules bundle code thing r → Has rules bundle code thing r' → r ≡ r'
    unfolding Has
    one_has code thing p q = one p q

    pub one_joins : (code from to : ℕ) {r r' : DzyAnswer} → Joins rules bundle code from to r → Joins rules bundle code from to r' → r ≡ r'
    unfolding Joins
    one_joins code from to p q = one p q

    -- with lent memory
    pub record SameMarks (r r' : DzyCounts) (row row' pair pair' : List ℕ) : Type 0 where
      pub answer : r ≡ r'
      pub marks : row ≡ row'
      pub partners : pair ≡ pair'

    pub one_mark : (row pair : List ℕ) {r r' : DzyCounts} {row₁ row₂ pair₁ pair₂ : List ℕ} → Mark rules bundle row pair r row₁ pair₁ → Mark rules bundle row pair r' row₂ pair₂
        → SameMarks r r' row₁ row₂ pair₁ pair₂
    one_mark row pair p q =
        record { answer = one p.answer q.answer; marks = one p.marks q.marks; partners = one p.partners q.partners }

    pub one_write_kept : (out : List ℕ) {r r' : DzyLength} {out₁ out₂ : List ℕ} → WriteKept rules bundle out r out₁ → WriteKept rules bundle out r' out₂ → Same r r' out₁ out₂
    one_write_kept out p q = record { answer = one p.answer q.answer; memory = one p.memory q.memory }

    pub one_records : (row : List Record) {r r' : DzyLength} {row₁ row₂ : List Record} → Records rules bundle row r row₁ → Records rules bundle row r' row₂ → Same r r' row₁ row₂
    one_records row p q = record { answer = one p.answer q.answer; memory = one p.memory q.memory }

    pub one_reader_start : {r r' : DzyStart} → ReaderStart rules bundle r → ReaderStart rules bundle r' → r ≡ r'
    unfolding ReaderStart
    one_reader_start p q = one p q

  pub one_write_records : (row : List Record) (out : List ℕ) {r r' : DzyLength} {out₁ out₂ : List ℕ} → WriteRecords rules row out r out₁ → WriteRecords rules row out r' out₂ → Same r r' out₁ out₂
  one_write_records row out p q = record { answer = one p.answer q.answer; memory = one p.memory q.memory }

-- a reader: what it yields, and the reader afterwards
pub record SameStep (r r' : DzyYield) (after after' : Reader) : Type 0 where
  pub answer : r ≡ r'
  pub reader : after ≡ after'

pub one_reader_next : (before : Reader) {r r' : DzyYield} {after₁ after₂ : Reader} → ReaderNext before r after₁ → ReaderNext before r' after₂ → SameStep r r' after₁ after₂
one_reader_next before {after₁ = after₁} {after₂ = after₂} p q =
    let src : after₁.src ≡ after₂.src = one p.bundle q.bundle in
    let at : after₁.at ≡ after₂.at = one p.next q.next in
    record { answer = one p.answer q.answer; reader = λ i. record { src = src i; at = at i } }
