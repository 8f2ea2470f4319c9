-- Every contract leaves one answer: a start, a step of a place or of a reader, the handing out and the writing, each with the lent memory afterwards.
use Prim.Native.Nat.{ℕ}
use mathlib.Core.Path.{◌≡◌}
use mathlib.Core.List.{List}
use Rattle.std.specs.Prelude.{Option}
use Rattle.number.specs.Answer.{Answer}
use Rattle.number.proofs.One.{one, Same}
use Rattle.site.specs.declared.fact.Fact.{Fact}
use Rattle.records.specs.Reading.{reader_start, reader_step}
use Rattle.records.specs.Rows.{Hands, WritesRow}
use Rattle.records.specs.declared.record.Record.{Record}
use Rattle.records.specs.declared.step.Step.{Step}
use Rattle.rows.specs.Stepping.{Steps}
use Rattle.rows.specs.declared.reader.Reader.{Reader}

-- a start, and a step of a place
pub one_start : (rules bundle : List ℕ) (r r' : Answer ℕ) → r ≡ reader_start rules bundle → r' ≡ reader_start rules bundle → r ≡ r'
one_start rules bundle r r' e e' = one e e'

pub one_step : (bundle : List ℕ) (at : ℕ) (r r' : Step) → r ≡ reader_step bundle at → r' ≡ reader_step bundle at → r ≡ r'
one_step bundle at r r' e e' = one e e'

-- a step of a reader: the yield, and the reader afterwards
pub record SameStep (y y' : Answer (Option Fact)) (after after' : Reader) : Type 0 where
  pub yields : y ≡ y'
  pub reader : after ≡ after'

pub one_reader_step : (before : Reader) (y y' : Answer (Option Fact)) (after after' : Reader) → Steps before y after → Steps before y' after' → SameStep y y' after after'
one_reader_step before y y' after after' s t =
    let src : after.src ≡ after'.src = one s.bundle t.bundle in
    let at : after.at ≡ after'.at = one s.next t.next in
    record { yields = one s.yields t.yields; reader = λ i. record { src = src i; at = at i } }

-- handing out: the answer, and the row afterwards
pub one_handing : (rules bundle : List ℕ) (row : List Record) (r r' : Answer ℕ) (row₁ row₂ : List Record) → Hands rules bundle row r row₁ → Hands rules bundle row r' row₂ → Same r r' row₁ row₂
one_handing rules bundle row r r' row₁ row₂ h k = record { answer = one h.answer k.answer; memory = one h.memory k.memory }

-- writing: the answer, and the output afterwards
pub one_writing : (rules : List ℕ) (row : List Record) (out : List ℕ) (r r' : Answer ℕ) (out₁ out₂ : List ℕ) → WritesRow rules row out r out₁ → WritesRow rules row out r' out₂ → Same r r' out₁ out₂
one_writing rules row out r r' out₁ out₂ h k = record { answer = one h.answer k.answer; memory = one h.memory k.memory }
