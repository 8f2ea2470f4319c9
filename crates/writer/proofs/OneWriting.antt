-- Writing leaves one answer, and one content of the lent memory.
use Prim.Native.Nat.{ℕ}
use mathlib.Core.List.{List}
use Rattle.number.specs.Answer.{Answer}
use Rattle.number.proofs.One.{one, Same}
use Rattle.site.specs.declared.fact.Fact.{Fact}
use Rattle.rule.specs.declared.head.Head.{Head}
use Rattle.writer.specs.Stored.{WritesFacts}

pub one_answer : (h : Head) (records : List Fact) (out : List ℕ) (r r₂ : Answer ℕ) (out' out₂' : List ℕ)
    → WritesFacts h records out r out' → WritesFacts h records out r₂ out₂' → Same r r₂ out' out₂'
one_answer h records out r r₂ out' out₂' w w₂ = record { answer = one w.answer w₂.answer; memory = one w.memory w₂.memory }
