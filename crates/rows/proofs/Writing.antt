-- Writing a row: the rules are refused, or its records are written under their head.
use Prim.Native.Nat.{ℕ}
use mathlib.Core.Path.{◌≡◌, subst}
use mathlib.Core.List.{List, map}
use Rattle.std.specs.Prelude.{Ok, Err}
use Rattle.number.specs.Answer.{Answer}
use Rattle.number.specs.declared.refusal.Refusal.{Refusal}
use Rattle.rules.specs.RuleFile.{check_rules}
use Rattle.rule.specs.declared.head.Head.{Head}
use Rattle.writer.specs.Records.{within}
use Rattle.writer.specs.Stored.{WritesFacts}
use Rattle.writer.proofs.Within.{within_same}
use Rattle.records.specs.Rows.{fact_of, write_row, WritesRow}
use Rattle.records.proofs.OfRows.{few_roles}
use Rattle.records.specs.declared.record.Record.{Record}

module _ (rules : List ℕ) (row : List Record) (out : List ℕ) where
  pub rules_refused : (r : Refusal) → check_rules rules ≡ Err r → WritesRow rules row out (Err r) out
  unfolding write_row
  rules_refused r refused = record { answer = rw refused; memory = rw refused }

  -- a rule file's head is one that the writing leaves as it is
  pub row_written : (h : Head) → check_rules rules ≡ Ok h → (a : Answer ℕ) (out' : List ℕ) → WritesFacts (within h) (map fact_of row) out a out' → WritesRow rules row out a out'
  unfolding write_row
  row_written h accepted a out' writes =
      let w = subst (λ (k : Head). WritesFacts k (map fact_of row) out a out') (within_same h (few_roles rules h accepted)) writes in
      record { answer = rw accepted w.answer; memory = rw accepted w.memory }
