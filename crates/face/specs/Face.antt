-- The face: the code of each public operation meets its promise, wherever it is called. This page ties the promises to the functions: a
-- contract in crates/dzyunagor/src/lib.rt that says less, or that asks anything of its caller, does not fit here and is refused.
use seplogic.Ra.Ura.{Ura}
use prog.Model.{Model}
use prog.Wired.{Wired, Code}
use mir.Syntax.{Callee}
use types.Logic.{Logic}
use contract.Lifetimes.{Lfts}
use contract.Notation.{connectives}
use contract.Running.{Running}
use denote.Triple.Clauses.{Ended, AtExit}
use denote.Triple.Entry.{Args, Res}
use denote.Triple.Spec.{Meets, exits}
use Rattle.dzyunagor.specs.Promises.{CheckRules, CheckBundle, Mark, Count, Ask, Has, Joins, WriteKept, Records, WriteRecords, ReaderStart, ReaderNext}
use Rattle.dzyunagor.specs.contracts.dzy_check_rules as dzy_check_rules
use Rattle.dzyunagor.proofs.dzy_check_rules.Symbol as dzy_check_rules-code
use Rattle.dzyunagor.specs.contracts.dzy_check_bundle as dzy_check_bundle
use Rattle.dzyunagor.proofs.dzy_check_bundle.Symbol as dzy_check_bundle-code
use Rattle.dzyunagor.specs.contracts.dzy_mark as dzy_mark
use Rattle.dzyunagor.proofs.dzy_mark.Symbol as dzy_mark-code
use Rattle.dzyunagor.specs.contracts.dzy_count as dzy_count
use Rattle.dzyunagor.proofs.dzy_count.Symbol as dzy_count-code
use Rattle.dzyunagor.specs.contracts.dzy_ask as dzy_ask
use Rattle.dzyunagor.proofs.dzy_ask.Symbol as dzy_ask-code
use Rattle.dzyunagor.specs.contracts.dzy_has as dzy_has
use Rattle.dzyunagor.proofs.dzy_has.Symbol as dzy_has-code
use Rattle.dzyunagor.specs.contracts.dzy_joins as dzy_joins
use Rattle.dzyunagor.proofs.dzy_joins.Symbol as dzy_joins-code
use Rattle.dzyunagor.specs.contracts.dzy_write_kept as dzy_write_kept
use Rattle.dzyunagor.proofs.dzy_write_kept.Symbol as dzy_write_kept-code
use Rattle.dzyunagor.specs.contracts.dzy_records as dzy_records
use Rattle.dzyunagor.proofs.dzy_records.Symbol as dzy_records-code
use Rattle.dzyunagor.specs.contracts.dzy_write_records as dzy_write_records
use Rattle.dzyunagor.proofs.dzy_write_records.Symbol as dzy_write_records-code
use Rattle.dzyunagor.specs.contracts.dzy_reader_start as dzy_reader_start
use Rattle.dzyunagor.proofs.dzy_reader_start.Symbol as dzy_reader_start-code
use Rattle.dzyunagor.specs.contracts.dzy_reader_next as dzy_reader_next
use Rattle.dzyunagor.proofs.dzy_reader_next.Symbol as dzy_reader_next-code

-- "Every entry point takes arbitrary bytes, numbers and lent memory, and ends": in every model of the machine in which the function's code, with all that
-- it calls, stands under its name, what stands there ends, nothing being asked beside what its parameters' types own, and P holds of the arguments a, the
-- result r and what is lent, at the end e
abbrev pub Keeps : (T : Ended) → Code → Callee → ((κs : Lfts T.signature.lifetimes) → Args T.signature κs → Res T.signature κs → AtExit T κs → Type 0) → Type 2
Keeps T code name P =
    (M : Type 1) (𝓤 : Ura M) (𝓛 : Logic 𝓤) (𝓜 : Model 𝓤 𝓛.H) (𝓡 : Running 𝓤 𝓛.H 𝓜)
    → Wired 𝓡.env code
    → Meets 𝓛 T.signature (𝓡.run (𝓡.env name))
    (λ κs a. record {
      ghost = Unit {0};
      requires = λ _. (connectives 𝓤).⊤ₛ;
      ensures = λ _ r. exits 𝓛 T.signature T.kept κs a (λ e. (connectives 𝓤).⌜◌⌝ (P κs a r e));
    })

-- each function's parameters by their places: a.0 is the first, a.1.0 the second, a.1.1.0 the third
pub record Face : Type 2 where
  pub check_rules_lem : Keeps dzy_check_rules.ended dzy_check_rules-code.code dzy_check_rules-code.name (λ κs a r e. CheckRules a.0.now r)
  pub check_bundle_lem : Keeps dzy_check_bundle.ended dzy_check_bundle-code.code dzy_check_bundle-code.name (λ κs a r e. CheckBundle a.0.now a.1.0.now r)
  pub mark : Keeps dzy_mark.ended dzy_mark-code.code dzy_mark-code.name (λ κs a r e. Mark a.0.now a.1.0.now a.1.1.0.now a.1.1.1.0.now r e.1.1.0.now e.1.1.1.0.now)
  pub count : Keeps dzy_count.ended dzy_count-code.code dzy_count-code.name (λ κs a r e. Count a.0.now a.1.0.now r)
  pub ask : Keeps dzy_ask.ended dzy_ask-code.code dzy_ask-code.name (λ κs a r e. Ask a.0.now a.1.0.now a.1.1.0 r)
  pub has : Keeps dzy_has.ended dzy_has-code.code dzy_has-code.name (λ κs a r e. Has a.0.now a.1.0.now a.1.1.0 a.1.1.1.0 r)
  pub joins : Keeps dzy_joins.ended dzy_joins-code.code dzy_joins-code.name (λ κs a r e. Joins a.0.now a.1.0.now a.1.1.0 a.1.1.1.0 a.1.1.1.1.0 r)
  pub write_kept : Keeps dzy_write_kept.ended dzy_write_kept-code.code dzy_write_kept-code.name (λ κs a r e. WriteKept a.0.now a.1.0.now a.1.1.0.now r e.1.1.0.now)
  pub records : Keeps dzy_records.ended dzy_records-code.code dzy_records-code.name (λ κs a r e. Records a.0.now a.1.0.now a.1.1.0.now r e.1.1.0.now)
  pub write_records : Keeps dzy_write_records.ended dzy_write_records-code.code dzy_write_records-code.name (λ κs a r e. WriteRecords a.0.now a.1.0.now a.1.1.0.now r e.1.1.0.now)
  pub reader_start_lem : Keeps dzy_reader_start.ended dzy_reader_start-code.code dzy_reader_start-code.name (λ κs a r e. ReaderStart a.0.now a.1.0.now r)
  pub reader_next : Keeps dzy_reader_next.ended dzy_reader_next-code.code dzy_reader_next-code.name (λ κs a r e. ReaderNext a.0.now r e.0.now)
