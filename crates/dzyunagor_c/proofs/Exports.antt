-- The exports: the code of each function that C calls meets the promise of the library's function of the same name. This page ties the promises to the
-- functions that C calls: a contract in crates/dzyunagor_c/src/lib.rt that says less, or that asks anything of its caller, does not fit here and is refused.
use Rattle.dzyunagor.specs.Promises.{CheckRules, CheckBundle, Mark, Count, Ask, Has, Joins, WriteKept, Records, WriteRecords, ReaderStart, ReaderNext}
use Rattle.face.specs.Face.{Keeps}
use Rattle.demands.specs.Demands.{Demands}
use Rattle.dzyunagor_c.specs.contracts.dzy_check_rules as dzy_check_rules
use Rattle.dzyunagor_c.proofs.dzy_check_rules.Symbol as dzy_check_rules-code
use Rattle.dzyunagor_c.specs.contracts.dzy_check_bundle as dzy_check_bundle
use Rattle.dzyunagor_c.proofs.dzy_check_bundle.Symbol as dzy_check_bundle-code
use Rattle.dzyunagor_c.specs.contracts.dzy_mark as dzy_mark
use Rattle.dzyunagor_c.proofs.dzy_mark.Symbol as dzy_mark-code
use Rattle.dzyunagor_c.specs.contracts.dzy_count as dzy_count
use Rattle.dzyunagor_c.proofs.dzy_count.Symbol as dzy_count-code
use Rattle.dzyunagor_c.specs.contracts.dzy_ask as dzy_ask
use Rattle.dzyunagor_c.proofs.dzy_ask.Symbol as dzy_ask-code
use Rattle.dzyunagor_c.specs.contracts.dzy_has as dzy_has
use Rattle.dzyunagor_c.proofs.dzy_has.Symbol as dzy_has-code
use Rattle.dzyunagor_c.specs.contracts.dzy_joins as dzy_joins
use Rattle.dzyunagor_c.proofs.dzy_joins.Symbol as dzy_joins-code
use Rattle.dzyunagor_c.specs.contracts.dzy_write_kept as dzy_write_kept
use Rattle.dzyunagor_c.proofs.dzy_write_kept.Symbol as dzy_write_kept-code
use Rattle.dzyunagor_c.specs.contracts.dzy_records as dzy_records
use Rattle.dzyunagor_c.proofs.dzy_records.Symbol as dzy_records-code
use Rattle.dzyunagor_c.specs.contracts.dzy_write_records as dzy_write_records
use Rattle.dzyunagor_c.proofs.dzy_write_records.Symbol as dzy_write_records-code
use Rattle.dzyunagor_c.specs.contracts.dzy_reader_start as dzy_reader_start
use Rattle.dzyunagor_c.proofs.dzy_reader_start.Symbol as dzy_reader_start-code
use Rattle.dzyunagor_c.specs.contracts.dzy_reader_next as dzy_reader_next
use Rattle.dzyunagor_c.proofs.dzy_reader_next.Symbol as dzy_reader_next-code

-- each function's parameters by their places: a.0 is the first, a.1.0 the second, a.1.1.0 the third
pub record Exports : Type 2 where
  pub check_rules_lem : Keeps dzy_check_rules.ended dzy_check_rules-code.code dzy_check_rules-code.name (λ κs a r e. CheckRules a.0.now r)
  pub check_bundle_lem : Keeps dzy_check_bundle.ended dzy_check_bundle-code.code dzy_check_bundle-code.name (λ κs a r e. CheckBundle a.0.now a.1.0.now r)
  pub mark : Keeps dzy_mark.ended dzy_mark-code.code dzy_mark-code.name (λ κs a r e. Mark a.0.now a.1.0.now a.1.1.0.now a.1.1.1.0.now r e.1.1.0.now e.1.1.1.0.now)
  pub count : Keeps dzy_count.ended dzy_count-code.code dzy_count-code.name (λ κs a r e. Count a.0.now a.1.0.now r)
  pub ask : Keeps dzy_ask.ended dzy_ask-code.code dzy_ask-code.name (λ κs a r e. Ask a.0.now a.1.0.now a.1.1.0 r)
  pub has : Keeps dzy_has.ended dzy_has-code.code dzy_has-code.name (λ κs a r e. Has a.0.now a.1.0.now a.1.1.0 a.1.1.1.0 r)
  pub joins : Keeps dzy_joins.ended dzy_joins-code.code dzy_joins-code.name (λ κs a r e. Joins a.0.now a.1.0.now a.1.1.0 a.1.1.1.0 a.1.1.1.1.0 r)
  pub write_kept : Keeps dzy_write_kept.ended dzy_write_kept-code.code dzy_write_kept-code.name (λ κs a r e. WriteKept a.0.now a.1.0.now a.1.1.0.now r e.1.1.0.now)
  pub records : Keeps dzy_records.ended dzy_records-code.code dzy_records-code.name (λ κs a r e. Records a.0.now a.1.0.now a.1.1.0.now r e.1.1.0.now)
  pub write_records : Keeps dzy_write_records.ended dzy_write_records-code.code dzy_write_records-code.name (λ κs a r e. WriteRecords a.0.now a.1.0.now a.1.1.0.now r e.1.1.0.now)
  pub reader_start_lem : Keeps dzy_reader_start.ended dzy_reader_start-code.code dzy_reader_start-code.name (λ κs a r e. ReaderStart a.0.now a.1.0.now r)
  pub reader_next : Keeps dzy_reader_next.ended dzy_reader_next-code.code dzy_reader_next-code.name (λ κs a r e. ReaderNext a.0.now r e.0.now)

-- the three demands, of the functions that C calls: their code keeps the promises, and what is promised is what is demanded
pub record DemandsOfC : Type 2 where
  pub exports : Exports
  pub demands : Demands
