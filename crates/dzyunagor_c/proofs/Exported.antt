-- The exports keep their promises: each function's own proof is the statement. With the demands on those promises, that is all that C is promised.
use Rattle.dzyunagor_c.proofs.dzy_check_rules.Met as dzy_check_rules
use Rattle.dzyunagor_c.proofs.dzy_check_bundle.Met as dzy_check_bundle
use Rattle.dzyunagor_c.proofs.dzy_mark.Met as dzy_mark
use Rattle.dzyunagor_c.proofs.dzy_count.Met as dzy_count
use Rattle.dzyunagor_c.proofs.dzy_ask.Met as dzy_ask
use Rattle.dzyunagor_c.proofs.dzy_has.Met as dzy_has
use Rattle.dzyunagor_c.proofs.dzy_joins.Met as dzy_joins
use Rattle.dzyunagor_c.proofs.dzy_write_kept.Met as dzy_write_kept
use Rattle.dzyunagor_c.proofs.dzy_records.Met as dzy_records
use Rattle.dzyunagor_c.proofs.dzy_write_records.Met as dzy_write_records
use Rattle.dzyunagor_c.proofs.dzy_reader_start.Met as dzy_reader_start
use Rattle.dzyunagor_c.proofs.dzy_reader_next.Met as dzy_reader_next
use Rattle.demands.proofs.Demands.{the_demands}
use Rattle.dzyunagor_c.proofs.Exports.{Exports, DemandsOfC}

pub the_exports : Exports
the_exports =
    record {
      check_rules_lem = λ M. dzy_check_rules.met;
      check_bundle_lem = λ M. dzy_check_bundle.met;
      mark = λ M. dzy_mark.met;
      count = λ M. dzy_count.met;
      ask = λ M. dzy_ask.met;
      has = λ M. dzy_has.met;
      joins = λ M. dzy_joins.met;
      write_kept = λ M. dzy_write_kept.met;
      records = λ M. dzy_records.met;
      write_records = λ M. dzy_write_records.met;
      reader_start_lem = λ M. dzy_reader_start.met;
      reader_next = λ M. dzy_reader_next.met;
    }

pub the_demands_of_c : DemandsOfC
the_demands_of_c = record { exports = the_exports; demands = the_demands }
