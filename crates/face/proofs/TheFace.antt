-- The face keeps its promises: each function's own proof is the statement.
use Rattle.dzyunagor.proofs.dzy_check_rules.Met as dzy_check_rules
use Rattle.dzyunagor.proofs.dzy_check_bundle.Met as dzy_check_bundle
use Rattle.dzyunagor.proofs.dzy_mark.Met as dzy_mark
use Rattle.dzyunagor.proofs.dzy_count.Met as dzy_count
use Rattle.dzyunagor.proofs.dzy_ask.Met as dzy_ask
use Rattle.dzyunagor.proofs.dzy_has.Met as dzy_has
use Rattle.dzyunagor.proofs.dzy_joins.Met as dzy_joins
use Rattle.dzyunagor.proofs.dzy_write_kept.Met as dzy_write_kept
use Rattle.dzyunagor.proofs.dzy_records.Met as dzy_records
use Rattle.dzyunagor.proofs.dzy_write_records.Met as dzy_write_records
use Rattle.dzyunagor.proofs.dzy_reader_start.Met as dzy_reader_start
use Rattle.dzyunagor.proofs.dzy_reader_next.Met as dzy_reader_next
use Rattle.face.specs.Face.{Face}

pub the_face : Face
the_face =
    record {
      check_rules_lem = λ M. dzy_check_rules.met;
      check_bundle_lem = λ M. dzy_check_bundle.met;
      mark = λ M. dzy_mark.met;
      count = λ M. dzy_count.met;
      ask = λ M. dzy_ask.met;
      has = λ M. dzy_has.met;
      joins = λ M. dzy_joins.met;
      write_kept = λ M. dzy_write_kept.met;
      records = λ M. dzy_records.met;
      write_records = λ M. dzy_write_records.met;
      reader_start_lem = λ M. dzy_reader_start.met;
      reader_next = λ M. dzy_reader_next.met;
    }
