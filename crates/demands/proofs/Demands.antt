-- The three demands hold.
use Rattle.face.proofs.TheFace.{the_face}
use Rattle.demands.specs.Demands.{Demands}
use Rattle.demands.proofs.AsDocument01.{as_document_01}
use Rattle.demands.proofs.Exactly.{refuses_exactly}
use Rattle.demands.proofs.Files.{read_or_refused}
use Rattle.demands.proofs.FirstDemand.{one_answer, writes_nothing, over_limits}
use Rattle.demands.proofs.ReaderYields.{reader_yields}
use Rattle.demands.proofs.RoundTrips.{round_trips}
use Rattle.demands.proofs.ThirdDemand.{worlds_decide}

pub the_demands : Demands
the_demands =
    record {
      face = the_face;
      one_answer = one_answer;
      writes_nothing = writes_nothing;
      read_or_refused = read_or_refused;
      refuses_exactly = refuses_exactly;
      over_limits = over_limits;
      as_document_01 = as_document_01;
      round_trips = round_trips;
      reader_yields = reader_yields;
      worlds_decide = worlds_decide;
    }
