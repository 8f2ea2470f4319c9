use Rattle.std.proofs.Common.{map, drop}
use Rattle.writer.proofs.Laying.{Laying}
use Rattle.writer.proofs.write.store_facts.Given as goal

abbrev pub invariant-loop-record : goal.invariant-loop-record
invariant-loop-record g l =
    let of = g.R.HasFact.fact_of in
    Laying l.fn.out (map of l.records) l.out l.at (map of (drop l.record-index l.records))
