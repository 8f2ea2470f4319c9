use Rattle.std.proofs.Common.{◌≡◌, None, map, drop}
use Rattle.writer.specs.Records.{within, records_from}
use Rattle.writer.proofs.judge.judge_records.Given as goal

abbrev pub invariant-loop-i : goal.invariant-loop-i
invariant-loop-i g l =
    let of = g.R.HasFact.fact_of in
    records_from (within l.head) l.last l.i (map of (drop l.i l.records)) ≡ records_from (within l.head) None 0 (map of l.records)
