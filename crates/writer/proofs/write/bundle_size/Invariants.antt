use Rattle.std.proofs.Common.{◌≡◌, ◌+◌, length, map, drop}
use Rattle.site.specs.Lists.{each}
use Rattle.bundle.specs.Bundle.{fact_bytes, bundle_of}
use Rattle.writer.proofs.write.bundle_size.Given as goal

abbrev pub invariant-loop-record : goal.invariant-loop-record
invariant-loop-record g l =
    let of = g.R.HasFact.fact_of in
    l.size + length (each fact_bytes (map of (drop l.record-index l.records))) ≡ length (bundle_of (map of l.records))
