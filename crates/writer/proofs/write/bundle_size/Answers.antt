use Rattle.std.proofs.Common.{◌≡◌, length, map, ap, arith}
use Rattle.std.proofs.lemmas.List.{length-map}
use Rattle.number.specs.Number.{bytes_of}
use Rattle.writer.proofs.Left.{facts_on, facts_over}
use Rattle.writer.proofs.Laying.{bundle_size, bundle_small, size_on, size_over}
use Rattle.writer.proofs.write.bundle_size.Goals as goal

pub loop-record-init : goal.loop-record-init
loop-record-init g c =
    let facts = map g.R.HasFact.fact_of c.args.records.now in
    let many : length facts ≡ length c.args.records.now = length-map _ _ in
    omega (arith, bundle_size facts, c.size_of_number-size.ensures, ap (λ n. length (bytes_of n)) many)

pub overflow_add-size : goal.overflow_add-size
overflow_add-size g c =
    let facts = map g.R.HasFact.fact_of c.args.records.now in
    let many : length facts ≡ length c.args.records.now = length-map _ _ in
    let small = bundle_small facts (omega (arith, c.requires)) in
    let more = facts_on g.R.HasFact.fact_of _ _ _ _ c.record-item.is c.fact.ensures c.loop-record-test.true in
    record { fits = omega (arith, small, size_on _ _ _ more, c.fact_size-size.ensures, c.loop-record.invariant) }

pub loop-record-preserved : goal.loop-record-preserved
loop-record-preserved g c =
    let more = facts_on g.R.HasFact.fact_of _ _ _ _ c.record-item.is c.fact.ensures c.loop-record-test.true in
    omega (arith, size_on _ _ _ more, c.fact_size-size.ensures, c.loop-record.invariant)

pub returns : goal.returns
returns g c = omega (arith, size_over _ (facts_over g.R.HasFact.fact_of _ _ c.loop-record-test.false), c.loop-record.invariant)
