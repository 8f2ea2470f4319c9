use Rattle.operations.proofs.OfKeptBundle.{length_fits, kept_short, kept_done, kept_fits}
use Rattle.operations.proofs.files.Files.write_kept.Goals as goal

pub overflow_add-length : goal.overflow_add-length
overflow_add-length c =
    let e = c.cleaning-cleaning.ensures in
    length_fits _ _ _ _ c.args.self.now.accepted _ _ _ (rw (e.bundle, e.facts, e.excluded, e.functional) at c.measure_kept-measure.ensures) _ c.size_of_number.ensures

pub returns-then-out-length : goal.returns-then-out-length
returns-then-out-length c =
    let e = c.cleaning-cleaning.ensures in
    kept_short _ _ _ _ c.args.self.now.accepted _ _ _ (rw (e.bundle, e.facts, e.excluded, e.functional) at c.measure_kept-measure.ensures) _
    c.size_of_number.ensures _ c.fill.ensures _ c.if-out-length.true _ c.of_call.ensures

pub store_bundle-requires : goal.store_bundle-requires
store_bundle-requires c =
    let e = c.cleaning-cleaning.ensures in
    rw (e.bundle, e.facts, e.excluded, e.functional)
    (kept_fits _ _ _ _ c.args.self.now.accepted _ _ _ (rw (e.bundle, e.facts, e.excluded, e.functional) at c.measure_kept-measure.ensures) _
    c.size_of_number.ensures _ c.if-out-length.false)

pub returns : goal.returns
returns c =
    let e = c.cleaning-cleaning.ensures in
    kept_done _ _ _ _ c.args.self.now.accepted _ _ _ (rw (e.bundle, e.facts, e.excluded, e.functional) at c.measure_kept-measure.ensures) _
    c.size_of_number.ensures _ c.fill.ensures _ c.if-out-length.false _
    (rw (e.bundle, e.facts, e.excluded, e.functional) at c.store_bundle.ensures)
