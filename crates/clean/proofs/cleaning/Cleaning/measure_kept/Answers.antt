use Rattle.std.proofs.Common.{sym, ◌∙◌, arith}
use Rattle.clean.proofs.OfSearch.{few_facts}
use Rattle.clean.proofs.OfKeeping.{fact_short, measure_start, measure_small, measure_kept, measure_dropped, measure_ends}
use Rattle.clean.proofs.cleaning.Cleaning.measure_kept.Goals as goal

pub loop-f-init : goal.loop-f-init
loop-f-init c = rw c.into_iter-f-iterator.ensures.into_iter_gives (measure_start _ _ _ c.facts-f-items.ensures)

pub overflow_add-measure : goal.overflow_add-measure
overflow_add-measure c =
    let small = measure_small _ _ _ _ c.loop-f.invariant _ _ c.in-Some.ensures.steps (few_facts c.args.self.now.bundle.now c.args.self.now.facts c.args.self.now.few) in
    record { fits = omega (arith, small.0) }

pub overflow_add-measure-then-is_kept : goal.overflow_add-measure-then-is_kept
overflow_add-measure-then-is_kept c =
    let small = measure_small _ _ _ _ c.loop-f.invariant _ _ c.in-Some.ensures.steps (few_facts c.args.self.now.bundle.now c.args.self.now.facts c.args.self.now.few) in
    record { fits = omega (arith, small.1, c.fact_size.ensures, fact_short c.in-Some.f) }

pub loop-f-preserved-then-is_kept : goal.loop-f-preserved-then-is_kept
loop-f-preserved-then-is_kept c =
    rw c.fact_size.ensures (measure_kept _ _ _ _ c.loop-f.invariant _ _ c.in-Some.ensures.steps (sym c.if-is_kept.true ∙ c.is_kept.ensures))

pub loop-f-preserved : goal.loop-f-preserved
loop-f-preserved c = measure_dropped _ _ _ _ c.loop-f.invariant _ _ c.in-Some.ensures.steps (sym c.if-is_kept.false ∙ c.is_kept.ensures)

pub returns : goal.returns
returns c = measure_ends _ _ _ _ c.loop-f.invariant c.in-None.ensures.steps.0
