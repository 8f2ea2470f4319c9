use Rattle.std.proofs.Common.{sym, ◌∙◌}
use Rattle.clean.proofs.OfKeeping.{first_small, storing_start, storing_fits, storing_kept, storing_dropped, storing_ends}
use Rattle.clean.proofs.cleaning.Cleaning.store_kept.Goals as goal

pub loop-f-init : goal.loop-f-init
loop-f-init c = rw c.into_iter-f-iterator.ensures.into_iter_gives (storing_start _ _ _ c.facts-f-items.ensures _ _)

pub write_fact-place-requires : goal.write_fact-place-requires
write_fact-place-requires c =
    let one = c.in-Some.ensures.steps in
    storing_fits _ _ _ _ _ _ _ c.loop-f.invariant _ _ one c.requires (first_small _ _ _ _ _ one) (sym c.if-is_kept.true ∙ c.is_kept.ensures)

pub loop-f-preserved-then-is_kept : goal.loop-f-preserved-then-is_kept
loop-f-preserved-then-is_kept c =
    storing_kept _ _ _ _ _ _ _ c.loop-f.invariant _ _ c.in-Some.ensures.steps (sym c.if-is_kept.true ∙ c.is_kept.ensures) _ _ c.write_fact-place.ensures

pub loop-f-preserved : goal.loop-f-preserved
loop-f-preserved c = storing_dropped _ _ _ _ _ _ _ c.loop-f.invariant _ _ c.in-Some.ensures.steps (sym c.if-is_kept.false ∙ c.is_kept.ensures)

pub returns : goal.returns
returns c = storing_ends _ _ _ _ _ _ _ c.loop-f.invariant c.in-None.ensures.steps.0
