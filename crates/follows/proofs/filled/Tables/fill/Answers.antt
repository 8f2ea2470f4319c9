use Rattle.steps.specs.Tables.{arrows_of}
use Rattle.follows.specs.Adding.{exclusions_of}
use Rattle.follows.proofs.Filling.{filled_start, filled_on, pairs_end, functionals_end}
use Rattle.follows.proofs.Telling.{filled_all}
use Rattle.follows.proofs.filled.Tables.fill.Goals as goal

pub loop-rule-init : goal.loop-rule-init
loop-rule-init c = rw (c.into_iter-rule-iterator.ensures.into_iter_gives, c.new-rule-items.ensures) (filled_start _ _ _)

pub loop-rule-preserved : goal.loop-rule-preserved
loop-rule-preserved c =
    let e = c.take_in.ensures in
    filled_on _ _ _ _ _ _ c.loop-rule.invariant _ _ c.in-Some.ensures.steps _ _ e.arrows e.onward e.exclusions e.functionals

pub returns : goal.returns
returns c =
    let so = c.loop-rule.invariant in
    let none = c.in-None.ensures.steps.0 in
    filled_all _ _ _ _ _ _ _ _ _ _ _ _ _ _ c.declared-d.ensures c.exclude.ensures (pairs_end _ _ none exclusions_of _ _ so.exclusions) c.requires.excluded
    c.close.ensures (pairs_end _ _ none arrows_of _ _ so.arrows) c.requires.included c.close-2.ensures c.add_rings.ensures
    (pairs_end _ _ none arrows_of _ _ so.onward) c.blank-on.ensures (functionals_end _ _ none _ so.functionals)
