use Rattle.std.proofs.Common.{inl, sym, ap, ◌∙◌, arith}
use Rattle.std.proofs.lemmas.Result.{err_from_is_err_and}
use Rattle.bundle.specs.Told.{facts_left}
use Rattle.bundle.specs.declared.facts.FactsOf.{FactsOf}
use Rattle.rows.proofs.Filling.{hands_nothing, fill_starts, fill_small, fill_ends, fill_within, fill_on}
use Rattle.rows.proofs.handing.hand_records.Goals as goal

pub returns-in_err-facts : goal.returns-in_err-facts
returns-in_err-facts c =
    let p = err_from_is_err_and c.from_residual.result c.from_residual.ensures.1 in
    rw (p.1, p.2) (hands_nothing _ _ _ _ (sym c.decide.ensures ∙ c.in_err-facts.was))

pub loop-i-init : goal.loop-i-init
loop-i-init c =
    let given = sym c.decide.ensures ∙ c.in_ok-facts.was in
    let left = ap (λ (w : FactsOf). facts_left w) c.enumerate-i-items.ensures.source ∙ c.new.ensures in
    let from = c.enumerate-i-items.result in
    let start = fill_starts c.args.rules.now c.args.bundle.now c.args.row.now _ given from.count (facts_left from.iter) c.enumerate-i-items.ensures.count left in
    let small = fill_small _ _ _ _ given _ _ _ start in
    rw c.into_iter-i-iterator.ensures.into_iter_gives ((tt, tt, inl (omega (arith, small))), tt, start)

pub offset_bounds-row-i : goal.offset_bounds-row-i
offset_bounds-row-i c =
    let small = fill_small _ _ _ _ (sym c.decide.ensures ∙ c.in_ok-facts.was) _ _ _ c.loop-i.invariant.2 in
    record { fits = omega (arith, small, c.in-Some.ensures.steps.1) }

pub bounds-row-i : goal.bounds-row-i
bounds-row-i c =
    let within = fill_within _ _ _ _ (sym c.decide.ensures ∙ c.in_ok-facts.was) _ _ _ c.loop-i.invariant.2 _ _ c.in-Some.ensures.steps.0 in
    rw c.in-Some.ensures.steps.1 within

pub loop-i-preserved : goal.loop-i-preserved
loop-i-preserved c =
    let given = sym c.decide.ensures ∙ c.in_ok-facts.was in
    let steps = c.in-Some.ensures.steps in
    let on = fill_on _ _ _ _ given _ _ _ c.loop-i.invariant.2 _ _ steps.0 _ _ steps.2 c.from.ensures in
    let small = fill_small _ _ _ _ given _ _ _ on in
    ((tt, tt, inl (omega (arith, small))), tt, rw steps.1 on)

pub returns : goal.returns
returns c = fill_ends _ _ _ _ (sym c.decide.ensures ∙ c.in_ok-facts.was) _ _ _ c.loop-i.invariant.2 c.in-None.ensures.steps.0.0
