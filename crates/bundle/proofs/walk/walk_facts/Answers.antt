use Rattle.std.proofs.Common.{sym, ap, ◌∙◌}
use Rattle.std.proofs.lemmas.Result.{err_from_is_err_and}
use Rattle.number.specs.Answer.{about, over}
use Rattle.site.proofs.Numbered.{walk_ends, walk_refused, walk_on}
use Rattle.bundle.specs.declared.walk.Stand.{Stand}
use Rattle.bundle.proofs.walk.walk_facts.Goals as goal

pub returns-in_err-here : goal.returns-in_err-here
returns-in_err-here c =
    let p = err_from_is_err_and c.from_residual.result c.from_residual.ensures.1 in
    let read = ap (about c.loop-i.i) (sym c.next_fact.ensures) ∙ sym c.about.ensures ∙ c.in_err-here.was in
    rw (p.1, p.2) (ap (over (λ (end : Stand). end.at)) (sym (walk_refused _ _ _ _ _ c.loop-i.invariant c.loop-i-test.true _ read)))

pub loop-i-preserved : goal.loop-i-preserved
loop-i-preserved c =
    walk_on _ _ _ _ _ c.loop-i.invariant c.loop-i-test.true _ (ap (about c.loop-i.i) (sym c.next_fact.ensures) ∙ sym c.about.ensures ∙ c.in_ok-here.was)

pub returns : goal.returns
returns c = ap (over (λ (end : Stand). end.at)) (sym (walk_ends _ _ _ _ _ c.loop-i.invariant c.loop-i-test.false))
