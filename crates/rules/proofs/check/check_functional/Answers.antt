use Rattle.std.proofs.Common.{sym, ◌∙◌}
use Rattle.std.proofs.lemmas.Result.{err_from_is_err_and}
use Rattle.rules.proofs.Checking.{checking, unbroken_refused, unbroken_again}
use Rattle.rules.proofs.check.check_functional.Goals as goal

pub loop-i-init : goal.loop-i-init
loop-i-init c = search checking

pub returns-in_err-at : goal.returns-in_err-at
returns-in_err-at c =
    let p = err_from_is_err_and c.from_residual.result c.from_residual.ensures.1 in
    rw (p.1, p.2) (sym (unbroken_refused _ _ _ _ _ _ _ c.loop-i.invariant c.loop-i-test.true _ c.next_unbroken.ensures _ (sym c.about.ensures ∙ c.in_err-at.was)))

pub loop-i-preserved : goal.loop-i-preserved
loop-i-preserved c =
    unbroken_again _ _ _ _ _ _ _ c.loop-i.invariant c.loop-i-test.true _ c.next_unbroken.ensures _ (sym c.about.ensures ∙ c.in_ok-at.was)

pub returns : goal.returns
returns c = search checking
