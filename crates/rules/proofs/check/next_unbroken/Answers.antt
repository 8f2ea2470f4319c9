use Rattle.std.proofs.lemmas.Result.{err_from_is_err_and}
use Rattle.rules.proofs.Checking.{checking, broken_refused}
use Rattle.rules.proofs.check.next_unbroken.Goals as goal

pub returns-in_err-rule : goal.returns-in_err-rule
returns-in_err-rule c =
    let p = err_from_is_err_and c.from_residual.result c.from_residual.ensures.1 in
    rw (p.1, p.2) (broken_refused _ _ _ _ _ c.rule_at.ensures _ c.in_err-rule.was)

pub returns-then-is_broken : goal.returns-then-is_broken
returns-then-is_broken c = search checking

pub returns : goal.returns
returns c = search checking
