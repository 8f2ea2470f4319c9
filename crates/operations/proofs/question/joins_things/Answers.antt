use Rattle.std.proofs.lemmas.Result.{err_from_is_err_and}
use Rattle.operations.proofs.OfOperations.{joins_refused}
use Rattle.operations.proofs.question.joins_things.Goals as goal

pub returns-in_err-open : goal.returns-in_err-open
returns-in_err-open c =
    let p = err_from_is_err_and c.from_residual.result c.from_residual.ensures.1 in
    rw (p.1, p.2) (joins_refused _ _ _ c.in_err-open.ensures.refused _ _ _)
