use Rattle.std.proofs.lemmas.Result.{err_from_is_err_and}
use Rattle.operations.proofs.OfOperations.{ask_refused}
use Rattle.operations.proofs.mark.ask_fact.Goals as goal

pub returns-in_err-open : goal.returns-in_err-open
returns-in_err-open c =
    let p = err_from_is_err_and c.from_residual.result c.from_residual.ensures.1 in
    rw (p.1, p.2) (ask_refused _ _ _ c.in_err-open.ensures.refused _)
