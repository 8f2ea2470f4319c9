use Rattle.std.proofs.Common.{sym, ◌∙◌}
use Rattle.std.proofs.lemmas.Result.{err_from_is_err_and}
use Rattle.bundle.proofs.OfFacts.{predicate_refused, predicate_read}
use Rattle.bundle.proofs.one.read_fact.Goals as goal

pub returns-in_err-predicate : goal.returns-in_err-predicate
returns-in_err-predicate g c = λ k same.
    let p = err_from_is_err_and c.from_residual.result c.from_residual.ensures.1 in
    rw (p.1, p.2) (predicate_refused k c.args.s.now c.args.at _ (sym c.in_err-predicate.was ∙ c.read_tested.ensures k same))

pub returns : goal.returns
returns g c = λ k same. predicate_read k c.args.s.now c.args.at _ (sym c.in_ok-predicate.was ∙ c.read_tested.ensures k same) _ c.rest_of_fact.ensures
