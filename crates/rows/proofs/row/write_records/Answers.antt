use Rattle.std.proofs.Common.{sym, ◌∙◌}
use Rattle.std.proofs.lemmas.Result.{err_from_is_err_and}
use Rattle.rows.proofs.Writing.{rules_refused, row_written}
use Rattle.rows.proofs.row.write_records.Goals as goal

pub returns-in_err-head : goal.returns-in_err-head
returns-in_err-head c =
    let p = err_from_is_err_and c.from_residual.result c.from_residual.ensures.1 in
    rw (p.1, p.2) (rules_refused _ _ _ _ (sym c.check_rules.ensures ∙ c.in_err-head.was))

pub returns : goal.returns
returns c = row_written _ _ _ _ (sym c.check_rules.ensures ∙ c.in_ok-head.was) _ _ c.write_facts.ensures
