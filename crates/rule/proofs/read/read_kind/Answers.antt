use Rattle.std.proofs.Common.{sym, ◌∙◌}
use Rattle.rule.proofs.OfKinds.{kind_refused, kind_known, kind_unknown}
use Rattle.rule.proofs.read.read_kind.Goals as goal

pub returns-in_default : goal.returns-in_default
returns-in_default c = kind_refused _ _ _ (sym c.unwrap_err.ensures ∙ c.read_number-read.ensures)

pub returns-in-Ok-try_from : goal.returns-in-Ok-try_from
returns-in-Ok-try_from c = kind_known _ _ c.in-Ok.number (sym c.in-Ok.is ∙ c.read_number-read.ensures) _ c.in-Ok-try_from.ensures

pub returns-in-Err : goal.returns-in-Err
returns-in-Err c = rw c.new.ensures (kind_unknown _ _ c.in-Ok.number (sym c.in-Ok.is ∙ c.read_number-read.ensures) c.in-Err.ensures.1)
