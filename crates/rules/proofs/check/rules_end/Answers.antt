use Rattle.rules.proofs.Checking.{checking}
use Rattle.rules.proofs.check.rules_end.Goals as goal

pub loop-i-init : goal.loop-i-init
loop-i-init c = search checking

pub returns-in_err-at : goal.returns-in_err-at
returns-in_err-at c = search checking

pub loop-i-preserved : goal.loop-i-preserved
loop-i-preserved c = search checking

pub returns : goal.returns
returns c = search checking
