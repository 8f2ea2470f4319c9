use Rattle.rules.proofs.Checking.{checking}
use Rattle.rules.proofs.check.is_broken.Goals as goal

pub returns-then-role-lt-COUNT : goal.returns-then-role-lt-COUNT
returns-then-role-lt-COUNT c = search checking

pub returns-else-role-lt-COUNT : goal.returns-else-role-lt-COUNT
returns-else-role-lt-COUNT c = search checking
