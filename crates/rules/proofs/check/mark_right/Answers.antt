use Rattle.rules.proofs.RightRoles.{right_roles}
use Rattle.rules.proofs.check.mark_right.Goals as goal

pub returns-then-role-lt-COUNT : goal.returns-then-role-lt-COUNT
returns-then-role-lt-COUNT c = search right_roles

pub returns-else-role-lt-COUNT : goal.returns-else-role-lt-COUNT
returns-else-role-lt-COUNT c = search right_roles
