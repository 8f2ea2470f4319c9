use Rattle.rules.proofs.RightRoles.{rights_start, rights_done, rights_again}
use Rattle.rules.proofs.check.right_roles.Goals as goal

pub loop-rule-init : goal.loop-rule-init
loop-rule-init c = rw (c.into_iter-rule-iterator.ensures.into_iter_gives, c.new-rule-items.ensures) (rights_start _)

pub loop-rule-preserved : goal.loop-rule-preserved
loop-rule-preserved c = rights_again _ _ _ c.loop-rule.invariant _ _ c.in-Some.ensures.steps _ c.mark_right.ensures

pub returns : goal.returns
returns c = rights_done _ _ _ c.loop-rule.invariant c.in-None.ensures.steps.0
