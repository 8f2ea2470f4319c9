use Rattle.rules.specs.RuleFile.{rules_in}
use Rattle.rules.specs.Told.{rules_left}
use Rattle.rules.proofs.RightRoles.{RightsSoFar}
use Rattle.rules.proofs.check.right_roles.Given as goal

abbrev pub invariant-loop-rule : goal.invariant-loop-rule
invariant-loop-rule l = RightsSoFar (rules_in l.fn.head l.s l.fn.head.rules l.fn.head.start) (rules_left l.rule-iterator) l.right
