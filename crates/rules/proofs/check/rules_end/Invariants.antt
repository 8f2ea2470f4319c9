use Rattle.site.proofs.Numbered.{Walked}
use Rattle.rules.specs.RuleFile.{next_rule, rules_from}
use Rattle.rules.proofs.check.rules_end.Given as goal

abbrev pub invariant-loop-i : goal.invariant-loop-i
invariant-loop-i l = Walked (next_rule l.head l.s) (rules_from l.head l.s l.head.rules l.head.start) l.head.rules l.i l.at
