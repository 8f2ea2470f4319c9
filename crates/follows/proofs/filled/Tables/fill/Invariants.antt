-- What the rules before the place say is in each table, and those rules and the ones that are left are all the rules.
use Rattle.rules.specs.RuleFile.{rules_in}
use Rattle.rules.specs.Told.{rules_left}
use Rattle.follows.proofs.Filling.{FilledSoFar}
use Rattle.follows.proofs.filled.Tables.fill.Given as goal

abbrev pub invariant-loop-rule : goal.invariant-loop-rule
invariant-loop-rule l =
    FilledSoFar (rules_in l.fn.head l.s l.fn.head.rules l.fn.head.start) (rules_left l.rule-iterator) l.initial.self l.initial.on l.self l.on
