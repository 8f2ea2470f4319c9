use Rattle.site.proofs.Numbered.{Walked}
use Rattle.rules.specs.RuleFile.{rules_in, next_unbroken, unbroken}
use Rattle.rules.proofs.check.check_functional.Given as goal

abbrev pub invariant-loop-i : goal.invariant-loop-i
invariant-loop-i l =
    let rules = rules_in l.head l.s l.head.rules l.head.start in
    Walked (next_unbroken l.head l.s rules) (unbroken l.head l.s rules l.head.rules l.head.start) l.head.rules l.i l.at
