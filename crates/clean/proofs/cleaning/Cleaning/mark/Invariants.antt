use Rattle.bundle.specs.Told.{facts_left}
use Rattle.clean.specs.Cleaning.{the_facts, follows}
use Rattle.clean.proofs.OfRows.{Marking}
use Rattle.clean.proofs.cleaning.Cleaning.mark.Given as goal

abbrev pub invariant-loop-i : goal.invariant-loop-i
invariant-loop-i l =
    (goal.iterator-loop-i).can_next l.i-iterator × (goal.iterator-loop-i).is_finite l.i-iterator
    × Marking (follows l.self) (the_facts l.self) (facts_left l.i-iterator.iter) l.initial.marks l.initial.partners l.marks l.partners l.i-iterator.count l.tally
