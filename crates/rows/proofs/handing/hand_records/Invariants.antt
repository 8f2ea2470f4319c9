use Rattle.bundle.specs.Bundle.{facts_of}
use Rattle.bundle.specs.Told.{facts_left}
use Rattle.rows.proofs.Filling.{Filling}
use Rattle.rows.proofs.handing.hand_records.Given as goal

abbrev pub invariant-loop-i : goal.invariant-loop-i
invariant-loop-i l =
    (goal.iterator-loop-i).can_next l.i-iterator × (goal.iterator-loop-i).is_finite l.i-iterator
    × Filling (facts_of l.bundle l.facts) l.fn.row l.row l.i-iterator.count (facts_left l.i-iterator.iter)
