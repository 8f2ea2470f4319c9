-- The loop's invariant: the nodes passed exclude themselves, if they lead on to w.
use Rattle.exclusions.specs.Lowering.{EmptiedRow}
use Rattle.exclusions.proofs.spread.empty_row.Given as goal

abbrev pub invariant-loop-z : goal.invariant-loop-z
invariant-loop-z l = EmptiedRow l.on l.yielded l.initial.t l.t l.w
