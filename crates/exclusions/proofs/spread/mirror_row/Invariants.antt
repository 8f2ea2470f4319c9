-- The loop's invariant: the rows of the nodes passed have taken x in.
use Rattle.exclusions.specs.Lowering.{Given}
use Rattle.exclusions.proofs.spread.mirror_row.Given as goal

abbrev pub invariant-loop-u : goal.invariant-loop-u
invariant-loop-u l = Given l.yielded l.initial.t l.t l.x
