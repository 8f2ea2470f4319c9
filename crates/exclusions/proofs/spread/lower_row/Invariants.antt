-- The loop's invariant: row x has taken in the rows of the nodes passed.
use Rattle.exclusions.specs.Lowering.{Taken}
use Rattle.exclusions.proofs.spread.lower_row.Given as goal

abbrev pub invariant-loop-u : goal.invariant-loop-u
invariant-loop-u l = Taken l.yielded l.initial.t l.t l.x
