-- The loop's invariant: the rows of the nodes passed have taken in all that they lead to.
use Rattle.exclusions.specs.Lowering.{Widened}
use Rattle.exclusions.proofs.spread.widen.Given as goal

abbrev pub invariant-loop-x : goal.invariant-loop-x
invariant-loop-x l = Widened l.by l.yielded l.initial.t l.t
