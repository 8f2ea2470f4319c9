-- The loop's invariant: each node that leads on to one of the nodes passed that excludes itself excludes itself.
use Rattle.tables.specs.Listed.{nodes_of}
use Rattle.exclusions.specs.Lowering.{EmptiedBy}
use Rattle.exclusions.proofs.spread.empty.Given as goal

abbrev pub invariant-loop-w : goal.invariant-loop-w
invariant-loop-w l = EmptiedBy l.on (nodes_of l.d.concepts l.d.roles) l.yielded l.initial.t l.t
