-- The loop's invariant: the rings of the roles passed are in the table.
use Rattle.follows.specs.Adding.{AddedAll, rings}
use Rattle.follows.proofs.says.add_rings.Given as goal

abbrev pub invariant-loop-j : goal.invariant-loop-j
invariant-loop-j l = AddedAll (rings l.j) l.initial.t l.t
