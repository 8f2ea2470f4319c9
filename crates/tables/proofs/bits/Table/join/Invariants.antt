-- The loop's invariant: the words passed of row x have taken in those of row y.
use Rattle.tables.specs.Bits.{Mixed}
use Rattle.tables.proofs.bits.Table.join.Given as goal

abbrev pub invariant-loop-w : goal.invariant-loop-w
invariant-loop-w l = Mixed l.w l.initial.self-inside.words l.self-inside.words l.x l.y
