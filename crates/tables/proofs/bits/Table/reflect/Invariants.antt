-- The loop's invariant: the nodes passed have themselves in their rows.
use Rattle.tables.specs.Passes.{Reflected}
use Rattle.tables.proofs.bits.Table.reflect.Given as goal

abbrev pub invariant-loop-x : goal.invariant-loop-x
invariant-loop-x l = Reflected l.yielded l.initial.self l.self
