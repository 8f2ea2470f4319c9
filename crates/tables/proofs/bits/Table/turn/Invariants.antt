-- The loop's invariant: the nodes passed have been gone through.
use Rattle.tables.specs.Passes.{Turned}
use Rattle.tables.proofs.bits.Table.turn.Given as goal

abbrev pub invariant-loop-m : goal.invariant-loop-m
invariant-loop-m l = Turned l.d.concepts l.d.roles l.yielded l.initial.self l.self
