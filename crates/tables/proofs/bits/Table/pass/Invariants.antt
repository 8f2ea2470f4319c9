-- The loop's invariant: the rows of the nodes passed have taken row m in, if they have m.
use Rattle.tables.specs.Passes.{Passed}
use Rattle.tables.proofs.bits.Table.pass.Given as goal

abbrev pub invariant-loop-x : goal.invariant-loop-x
invariant-loop-x l = Passed l.yielded l.initial.self l.self l.m
