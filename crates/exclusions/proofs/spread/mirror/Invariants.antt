-- The loop's invariant: what the nodes passed have, has them.
use Rattle.exclusions.specs.Lowering.{Mirrored}
use Rattle.exclusions.proofs.spread.mirror.Given as goal

abbrev pub invariant-loop-y : goal.invariant-loop-y
invariant-loop-y l = Mirrored l.yielded l.initial.t l.t
