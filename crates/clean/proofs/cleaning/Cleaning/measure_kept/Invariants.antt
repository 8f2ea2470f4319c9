use Rattle.bundle.specs.Told.{facts_left}
use Rattle.clean.specs.Cleaning.{the_facts, follows}
use Rattle.clean.proofs.OfKeeping.{Measuring}
use Rattle.clean.proofs.cleaning.Cleaning.measure_kept.Given as goal

abbrev pub invariant-loop-f : goal.invariant-loop-f
invariant-loop-f l = Measuring (follows l.self) (the_facts l.self) (facts_left l.f-iterator) l.measure
