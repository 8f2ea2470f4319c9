use Rattle.bundle.specs.Told.{facts_left}
use Rattle.clean.specs.Cleaning.{the_facts, follows}
use Rattle.clean.proofs.OfKeeping.{Storing}
use Rattle.clean.proofs.cleaning.Cleaning.store_kept.Given as goal

abbrev pub invariant-loop-f : goal.invariant-loop-f
invariant-loop-f l = Storing (follows l.self) (the_facts l.self) (facts_left l.f-iterator) l.fn.start l.initial.out l.out l.place
