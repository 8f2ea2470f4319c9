use Rattle.std.specs.Prelude.{None}
use Rattle.site.specs.Items.{items_from}
use Rattle.site.proofs.Numbered.{Walked}
use Rattle.bundle.specs.Bundle.{next_fact, predicate_known}
use Rattle.bundle.proofs.walk.walk_facts.Given as goal

abbrev pub invariant-loop-i : goal.invariant-loop-i
invariant-loop-i l =
    let read = next_fact (predicate_known l.head) l.s in
    Walked read (items_from read 0 l.count (record { last = None; at = l.start })) l.count l.i l.here
