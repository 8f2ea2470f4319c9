-- The lines below the next one have been written.
use Rattle.std.proofs.Common.{◌≤◌}
use Rattle.std.specs.Io.KnownBytes.{Appends}
use Rattle.listing.specs.Listing.{lines_from}
use Rattle.cleaner.proofs.print_listing.Given as goal

abbrev pub invariant-loop-number : goal.invariant-loop-number
invariant-loop-number g l = record {
  within : l.number ≤ l.number-end;
  written : Appends (g.W.Write.contents l.initial.out) (g.W.Write.contents l.out) (lines_from l.counted l.marks l.partners 0 l.number);
}
