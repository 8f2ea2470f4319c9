-- Each line is put after those before it.
use Rattle.std.proofs.Common.{arith}
use native.Mathlib.Nat.{zero-add}
use Rattle.std.proofs.KnownBytes.{Appends-nil, Appends-trans}
use Rattle.listing.specs.Listing.{lines_from}
use Rattle.cleaner.proofs.OfWholeListing.{lines_on}
use Rattle.cleaner.proofs.print_listing.Goals as goal

pub loop-number-init : goal.loop-number-init
unfolding lines_from
loop-number-init g c = record { within = omega arith; written = Appends-nil _ }

pub loop-number-preserved : goal.loop-number-preserved
loop-number-preserved g c = record {
  within = omega arith;
  written =
      rw (lines_on c.args.counted c.args.marks.now c.args.partners.now 0 c.loop-number.number, zero-add c.loop-number.number)
      (Appends-trans _ _ _ _ _ c.loop-number.invariant.written c.in_ok-print_line.ensures);
}
