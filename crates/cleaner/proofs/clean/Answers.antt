-- Marking fills both rows for every line that is printed, and the lines are the listing.
use Rattle.std.proofs.Common.{refl}
use Rattle.cleaner.proofs.OfPrinting.{prints}
use Rattle.cleaner.proofs.OfWholeListing.{whole_listing}
use Rattle.cleaner.proofs.clean.Goals as goal

pub print_listing-requires : goal.print_listing-requires
print_listing-requires g c = prints _ _ _ _ _ _ _ c.mark_bundle-counted.ensures

pub returns : goal.returns
returns g c = rw (whole_listing c.args.rules.now c.args.bundle.now _ _ _ _ _ refl refl c.mark_bundle-counted.ensures) at c.print_listing.ensures
