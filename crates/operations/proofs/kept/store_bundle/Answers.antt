use Rattle.operations.proofs.OfKeptBundle.{bundle_stored}
use Rattle.operations.proofs.kept.store_bundle.Goals as goal

pub returns : goal.returns
returns c = bundle_stored _ _ _ _ _ c.requires _ _ c.put_number-place.ensures _ _ c.store_kept.ensures
