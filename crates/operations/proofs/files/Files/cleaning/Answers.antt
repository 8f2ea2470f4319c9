use Rattle.operations.proofs.OfOperations.{few}
use Rattle.operations.proofs.files.Files.cleaning.Goals as goal

pub invariant_of-result : goal.invariant_of-result
invariant_of-result c = record { few = few _ _ _ _ c.args.self.now.accepted }
