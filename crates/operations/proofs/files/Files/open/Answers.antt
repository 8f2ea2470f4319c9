use Rattle.std.proofs.Common.{sym, ◌∙◌}
use Rattle.bundle.proofs.OfOpened.{opening_accepted}
use Rattle.operations.proofs.files.Files.open.Goals as goal

pub invariant_of-result : goal.invariant_of-result
invariant_of-result c = record { accepted = opening_accepted _ _ c.in_ok-inputs.inputs (sym c.open_inputs.ensures ∙ c.in_ok-inputs.was) }
