use Rattle.std.proofs.Common.{◌∙◌}
use Rattle.operations.proofs.OfOperations.{count_done}
use Rattle.operations.proofs.files.Files.count.Goals as goal

pub returns : goal.returns
returns c =
    let e = c.cleaning.ensures in
    count_done _ _ _ _ c.args.self.now.accepted _ _ _ c.fill.ensures _ (c.count.ensures ∙ rw (e.bundle, e.facts, e.excluded, e.functional))
