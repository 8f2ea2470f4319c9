use Rattle.operations.proofs.OfOperations.{mark_short, mark_short_pair, mark_done}
use Rattle.operations.proofs.files.Files.mark.Goals as goal
use Rattle.operations.proofs.files.Files.mark.Goals.{then-marks-count-via-then-marks-count, then-marks-count-via-else-marks-count+then-partners-count}

pub returns-then-marks-count : goal.returns-then-marks-count
returns-then-marks-count c =
    elim c.then-marks-count.branch [
      | then-marks-count-via-then-marks-count w ↦ mark_short _ _ _ _ c.args.self.now.accepted _ _ _ c.of_call.ensures w.if-marks-count.true
      | then-marks-count-via-else-marks-count+then-partners-count w ↦
          mark_short_pair _ _ _ _ c.args.self.now.accepted _ _ _ c.of_call.ensures w.if-partners-count.true
    ]

pub returns : goal.returns
returns c =
    let e = c.cleaning.ensures in
    let m = c.mark.ensures in
    mark_done _ _ _ _ c.args.self.now.accepted _ _ _ c.fill.ensures _ _ c.if-marks-count.false c.if-partners-count.false _ _ _
    (rw (← e.bundle, ← e.facts, ← e.excluded, ← e.functional) m)
