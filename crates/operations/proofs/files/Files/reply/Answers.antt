use Rattle.std.proofs.Common.{sym, ◌∙◌}
use Rattle.operations.proofs.OfQuestions.{reply_is}
use Rattle.operations.proofs.files.Files.reply.Goals as goal

pub returns-in_err-found : goal.returns-in_err-found
returns-in_err-found c =
    let e = c.cleaning.ensures in
    rw c.from_residual.ensures (reply_is _ _ _ _ c.args.self.now.accepted _ _ _ c.fill.ensures _ _
    (sym c.in_err-found.was ∙ c.lowest_support.ensures ∙ rw (e.bundle, e.facts, e.excluded, e.functional)))

pub returns : goal.returns
returns c =
    let e = c.cleaning.ensures in
    reply_is _ _ _ _ c.args.self.now.accepted _ _ _ c.fill.ensures _ _
    (sym c.in_ok-found.was ∙ c.lowest_support.ensures ∙ rw (e.bundle, e.facts, e.excluded, e.functional))
