use Rattle.operations.proofs.OfQuestions.{has_high, has_undeclared, has_over, has_replied}
use Rattle.operations.proofs.files.Files.has.Goals as goal
use Rattle.operations.proofs.files.Files.has.Goals.{then-code-via-then-code, then-code-via-else-code+then-not-has_concept}

pub returns-then-code : goal.returns-then-code
returns-then-code c =
    elim c.then-code.branch [
      | then-code-via-then-code w ↦ has_high _ _ _ _ c.args.self.now.accepted _ _ w.if-code.true _ c.of_call.ensures
      | then-code-via-else-code+then-not-has_concept w ↦
          has_undeclared _ _ _ _ c.args.self.now.accepted _ _ _ c.declared-declared.ensures _ w.has_concept.ensures w.if-not-has_concept.true _ c.of_call.ensures
    ]

pub returns-then-thing : goal.returns-then-thing
returns-then-thing c =
    has_over _ _ _ _ c.args.self.now.accepted _ _ _ c.declared-declared.ensures _ c.has_concept.ensures c.if-not-has_concept.false c.if-thing.true _
    c.of_call-then-thing.ensures

pub returns : goal.returns
returns c =
    has_replied _ _ _ _ c.args.self.now.accepted _ _ _ c.declared-declared.ensures _ c.has_concept.ensures c.if-not-has_concept.false c.if-thing.false _ c.reply.ensures
