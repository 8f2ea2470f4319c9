use Rattle.operations.proofs.OfQuestions.{joins_high, joins_undeclared, joins_over_from, joins_over_to, joins_replied}
use Rattle.operations.proofs.files.Files.joins.Goals as goal
use Rattle.operations.proofs.files.Files.joins.Goals.{then-code-via-then-code, then-code-via-else-code+then-not-has_role, then-from-via-then-from, then-from-via-else-from+then-to}

pub returns-then-code : goal.returns-then-code
returns-then-code c =
    elim c.then-code.branch [
      | then-code-via-then-code w ↦ joins_high _ _ _ _ c.args.self.now.accepted _ _ _ w.if-code.true _ c.of_call.ensures
      | then-code-via-else-code+then-not-has_role w ↦
          joins_undeclared _ _ _ _ c.args.self.now.accepted _ _ _ _ c.declared-declared.ensures _ w.has_role.ensures w.if-not-has_role.true _ c.of_call.ensures
    ]

pub returns-then-from : goal.returns-then-from
returns-then-from c =
    elim c.then-from.branch [
      | then-from-via-then-from w ↦
          joins_over_from _ _ _ _ c.args.self.now.accepted _ _ _ _ c.declared-declared.ensures _ c.has_role.ensures c.if-not-has_role.false w.if-from.true _
          c.of_call-then-from.ensures
      | then-from-via-else-from+then-to w ↦
          joins_over_to _ _ _ _ c.args.self.now.accepted _ _ _ _ c.declared-declared.ensures _ c.has_role.ensures c.if-not-has_role.false w.if-from.false
          w.if-to.true _ c.of_call-then-from.ensures
    ]

pub returns : goal.returns
returns c =
    joins_replied _ _ _ _ c.args.self.now.accepted _ _ _ _ c.declared-declared.ensures _ c.has_role.ensures c.if-not-has_role.false c.if-from.false c.if-to.false
    _ c.reply.ensures
