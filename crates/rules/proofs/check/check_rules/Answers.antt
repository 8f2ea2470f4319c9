use Rattle.std.proofs.Common.{sym, ◌∙◌}
use Rattle.rule.proofs.Accepted.{head_roles}
use Rattle.rules.proofs.check.check_rules.Goals as goal

pub check_functional-requires : goal.check_functional-requires
check_functional-requires c = head_roles c.args.s.now _ (sym c.read_head.ensures ∙ c.in_ok-head.was)
