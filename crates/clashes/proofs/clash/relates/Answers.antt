use mathlib.Core.Path.{◌∙◌}
use Rattle.std.proofs.Common.{rules, tests}
use Rattle.std.proofs.lemmas.Iterator.{YieldsList-from_slice}
use Rattle.std.proofs.lemmas.Iterator.Search.{any_from_yields_List}
use Rattle.site.proofs.Lists.{library_any}
use Rattle.clashes.specs.Coded.{related_at}
use Rattle.clashes.proofs.clash.relates.Goals as goal

pub returns : goal.returns
returns c =
    any_from_yields_List (related_at c.args.table.now c.args.x) _ _ _ c.any.ensures.ran (YieldsList-from_slice c.args.types.now cc) (λ x b q k. search (rules, tests))
    ∙ library_any _ c.args.types.now
