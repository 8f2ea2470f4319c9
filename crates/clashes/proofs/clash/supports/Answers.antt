use mathlib.Core.Path.{◌∙◌}
use Rattle.std.proofs.Common.{rules, tests}
use Rattle.std.proofs.lemmas.Iterator.{YieldsList-from_slice}
use Rattle.std.proofs.lemmas.Iterator.Search.{any_from_yields_List}
use Rattle.site.proofs.Lists.{library_any}
use Rattle.clashes.specs.Coded.{coded_types, related_at}
use Rattle.clashes.specs.declared.types.Typ.{Typ}
use Rattle.clashes.proofs.clash.supports.Goals as goal

pub returns : goal.returns
returns c =
    any_from_yields_List (λ (x : Typ). related_at c.args.included.now x c.args.asked) _ _ _ c.any.ensures.ran (YieldsList-from_slice (coded_types c.args.f) cc) (λ x b q k. search (rules, tests))
    ∙ library_any _ (coded_types c.args.f)
