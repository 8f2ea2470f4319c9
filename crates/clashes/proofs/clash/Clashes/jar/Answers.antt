use mathlib.Core.Path.{◌∙◌}
use Rattle.std.proofs.Common.{rules, tests}
use Rattle.std.proofs.lemmas.Iterator.{YieldsList-from_slice}
use Rattle.std.proofs.lemmas.Iterator.Search.{any_from_yields_List}
use Rattle.site.proofs.Lists.{library_any}
use Rattle.clashes.specs.Coded.{coded_types, relates_coded}
use Rattle.clashes.proofs.clash.Clashes.jar.Goals as goal

pub returns : goal.returns
returns c =
    any_from_yields_List (relates_coded c.args.self.now.excluded.now c.args.g) _ _ _ c.any.ensures.ran (YieldsList-from_slice (coded_types c.args.f) cc) (λ x b q k. search (rules, tests))
    ∙ library_any _ (coded_types c.args.f)
