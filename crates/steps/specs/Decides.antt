-- Tests that decide what follows from a site's rules: they pass exactly where the relations hold.
use Rattle.std.specs.Prelude.{◌≡◌, true, ◌↔◌}
use mathlib.Core.List.{Memᴰ}
use Rattle.site.specs.Kinds.{BasicRole, Node, Site}
use Rattle.site.specs.Kinds.Rule.{functional}
use Rattle.steps.specs.Steps.{Included, Excluded}
use Rattle.steps.specs.Tables.{Follows}

-- each test of the tables answers for the relation of the steps, both ways
pub record Decides (s : Site) (t : Follows) : Type 0 where
  pub included : (x y : Node) → (t.is_included x y ≡ true) ↔ Included s x y
  pub excluded : (x y : Node) → (t.is_excluded x y ≡ true) ↔ Excluded s x y
  pub functional_by : (q : BasicRole) → (t.is_functional q ≡ true) ↔ Memᴰ (functional q) s.rules
