-- What is judged of a fact, as the code answers it and as document 01 numbers it.
use Rattle.std.specs.Prelude.{ℕ, cond, List, eqb}
use Rattle.site.specs.declared.fact.Fact.{Fact}
use Rattle.site.specs.Limits.{no_partner}
use Rattle.steps.specs.Tables.{Follows}
use Rattle.clashes.specs.Marks.{mark, partner}
use Rattle.clashes.specs.declared.answers.Judged.{Judged}
use Rattle.clashes.specs.declared.answers.Judged.TheVariants.{Kept, Alone, Disputed}

-- "0 kept, 1 alone, 2 disputed"
abbrev pub mark_of : Judged → ℕ
mark_of Kept = 0
mark_of Alone = 1
mark_of (Disputed partner) = 2

-- the partner, "or 65,535 for marks 0 and 1"
abbrev pub partner_of : Judged → ℕ
partner_of Kept = no_partner
partner_of Alone = no_partner
partner_of (Disputed partner) = partner

-- what a mark and a partner say of a fact
abbrev pub judged_so : ℕ → ℕ → Judged
judged_so mark partner = cond (eqb mark 0) Kept (cond (eqb mark 1) Alone (Disputed partner))

-- "Asking about one fact number gives its mark and partner."
unfoldable pub judged : (ℕ → ℕ) → Follows → List Fact → Fact → Judged
judged ρ t facts f = judged_so (mark ρ t facts f) (partner ρ t facts f)
