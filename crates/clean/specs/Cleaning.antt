-- What facts are judged by, as the definitions name it.
use Rattle.std.specs.Prelude.{ℕ, cond, ltb, List, Option, Some, None}
use Rattle.site.specs.declared.fact.Fact.{Fact}
use Rattle.site.specs.Limits.{no_partner}
use Rattle.bundle.specs.Bundle.{facts_of}
use Rattle.steps.specs.Tables.{Follows}
use Rattle.clashes.specs.Types.{itself}
use Rattle.clashes.specs.Marks.{partner}
use Rattle.clashes.specs.Told.{clashes_told}
use Rattle.clean.specs.declared.cleaning.Cleaning.{Cleaning}

-- the facts of the bundle
abbrev pub the_facts : Cleaning → List Fact
the_facts c = facts_of c.bundle.now c.facts

-- what follows from the rules
abbrev pub follows : Cleaning → Follows
follows c = clashes_told c.by

-- a number that was found, where it is below the one that says that there is none
abbrev pub below : ℕ → ℕ → Option ℕ
below none n = cond (ltb n none) (Some n) None

-- "the lowest-numbered fact it clashes with", if there is one
abbrev pub lowest : Follows → List Fact → Fact → Option ℕ
lowest t facts f = below no_partner (partner itself t facts f)
