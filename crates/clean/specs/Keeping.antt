-- The kept facts as bytes: how many they are, and storing them one after the other.
use Rattle.std.specs.Prelude.{ℕ, ◌+◌, ◌≡◌, List, length}
use Rattle.std.proofs.lemmas.List.Edits.{sets}
use Rattle.site.specs.declared.fact.Fact.{Fact}
use Rattle.site.specs.Lists.{each}
use Rattle.bundle.specs.Bundle.{fact_bytes}
use Rattle.steps.specs.Tables.{Follows}
use Rattle.clashes.specs.Types.{itself}
use Rattle.clashes.specs.Marks.{kept}
use Rattle.clean.specs.declared.measure.Measure.{Measure}

-- the bytes of the kept facts, after their count
unfoldable pub kept_bytes : Follows → List Fact → List ℕ
kept_bytes t facts = each fact_bytes (kept itself t facts)

-- how many are kept, and how many bytes they have
abbrev pub measure_of : Follows → List Fact → Measure
measure_of t facts = record { count = length (kept itself t facts); size = length (kept_bytes t facts) }

-- storing all of them
pub record StoredKept (t : Follows) (facts : List Fact) (out : List ℕ) (at r : ℕ) (out' : List ℕ) : Type 0 where
  pub place : r ≡ at + length (kept_bytes t facts)
  pub memory : out' ≡ sets out at (kept_bytes t facts)
