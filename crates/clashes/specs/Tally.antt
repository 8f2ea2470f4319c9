-- Counting facts by their marks, one after the other.
use Rattle.std.specs.Prelude.{ℕ, ◌+◌, ◌≤◌, ◌<◌, ◌≡◌, cond, List, eqb}
use Rattle.std.proofs.lemmas.List.Edits.{sets}
use Rattle.site.specs.declared.fact.Fact.{Fact}
use Rattle.site.specs.Limits.{most_facts}
use Rattle.steps.specs.Tables.{Follows}
use Rattle.clashes.specs.Types.{itself}
use Rattle.clashes.specs.Marks.{marks, partners, counts}
use Rattle.clashes.specs.declared.answers.Counts.{Counts}

-- before the first fact
abbrev pub no_counts : Counts
no_counts = record { facts = 0; kept = 0; alone = 0; disputed = 0 }

-- one for a mark that is the wanted one, else none
unfoldable pub one_if : ℕ → ℕ → ℕ
one_if mark wanted = cond (eqb mark wanted) 1 0

-- one fact more, of a mark
abbrev pub tallied : Counts → ℕ → Counts
tallied c mark =
    record {
      facts = c.facts + 1;
      kept = c.kept + one_if mark 0;
      alone = c.alone + one_if mark 1;
      disputed = c.disputed + one_if mark 2;
    }

-- counts that have room for one fact more
pub record Small (c : Counts) : Type 0 where
  pub facts : c.facts < most_facts
  pub kept : c.kept ≤ c.facts
  pub alone : c.alone ≤ c.facts
  pub disputed : c.disputed ≤ c.facts

-- the rows and the counts that marking leaves
pub record Marks (t : Follows) (facts : List Fact) (marks_row partners_row : List ℕ) (c : Counts) (marks_row' partners_row' : List ℕ) : Type 0 where
  pub counted : c ≡ counts itself t facts
  pub marked : marks_row' ≡ sets marks_row 0 (marks itself t facts)
  pub partnered : partners_row' ≡ sets partners_row 0 (partners itself t facts)
