-- The whole listing: "The first line has the counts; each other line has the fact's number, its mark, and for a disputed fact its partner. (..) A
-- refusal prints one line".
use Rattle.std.specs.Prelude.{ℕ, zero, suc, ◌+◌, ◌-◌, ◌≤◌, cond, List, [], ◌++◌, length, get_or, eqb}
use Rattle.number.specs.Answer.{Answer, over}
use Rattle.std.specs.Prelude.{Ok, Err}
use Rattle.site.specs.Limits.{most_facts}
use Rattle.clashes.specs.declared.answers.Counts.{Counts}
use Rattle.clashes.specs.Judging.{judged_so}
use Rattle.clean.specs.Operations.{marking}
use Rattle.listing.specs.Lines.{counts_line, fact_line, refusal_line}

-- how many lines there are
abbrev pub lines_of : Answer Counts → ℕ
lines_of (Ok c) = c.facts + 1
lines_of (Err r) = 1

-- the line of a number, from the counts or the refusal and the rows of marks and partners
unfoldable pub line_at : Answer Counts → List ℕ → List ℕ → ℕ → List ℕ
line_at (Ok c) marks partners k =
    cond (eqb k 0) (counts_line c) (fact_line (k - 1) (judged_so (get_or marks (k - 1) 0) (get_or partners (k - 1) 0)))
line_at (Err r) marks partners k = refusal_line r

-- so many lines from a number on, one after the other
unfoldable pub lines_from : Answer Counts → List ℕ → List ℕ → ℕ → ℕ → List ℕ
lines_from a marks partners k zero = []
lines_from a marks partners k (suc left) = line_at a marks partners k ++ lines_from a marks partners (suc k) left

-- a row, or none where there is a refusal
abbrev pub row_of : Answer (List ℕ) → List ℕ
row_of (Ok row) = row
row_of (Err r) = []

-- what the program prints for some rules and some bundle
unfoldable pub listing_of : List ℕ → List ℕ → List ℕ
listing_of rules bundle =
    lines_from
    (over (λ m. m.counts) (marking rules bundle most_facts most_facts))
    (row_of (over (λ m. m.marks) (marking rules bundle most_facts most_facts)))
    (row_of (over (λ m. m.partners) (marking rules bundle most_facts most_facts)))
    0
    (lines_of (over (λ m. m.counts) (marking rules bundle most_facts most_facts)))

-- the line of a number is the counts' or that of a fact with a mark and a partner
pub record Within (marks partners : List ℕ) (k : ℕ) : Type 0 where
  pub marked : k ≤ length marks
  pub partnered : k ≤ length partners
