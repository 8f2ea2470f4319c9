-- What printing asks: each fact has a mark and a partner in the rows, and a line's number is not past the last line.
use Rattle.std.specs.Prelude.{ℕ, ◌+◌, ◌≤◌, ◌<◌, List, length}
use Rattle.number.specs.Answer.{Answer}
use Rattle.clashes.specs.declared.answers.Counts.{Counts}
use Rattle.listing.specs.Listing.{lines_of}

-- a line that is there, with rows that are long enough
pub record Prints (counted : Answer Counts) (marks partners : List ℕ) (number : ℕ) : Type 0 where
  pub marked : lines_of counted ≤ length marks + 1
  pub partnered : lines_of counted ≤ length partners + 1
  pub within : number < lines_of counted
