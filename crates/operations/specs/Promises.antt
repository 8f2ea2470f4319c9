-- What each operation promises: its answer and the lent memory afterwards, for all bytes, numbers and lent memory.
use Rattle.std.specs.Prelude.{ℕ, ◌+◌, ◌≤◌, ◌≡◌, true, List, length}
use Rattle.number.specs.Answer.{Answer, over, laid}
use Rattle.std.specs.Prelude.{Option}
use Rattle.number.specs.Number.{bytes_of, three_bytes}
use Rattle.site.specs.Kinds.{declared}
use Rattle.rule.specs.declared.head.Head.{Head}
use Rattle.rules.specs.RuleFile.{site_of}
use Rattle.bundle.specs.Bundle.{facts_of}
use Rattle.bundle.specs.declared.facts.Facts.{Facts}
use Rattle.steps.specs.Tables.{Follows, follows_of}
use Rattle.clashes.specs.Types.{Typ as SaidTyp}
use Rattle.clashes.specs.Coded.{code}
use Rattle.clashes.specs.declared.answers.Counts.{Counts}
use Rattle.clashes.specs.declared.types.Typ.{Typ}
use Rattle.clean.specs.Keeping.{kept_bytes}
use Rattle.clean.specs.Operations.{reply_of, marking, keeping}

-- marking: the counts, and both rows
pub record MarksAll (rules bundle row pair : List ℕ) (r : Answer Counts) (row' pair' : List ℕ) : Type 0 where
  pub answer : r ≡ over (λ m. m.counts) (marking rules bundle (length row) (length pair))
  pub marks : row' ≡ laid row 0 (over (λ m. m.marks) (marking rules bundle (length row) (length pair)))
  pub partners : pair' ≡ laid pair 0 (over (λ m. m.partners) (marking rules bundle (length row) (length pair)))

-- writing the kept facts: their bundle's length, and the output
pub record WritesKept (rules bundle out : List ℕ) (r : Answer ℕ) (out' : List ℕ) : Type 0 where
  pub answer : r ≡ over length (keeping rules bundle (length out))
  pub memory : out' ≡ laid out 0 (keeping rules bundle (length out))

-- a question's reply under accepted rules and an accepted bundle, by the asked node's number
pub record RepliesTo (rules : List ℕ) (h : Head) (bundle : List ℕ) (b : Facts) (asked : Typ) (r : Option ℕ) : Type 0 where
  pub answer : (x : SaidTyp) → declared (site_of rules h) x.node ≡ true → code x ≡ asked → r ≡ reply_of (follows_of (site_of rules h)) (facts_of bundle b) x

-- the kept facts' bundle has room
pub record StoresBundle (t : Follows) (bundle : List ℕ) (b : Facts) (count : ℕ) (out : List ℕ) : Type 0 where
  pub formed : count ≤ three_bytes
  pub room : length (bytes_of count) + length (kept_bytes t (facts_of bundle b)) ≤ length out
