-- What the number reader's answer says of a count, a code and the end: one law for each way on, which the readers of every file share.
use Prim.Native.Nat.{ℕ, ◌<◌}
use mathlib.Core.Path.{◌≡◌}
use mathlib.Core.Bool.{Bool, true, false}
use mathlib.Core.List.{List}
use lib.ListN.{length}
use borrow.Author.Rules.{rules}
use borrow.Author.Tests.{lt-ltb, lt-leb}
use Rattle.number.specs.Answer.{refusal}
use Rattle.std.specs.Prelude.{Ok, Err}
use Rattle.number.specs.Number.{number_at}
use Rattle.number.specs.declared.refusal.Refusal.{Refusal}
use Rattle.number.specs.declared.read.Read.{Read}
use Rattle.number.specs.declared.refusal.Fault.{Fault}
use Rattle.number.specs.declared.refusal.Fault.TheVariants.{After}
use Rattle.number.specs.declared.refusal.Side.{Side}
use Rattle.site.specs.Items.{tested_at, end_at, at_most}
use Rattle.site.specs.Limits.{most_number}

module _ (s : List ℕ) (at : ℕ) (side : Side) (test : ℕ → Bool) (fault : Fault) where
  -- what the number reader refuses is refused
  pub tested_refused : (r : Refusal) → Err r ≡ number_at s at most_number side → Err r ≡ tested_at s at test fault side
  unfolding tested_at
  tested_refused r is = rw (← is)

  module _ (n : Read ℕ) (is : Ok n ≡ number_at s at most_number side) where
    pub tested_passes : test n.value ≡ true → Ok n ≡ tested_at s at test fault side
    unfolding tested_at
    tested_passes h = rw (← is, h)

    pub tested_fails : test n.value ≡ false → Err (refusal fault side at) ≡ tested_at s at test fault side
    unfolding tested_at
    tested_fails h = rw (← is, h)

-- a number that may not be over a limit
pub limit_over : (s : List ℕ) (at : ℕ) (side : Side) (limit : ℕ) (fault : Fault) (n : Read ℕ) → Ok n ≡ number_at s at most_number side → limit < n.value
    → Err (refusal fault side at) ≡ tested_at s at (at_most limit) fault side
unfolding at_most
limit_over s at side limit fault n is h = tested_fails s at side (at_most limit) fault n is (lt-leb n.value limit h)

-- a file that should end and does not
pub bytes_after : (s : List ℕ) (at : ℕ) (side : Side) → at < length s → Err (refusal After side at) ≡ end_at s at side
unfolding end_at
bytes_after s at side h = rw (lt-ltb at (length s) h)

pub ruleset items = (tested_refused, tested_passes, tested_fails, rules)
