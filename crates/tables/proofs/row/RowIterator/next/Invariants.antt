-- The loop's invariant: the words passed are 0, and nothing has changed.
use Rattle.std.proofs.Common.{ℕ, ◌<◌, ◌≡◌, get_or}
use Rattle.tables.proofs.row.RowIterator.next.Given as goal

abbrev pub invariant-loop-w : goal.invariant-loop-w
invariant-loop-w l = (l.self-inside.words ≡ l.initial.self-inside.words) × ((i : ℕ) → i < l.w → get_or l.self-inside.words i 0 ≡ 0)
