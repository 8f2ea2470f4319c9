-- Each count is at most the number of strings tried.
use Rattle.std.proofs.Common.{◌≤◌}
use Rattle.number_cases.proofs.sweep.Given as goal

abbrev pub invariant-loop-i : goal.invariant-loop-i
invariant-loop-i g l = (l.agree ≤ l.i) × (l.differ ≤ l.i) × goal.F-IsAlwaysCallable g l.test
