-- What an accepted count, code and end are, in any file: a number that stands there and passes its test, and no byte after the last item.
-- Files that agree up to a place have the same counts and codes before it.
use Prim.Native.Nat.{ℕ, ◌+◌, ◌≤◌}
use mathlib.Core.Path.{◌≡◌, sym, ap, ◌∙◌}
use mathlib.Core.Bool.{Bool, true, cond}
use mathlib.Core.List.{List}
use lib.ListN.{length, take}
use lib.Dec.{ltb}
use borrow.Author.Tests.{ltb-false, leb-true}
use Rattle.number.specs.Answer.{refusal}
use Rattle.std.specs.Prelude.{Ok, Err}
use Rattle.number.specs.Number.{number_at}
use Rattle.number.specs.declared.read.Read.{Read}
use Rattle.number.specs.declared.refusal.Fault.{Fault}
use Rattle.number.specs.declared.refusal.Fault.TheVariants.{Count, After}
use Rattle.number.specs.declared.refusal.Side.{Side}
use Rattle.number.proofs.Answers.{given_once, went, passed, not_stopped}
use Rattle.number.proofs.Laws.{same_number}
use Rattle.site.specs.Items.{tested_at, at_most, count_at, end_at}
use Rattle.site.specs.Limits.{most_number}

pub record TestedThere (s : List ℕ) (at : ℕ) (test : ℕ → Bool) (side : Side) (n : Read ℕ) : Type 0 where
  pub number : number_at s at most_number side ≡ Ok n
  pub holds : test n.value ≡ true

pub tested_there : (s : List ℕ) (at : ℕ) (test : ℕ → Bool) (fault : Fault) (side : Side) (n : Read ℕ) → tested_at s at test fault side ≡ Ok n → TestedThere s at test side n
unfolding tested_at
tested_there s at test fault side n e =
    let w = went (number_at s at most_number side) (λ m. cond (test m.value) (Ok m) (Err (refusal fault side at))) e in
    let t = passed (test w.value.value) (Ok w.value) (refusal fault side at) w.rest in
    record { number = w.first ∙ t.answer; holds = ap (λ (m : Read ℕ). test m.value) (sym (given_once t.answer)) ∙ t.test }

pub within_limit : (limit n : ℕ) → at_most limit n ≡ true → n ≤ limit
unfolding at_most
within_limit limit n e = leb-true n limit e

pub record CountThere (s : List ℕ) (at limit : ℕ) (side : Side) (n : Read ℕ) : Type 0 where
  pub number : number_at s at most_number side ≡ Ok n
  pub within : n.value ≤ limit

pub count_there : (s : List ℕ) (at limit : ℕ) (side : Side) (n : Read ℕ) → count_at s at limit side ≡ Ok n → CountThere s at limit side n
count_there s at limit side n e =
    let t = tested_there s at (at_most limit) Count side n e in
    record { number = t.number; within = within_limit limit n.value t.holds }

-- nothing stands after the last item
pub end_there : (s : List ℕ) (at : ℕ) (side : Side) (end : ℕ) → end_at s at side ≡ Ok end → length s ≤ at
unfolding end_at
end_there s at side end e = ltb-false at (length s) (not_stopped (ltb at (length s)) (Ok at) (refusal After side at) e).test

module _ (s t : List ℕ) (n : ℕ) (agree : take n s ≡ take n t) (at : ℕ) (here : at + 3 ≤ n) where
  pub same_tested : (test : ℕ → Bool) (fault : Fault) (side : Side) → tested_at s at test fault side ≡ tested_at t at test fault side
  unfolding tested_at
  same_tested test fault side = rw (same_number s t n agree at here most_number side)
