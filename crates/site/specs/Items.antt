-- What files are read by: a count, a code, the items one after the other, and the end after the last of them.
use Rattle.std.specs.Prelude.{ℕ, zero, suc, ◌+◌, ◌<◌, ◌≡◌, Bool, cond, List, [], length, leb, ltb}
use Rattle.number.specs.Answer.{Answer, refusal, of_item, about, ◌then◌}
use Rattle.std.specs.Prelude.{Ok, Err}
use Rattle.number.specs.Number.{number_at}
use Rattle.number.specs.declared.refusal.Refusal.{Refusal}
use Rattle.number.specs.declared.read.Read.{Read}
use Rattle.number.specs.declared.refusal.Fault.{Fault}
use Rattle.number.specs.declared.refusal.Fault.TheVariants.{Count, Unknown, After}
use Rattle.number.specs.declared.refusal.Side.{Side}
use Rattle.site.specs.Limits.{most_number}

-- "each number is judged when complete": a number with a test of its own, and the refusal of what fails it, at its first byte
unfoldable pub tested_at : List ℕ → ℕ → (ℕ → Bool) → Fault → Side → Answer (Read ℕ)
tested_at s at test fault side =
    number_at s at most_number side then λ n. cond (test n.value) (Ok n) (Err (refusal fault side at))

-- the test of what may not be over a limit
unfoldable pub at_most : ℕ → ℕ → Bool
at_most limit n = leb n limit

-- refusal 4: "a count over its limit"
abbrev pub count_at : List ℕ → ℕ → ℕ → Side → Answer (Read ℕ)
count_at s at limit side = tested_at s at (at_most limit) Count side

-- refusal 5, which is kept "for an undeclared concept or role"
abbrev pub code_at : List ℕ → ℕ → (ℕ → Bool) → Side → Answer (Read ℕ)
code_at s at known side = tested_at s at known Unknown side

-- so many items from one that has a number on, each read from where the one before it ended: a refusal gives "the number of the item there"
unfoldable pub items_from : {A : Type 0} → (A → Answer A) → ℕ → ℕ → A → Answer A
items_from read k zero here = Ok here
items_from read k (suc n) here = about k (read here) then λ there. items_from read (k + 1) n there

-- "the number of the item there": so many items before this one were read, the reading of this one was refused, and its number is how many they are
pub record OfItem {A : Type 0} (read : A → Answer A) (n : ℕ) (first : A) (r : Refusal) : Type 0 where
  pub item : ℕ
  pub due : item < n
  pub up_to : A
  pub before : items_from read 0 item first ≡ Ok up_to
  pub fault : Refusal
  pub refused : read up_to ≡ Err fault
  pub named : r ≡ of_item item fault

-- refusal 7: "bytes after the last item", at the first such byte
unfoldable pub end_at : List ℕ → ℕ → Side → Answer ℕ
end_at s at side = cond (ltb at (length s)) (Err (refusal After side at)) (Ok at)

-- a list that goes on from an item where it can be read, and ends where it cannot
abbrev pub onward : {A B : Type 0} → Answer (Read A) → (Read A → List B) → List B
onward (Ok r) k = k r
onward (Err r) k = []
