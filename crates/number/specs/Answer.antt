-- An answer of document 01: what was asked for, or a refusal.
use Rattle.std.specs.Prelude.{ℕ, cond, eqb, List, Result, Ok, Err, Some, None}
use Rattle.std.proofs.lemmas.List.Edits.{sets}
use Rattle.number.specs.declared.refusal.Refusal.{Refusal}
use Rattle.number.specs.declared.refusal.Fault.{Fault}
use Rattle.number.specs.declared.refusal.Fault.TheVariants.{Cut, Long, Over, Count, Unknown, Broken, After, Order, Room, NoFact, Kind, Object}
use Rattle.number.specs.declared.refusal.Side.{Side}
use Rattle.number.specs.declared.refusal.Side.TheVariants.{Rules, Bundle, Call}

-- the numbers of document 01's table, one for each fault
abbrev pub number_of : Fault → ℕ
number_of Cut = 1
number_of Long = 2
number_of Over = 3
number_of Count = 4
number_of Unknown = 5
number_of Broken = 6
number_of After = 7
number_of Order = 8
number_of Room = 9
number_of NoFact = 10
number_of Kind = 11
number_of Object = 12

-- the fault of a number of the table
abbrev pub fault_of : ℕ → Fault
fault_of n =
    cond (eqb n 1) Cut (cond (eqb n 2) Long (cond (eqb n 3) Over (cond (eqb n 4) Count (cond (eqb n 5) Unknown (cond (eqb n 6) Broken
    (cond (eqb n 7) After (cond (eqb n 8) Order (cond (eqb n 9) Room (cond (eqb n 10) NoFact (cond (eqb n 11) Kind Object))))))))))

-- "side (0 rules, 1 bundle, 2 the call's own arguments)"
abbrev pub side_of : Side → ℕ
side_of Rules = 0
side_of Bundle = 1
side_of Call = 2

-- "A refusal gives number, side (..) and place"; it is about no item
abbrev pub refusal : Fault → Side → ℕ → Refusal
refusal fault side place = record { fault = fault; side = side; place = place; item = None }

-- "the number of the item there (rule or fact; ..) beside the byte place": the same refusal, about an item
abbrev pub of_item : ℕ → Refusal → Refusal
of_item k r = record { fault = r.fault; side = r.side; place = r.place; item = Some k }

-- "It does its work or refuses"
abbrev pub Answer : Type 0 → Type 0
Answer A = Result A Refusal

infixr 20 ◌then◌
module _ {A B : Type 0} where
  -- "each number is judged when complete, before the next is read": the first refusal is the answer
  abbrev pub ◌then◌ : Answer A → (A → Answer B) → Answer B
  ◌then◌ (Ok a) k = k a
  ◌then◌ (Err r) k = Err r

  -- an answer told in other words
  abbrev pub over : (A → B) → Answer A → Answer B
  over f (Ok a) = Ok (f a)
  over f (Err r) = Err r

-- an answer about an item: if it is a refusal, it says which item
abbrev pub about : {A : Type 0} → ℕ → Answer A → Answer A
about k (Ok a) = Ok a
about k (Err r) = Err (of_item k r)

-- "a refusal (..) writes to no lent memory", and "in every lent output all that is past the written part stays as it was"
abbrev pub laid : {A : Type 0} → List A → ℕ → Answer (List A) → List A
laid out at (Ok bytes) = sets out at bytes
laid out at (Err r) = out
