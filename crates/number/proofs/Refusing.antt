-- What holds of an answer's refusal, if it is one: said for any property of refusals, where one stands or which numbers it has,
-- and put together as the answer is. Every file that says so of its readings takes the laws from here.
use mathlib.Core.Path.{◌≡◌, refl, sym, ap}
use mathlib.Core.Bool.{Bool, true, false, cond}
use Prim.Native.Nat.{ℕ}
use Rattle.number.specs.Answer.{Answer, ◌then◌, over, of_item, about}
use Rattle.std.specs.Prelude.{Ok, Err}
use Rattle.number.specs.declared.refusal.Refusal.{Refusal}
use Rattle.number.proofs.Answers.{never, same_refused}

-- an answer whose refusal, if it is one, has the property
abbrev pub Refuses : {A : Type 0} → (Refusal → Type 0) → Answer A → Type 0
Refuses P a = (r : Refusal) → a ≡ Err r → P r

module _ {A : Type 0} (P : Refusal → Type 0) where
  pub refuses_gives : (x : A) → Refuses P (Ok x)
  refuses_gives x r e = absurd (never (sym e))

  pub refuses_so : (q : Refusal) → P q → Refuses {A = A} P (Err q)
  refuses_so q p r e = rw (same_refused e) at p

  pub refuses_test : (t : Bool) (x y : Answer A) → Refuses P x → Refuses P y → Refuses P (cond t x y)
  refuses_test true x y first other = first
  refuses_test false x y first other = other

  -- a property that does not ask which item it is about
  pub refuses_about : ((k : ℕ) (r : Refusal) → P r → P (of_item k r)) → (k : ℕ) (a : Answer A) → Refuses P a → Refuses P (about k a)
  refuses_about any k (Ok x) first = refuses_gives x
  refuses_about any k (Err q) first = refuses_so (of_item k q) (any k q (first q refl))

  -- a test that refuses what fails
  pub refuses_tested : (t : Bool) (x : A) (q : Refusal) → P q → Refuses P (cond t (Ok x) (Err q))
  refuses_tested t x q p = refuses_test t (Ok x) (Err q) (refuses_gives x) (refuses_so q p)

module _ {A B : Type 0} (P : Refusal → Type 0) where
  pub refuses_then : (a : Answer A) (k : A → Answer B) → Refuses P a → ((x : A) → a ≡ Ok x → Refuses P (k x)) → Refuses P (a then k)
  refuses_then (Ok x) k first rest = rest x refl
  refuses_then (Err q) k first rest = λ r e. first r (ap Err (same_refused e))

  pub refuses_over : (f : A → B) (a : Answer A) → Refuses P a → Refuses P (over f a)
  refuses_over f (Ok x) first = refuses_gives P (f x)
  refuses_over f (Err q) first = λ r e. first r (ap Err (same_refused e))
