-- What an accepted answer says of the answers that it is made of, and what holds of all that an answer gives. A refusal's laws are in `Refusing`.
use mathlib.Core.Path.{◌≡◌, refl, sym, ap}
use mathlib.Core.Bool.{Bool, true, false, cond}
use native.Mathlib.Omega.{arith}
use Prim.Native.Nat.{ℕ}
use Rattle.number.specs.Answer.{Answer, ◌then◌, over, about}
use Rattle.std.specs.Prelude.{Ok, Err}
use Rattle.number.specs.declared.refusal.Refusal.{Refusal}

pub never : {A : Type 0} {x : A} {r : Refusal} → Err r ≡ Ok x → ⊥
never e = let z : ◌≡◌ {A = ℕ} 0 1 = cc in omega arith

pub given_once : {A : Type 0} {x y : A} → ◌≡◌ {A = Answer A} (Ok x) (Ok y) → x ≡ y
given_once e = cc

pub same_refused : {A : Type 0} {q r : Refusal} → ◌≡◌ {A = Answer A} (Err q) (Err r) → q ≡ r
same_refused e = cc

-- what is given about an item is given as it is
pub about_given : {A : Type 0} (k : ℕ) (a : Answer A) {x : A} → about k a ≡ Ok x → a ≡ Ok x
about_given k (Ok v) e = e
about_given k (Err r) e = absurd (never e)

module _ {A : Type 0} where
  -- what went on was given
  pub record Went {B : Type 0} (a : Answer A) (k : A → Answer B) (x : B) : Type 0 where
    pub value : A
    pub first : a ≡ Ok value
    pub rest : k value ≡ Ok x

  pub went : {B : Type 0} (a : Answer A) (k : A → Answer B) {x : B} → (a then k) ≡ Ok x → Went a k x
  went (Ok v) k e = record { value = v; first = refl; rest = e }
  went (Err r) k e = absurd (never e)

  -- what did not go on was refused, first or after
  pub data Halts {B : Type 0} (a : Answer A) (k : A → Answer B) (r : Refusal) : Type 0 where
    at_first : a ≡ Err r → Halts a k r
    at_rest : (value : A) → a ≡ Ok value → k value ≡ Err r → Halts a k r

  pub halts : {B : Type 0} (a : Answer A) (k : A → Answer B) (r : Refusal) → (a then k) ≡ Err r → Halts a k r
  halts (Ok v) k r e = at_rest v refl e
  halts (Err q) k r e = at_first (ap Err (same_refused e))

  -- a test that went on passed
  pub record Passed (b : Bool) (a : Answer A) (x : A) : Type 0 where
    pub test : b ≡ true
    pub answer : a ≡ Ok x

  pub passed : (b : Bool) (a : Answer A) (r : Refusal) {x : A} → cond b a (Err r) ≡ Ok x → Passed b a x
  passed true a r e = record { test = refl; answer = e }
  passed false a r e = absurd (never e)

  pub record Failed (b : Bool) (a : Answer A) (x : A) : Type 0 where
    pub test : b ≡ false
    pub answer : a ≡ Ok x

  pub not_stopped : (b : Bool) (a : Answer A) (r : Refusal) {x : A} → cond b (Err r) a ≡ Ok x → Failed b a x
  not_stopped false a r e = record { test = refl; answer = e }
  not_stopped true a r e = absurd (never e)

  -- an answer told in other words was given
  pub record Over {B : Type 0} (f : A → B) (a : Answer A) (y : B) : Type 0 where
    pub value : A
    pub given : a ≡ Ok value
    pub told : f value ≡ y

  pub over_given : {B : Type 0} (f : A → B) (a : Answer A) {y : B} → over f a ≡ Ok y → Over f a y
  over_given f (Ok v) e = record { value = v; given = refl; told = given_once e }
  over_given f (Err r) e = absurd (never e)

  pub over_refused : {B : Type 0} (f : A → B) (a : Answer A) {r : Refusal} → over f a ≡ Err r → a ≡ Err r
  over_refused f (Ok v) e = absurd (never (sym e))
  over_refused f (Err q) e = ap Err (same_refused e)

  -- what holds of all that an answer gives
  module _ (P : A → Type 0) where
    abbrev pub Given : Answer A → Type 0
    Given a = (x : A) → a ≡ Ok x → P x

    pub given_gives : (a : A) → P a → Given (Ok a)
    given_gives a p x e = rw (given_once e) at p

    pub given_test : (t : Bool) (a b : Answer A) → Given a → Given b → Given (cond t a b)
    given_test true a b first other = first
    given_test false a b first other = other

module _ {A B : Type 0} where
  pub given_then : (P : B → Type 0) (a : Answer A) (k : A → Answer B) → ((x : A) → a ≡ Ok x → Given P (k x)) → Given P (a then k)
  given_then P (Ok v) k rest = rest v refl
  given_then P (Err r) k rest = λ x e. absurd (never e)

  -- answers that are the same as far as they go
  pub then_same : (a : Answer A) (k k' : A → Answer B) → ((x : A) → a ≡ Ok x → k x ≡ k' x) → (a then k) ≡ (a then k')
  then_same (Ok x) k k' same = same x refl
  then_same (Err r) k k' same = refl
