-- What the plain functions on lists find: tests joined by `&&` and `||`, some element that passes, the elements that pass, their number, the
-- first of them, the numbers below a bound, lists one after the other.
use Prim.Native.Nat.{ℕ, zero, suc, ◌+◌, ◌<◌, ◌≤◌}
use mathlib.Core.Path.{◌≡◌, refl, sym, ap, ◌∙◌, subst}
use mathlib.Core.Bool.{Bool, true, false, true≢false, false≢true, cond, ◌&&◌, ◌||◌}
use mathlib.Core.Logic.{◌⊎◌, inl, inr, ◌↔◌}
use mathlib.Core.List.Memᴰ
use mathlib.Core.List.{List, [], ◌∷◌, ◌++◌, Memᴰ}
use lib.ListN.{length, get_or}
use native.Mathlib.Omega.{arith}
use native.Mathlib.Decide.{ℕ_discrete}
use Rattle.std.specs.List.{list_any}
use Rattle.site.specs.Lists.{up_to, any, count, keep, first, each}

-- a test passes or it does not, and not both
pub true_not_false : {b : Bool} → b ≡ true → b ≡ false → ⊥
true_not_false p q = false≢true (sym q ∙ p)

pub is_false : {b : Bool} → (b ≡ true → ⊥) → b ≡ false
is_false {b = true} h = absurd (h refl)
is_false {b = false} h = refl

pub either : (b : Bool) → (b ≡ true) ⊎ (b ≡ false)
either true = inl refl
either false = inr refl

-- tests that pass together are one
pub same_test : (a b : Bool) → (a ≡ true → b ≡ true) → (b ≡ true → a ≡ true) → a ≡ b
same_test true b f g = sym (f refl)
same_test false true f g = g refl
same_test false false f g = refl

-- tests joined
pub or_cases : (a b : Bool) → (a || b) ≡ true → (a ≡ true) ⊎ (b ≡ true)
or_cases true b e = inl refl
or_cases false b e = inr e

pub or_left : (a b : Bool) → a ≡ true → (a || b) ≡ true
or_left true b e = refl
or_left false b e = absurd (false≢true e)

pub or_right : (a b : Bool) → b ≡ true → (a || b) ≡ true
or_right true b e = refl
or_right false b e = e

pub and_left : (a b : Bool) → (a && b) ≡ true → a ≡ true
and_left true b e = refl
and_left false b e = e

pub and_right : (a b : Bool) → (a && b) ≡ true → b ≡ true
and_right true b e = e
and_right false b e = absurd (false≢true e)

pub and_both : (a b : Bool) → a ≡ true → b ≡ true → (a && b) ≡ true
and_both true b e f = f
and_both false b e f = e

-- an element of a list that passes a test
pub record Passing {A : Type 0} (p : A → Bool) (l : List A) : Type 0 where
  pub one : A
  pub within : Memᴰ one l
  pub passes : p one ≡ true

module _ {A : Type 0} (p : A → Bool) where
  pub any_found : (l : List A) → any p l ≡ true → Passing p l
  unfolding any
  any_found [] e = absurd (false≢true e)
  any_found (x ∷ xs) e = step (λ r. any_found xs r) (or_cases (p x) (any p xs) e)
    where
      step : (any p xs ≡ true → Passing p xs) → (p x ≡ true) ⊎ (any p xs ≡ true) → Passing p (x ∷ xs)
      step rest (inl h) = record { one = x; within = Memᴰ.head refl; passes = h }
      step rest (inr h) =
          let f = rest h in
          record { one = f.one; within = Memᴰ.tail f.within; passes = f.passes }

  pub any_of : {x : A} {l : List A} → Memᴰ x l → p x ≡ true → any p l ≡ true
  unfolding any
  any_of (Memᴰ.head {x = y} {xs = ys} e) h = or_left (p y) (any p ys) (subst (λ z. p z ≡ true) e h)
  any_of (Memᴰ.tail {x = y} {xs = ys} m) h = or_right (p y) (any p ys) (any_of m h)

  -- the same as the library has it
  pub library_any : (l : List A) → list_any p l ≡ any p l
  unfolding any
  library_any [] = refl
  library_any (x ∷ xs) = ap (λ (b : Bool). p x || b) (library_any xs)

  pub any_none : (l : List A) → any p l ≡ false → {x : A} → Memᴰ x l → p x ≡ false
  any_none l e m = is_false (λ h. true_not_false (any_of m h) e)

  -- an element that is kept stands in the list and passes
  pub record Kept (x : A) (l : List A) : Type 0 where
    pub within : Memᴰ x l
    pub passes : p x ≡ true

  pub keep_found : {x : A} (l : List A) → Memᴰ x (keep p l) → Kept x l
  unfolding keep
  keep_found [] m = absurd (Memᴰ.not-nil m)
  keep_found {x} (y ∷ ys) m = step (p y) refl (λ r. keep_found ys r) m
    where
      later : Kept x ys → Kept x (y ∷ ys)
      later k = record { within = Memᴰ.tail k.within; passes = k.passes }

      step : (b : Bool) → p y ≡ b → (Memᴰ x (keep p ys) → Kept x ys) → Memᴰ x (cond b (y ∷ keep p ys) (keep p ys)) → Kept x (y ∷ ys)
      step true e rest (Memᴰ.head q) = record { within = Memᴰ.head q; passes = ap p q ∙ e }
      step true e rest (Memᴰ.tail k) = later (rest k)
      step false e rest k = later (rest k)

  behind : {x : A} (y : A) {l : List A} (b : Bool) → Memᴰ x l → Memᴰ x (cond b (y ∷ l) l)
  behind y true m = Memᴰ.tail m
  behind y false m = m

  pub keep_of : {x : A} {l : List A} → Memᴰ x l → p x ≡ true → Memᴰ x (keep p l)
  unfolding keep
  keep_of (Memᴰ.head {x = y} {xs = ys} e) h = rw (sym (ap p e) ∙ h) (Memᴰ.head e)
  keep_of (Memᴰ.tail {x = y} {xs = ys} m) h = behind y (p y) (keep_of m h)

  -- so many are kept as are counted, at most all
  pub length_keep : (l : List A) → length (keep p l) ≡ count p l
  unfolding keep count
  length_keep [] = refl
  length_keep (x ∷ xs) = step (p x) (length_keep xs)
    where
      step : (b : Bool) → length (keep p xs) ≡ count p xs
          → length (cond b (x ∷ keep p xs) (keep p xs)) ≡ cond b (suc (count p xs)) (count p xs)
      step true e = ap suc e
      step false e = e

  pub count_within : (l : List A) → count p l ≤ length l
  unfolding count
  count_within [] = omega arith
  count_within (x ∷ xs) = step (p x) (count_within xs)
    where
      step : (b : Bool) → count p xs ≤ length xs → cond b (suc (count p xs)) (count p xs) ≤ suc (length xs)
      step true h = omega arith
      step false h = omega arith

  -- where the first element that passes stands
  pub record FirstAt (l : List A) (i : ℕ) : Type 0 where
    pub inside : i < length l
    pub passes : (d : A) → p (get_or l i d) ≡ true
    pub lowest : (d : A) (j : ℕ) → j < i → p (get_or l j d) ≡ false

  pub record Found (l : List A) (k n : ℕ) : Type 0 where
    pub place : ℕ
    pub counted : n ≡ k + place
    pub is_first : FirstAt l place

  pub first_found : (none k : ℕ) (l : List A) → any p l ≡ true → Found l k (first none p k l)
  unfolding any first
  first_found none k [] h = absurd (false≢true h)
  first_found none k (x ∷ xs) h = step (p x) refl (λ r. first_found none (k + 1) xs r) h
    where
      lower : (f : Found xs (k + 1) (first none p (k + 1) xs)) → p x ≡ false → (d : A) (j : ℕ) → j < suc f.place → p (get_or (x ∷ xs) j d) ≡ false
      lower f e d zero g = e
      lower f e d (suc j) g = f.is_first.lowest d j (omega arith)

      step : (b : Bool) → p x ≡ b → (any p xs ≡ true → Found xs (k + 1) (first none p (k + 1) xs)) → (b || any p xs) ≡ true
          → Found (x ∷ xs) k (cond b k (first none p (k + 1) xs))
      step true e rest g =
          record {
            place = 0;
            counted = omega arith;
            is_first = record { inside = omega arith; passes = λ d. e; lowest = λ d j z. absurd (omega arith) };
          }
      step false e rest g =
          let f = rest g in
          let c = f.counted in
          let i = f.is_first.inside in
          record {
            place = suc f.place;
            counted = omega arith;
            is_first = record { inside = omega arith; passes = λ d. f.is_first.passes d; lowest = lower f e };
          }

  pub first_none : (none k : ℕ) (l : List A) → any p l ≡ false → first none p k l ≡ none
  unfolding any first
  first_none none k [] h = refl
  first_none none k (x ∷ xs) h = step (p x) (λ r. first_none none (k + 1) xs r) h
    where
      step : (b : Bool) → (any p xs ≡ false → first none p (k + 1) xs ≡ none) → (b || any p xs) ≡ false → cond b k (first none p (k + 1) xs) ≡ none
      step true rest g = absurd (true≢false g)
      step false rest g = rest g

  -- there is a first one exactly if some element passes, where none is no element's number
  pub first_of : (none : ℕ) (l : List A) → length l ≤ none → (first none p 0 l < none) ↔ (any p l ≡ true)
  first_of none l w = (λ h. step h (either (any p l)), λ h. let f = first_found none 0 l h in let c = f.counted in let i = f.is_first.inside in omega arith)
    where
      step : first none p 0 l < none → (any p l ≡ true) ⊎ (any p l ≡ false) → any p l ≡ true
      step h (inl e) = e
      step h (inr e) = let n = first_none none 0 l e in absurd (omega arith)

-- the element of a number below the length stands in the list
pub get_or_within : {A : Type 0} (l : List A) (i : ℕ) (d : A) → i < length l → Memᴰ (get_or l i d) l
get_or_within [] i d h = absurd (omega arith)
get_or_within (x ∷ xs) zero d h = Memᴰ.head refl
get_or_within (x ∷ xs) (suc i) d h = Memᴰ.tail (get_or_within xs i d (omega arith))

-- of three tests exactly one passes
pub data OneOfThree : Bool → Bool → Bool → Type 0 where
  one : OneOfThree true false false
  two : OneOfThree false true false
  three : OneOfThree false false true

-- then their counts add up
pub counts_add : {A : Type 0} (p q r : A → Bool) → ((x : A) → OneOfThree (p x) (q x) (r x)) → (l : List A)
    → length l ≡ count p l + count q l + count r l
unfolding count
counts_add p q r h [] = refl
counts_add {A} p q r h (x ∷ xs) = step (h x) (counts_add p q r h xs)
  where
    step : {a b c : Bool} → OneOfThree a b c → length xs ≡ count p xs + count q xs + count r xs
        → suc (length xs) ≡ cond a (suc (count p xs)) (count p xs) + cond b (suc (count q xs)) (count q xs) + cond c (suc (count r xs)) (count r xs)
    step one e = omega arith
    step two e = omega arith
    step three e = omega arith

-- the numbers below a bound
pub below_of_up_to : (n : ℕ) {i : ℕ} → Memᴰ i (up_to n) → i < n
unfolding up_to
below_of_up_to zero m = absurd (Memᴰ.not-nil m)
below_of_up_to (suc n) {i} m = step (λ r. below_of_up_to n r) (Memᴰ.append_cases (up_to n) m)
  where
    step : (Memᴰ i (up_to n) → i < n) → Memᴰ i (up_to n) ⊎ Memᴰ i (n ∷ []) → i < suc n
    step rest (inl r) = let h = rest r in omega arith
    step rest (inr r) = let e = Memᴰ.eq_of_singleton r in omega arith

pub up_to_of_below : (n i : ℕ) → i < n → Memᴰ i (up_to n)
unfolding up_to
up_to_of_below zero i h = absurd (omega arith)
up_to_of_below (suc n) i h = step (λ r. up_to_of_below n i r) (ℕ_discrete i n)
  where
    step : (i < n → Memᴰ i (up_to n)) → Dec (i ≡ n) → Memᴰ i (up_to n ++ (n ∷ []))
    step rest (yes e) = Memᴰ.append_right (up_to n) (Memᴰ.head e)
    step rest (no d) = Memᴰ.append_left (n ∷ []) (rest (omega arith))

-- where an element of the lists one after the other comes from
pub record From {A B : Type 0} (f : A → List B) (l : List A) (b : B) : Type 0 where
  pub source : A
  pub within : Memᴰ source l
  pub given : Memᴰ b (f source)

module _ {A B : Type 0} (f : A → List B) where
  pub each_of : {x : A} {l : List A} {b : B} → Memᴰ x l → Memᴰ b (f x) → Memᴰ b (each f l)
  unfolding each
  each_of {b = b} (Memᴰ.head {x = y} {xs = ys} e) g = Memᴰ.append_left (each f ys) (subst (λ z. Memᴰ b (f z)) e g)
  each_of (Memᴰ.tail {x = y} {xs = ys} m) g = Memᴰ.append_right (f y) (each_of m g)

  pub of_each : (l : List A) {b : B} → Memᴰ b (each f l) → From f l b
  unfolding each
  of_each [] m = absurd (Memᴰ.not-nil m)
  of_each (x ∷ xs) {b} m = step (λ r. of_each xs r) (Memᴰ.append_cases (f x) m)
    where
      step : (Memᴰ b (each f xs) → From f xs b) → Memᴰ b (f x) ⊎ Memᴰ b (each f xs) → From f (x ∷ xs) b
      step rest (inl g) = record { source = x; within = Memᴰ.head refl; given = g }
      step rest (inr g) =
          let r = rest g in
          record { source = r.source; within = Memᴰ.tail r.within; given = r.given }
