-- Plain functions on lists that the definitions of every layer use.
use Rattle.std.specs.Prelude.{ℕ, zero, suc, ◌+◌, Bool, false, cond, ◌||◌, List, [], ◌∷◌, ◌++◌}

-- the numbers below n, ascending
unfoldable pub up_to : ℕ → List ℕ
up_to zero = []
up_to (suc n) = up_to n ++ (n ∷ [])

module _ {A : Type 0} where
  -- does some element pass?
  unfoldable pub any : (A → Bool) → List A → Bool
  any p [] = false
  any p (x ∷ xs) = p x || any p xs

  -- how many elements pass
  unfoldable pub count : (A → Bool) → List A → ℕ
  count p [] = 0
  count p (x ∷ xs) = cond (p x) (suc (count p xs)) (count p xs)

  -- the elements that pass, in order
  unfoldable pub keep : (A → Bool) → List A → List A
  keep p [] = []
  keep p (x ∷ xs) = cond (p x) (x ∷ keep p xs) (keep p xs)

  -- the number of the first element that passes, counted from k; or what stands for none
  unfoldable pub first : ℕ → (A → Bool) → ℕ → List A → ℕ
  first none p k [] = none
  first none p k (x ∷ xs) = cond (p x) k (first none p (k + 1) xs)

  -- the lists that the elements give, one after the other
  unfoldable pub each : {B : Type 0} → (A → List B) → List A → List B
  each f [] = []
  each f (x ∷ xs) = f x ++ each f xs
