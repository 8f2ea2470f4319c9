-- The numbers from one up to another as they come, those that pass a test among them, and the declared nodes.
use Prim.Native.Nat.{ℕ, zero, suc, ◌+◌, ◌-◌, ◌<◌, ◌≤◌}
use mathlib.Core.Path.{◌≡◌, refl, sym, ◌∙◌}
use mathlib.Core.Bool.{Bool, true, false, cond}
use mathlib.Core.Logic.{◌≢◌}
use mathlib.Core.List.{[], ◌∷◌}
use native.Mathlib.Omega.{arith}
use native.Mathlib.Decide.{ℕ_discrete}
use Rattle.std.specs.List.{range_with_len}
use Rattle.site.specs.Lists.{keep}
use Rattle.tables.specs.Listed.{numbers}

pub numbers_first : (s e : ℕ) → 0 < e - s → numbers s e ≡ s ∷ numbers (s + 1) e
unfolding numbers
numbers_first s e h =
    let k : e - s ≡ suc (e - (s + 1)) = omega arith in
    rw k

pub numbers_none : (s e : ℕ) → e - s ≡ 0 → numbers s e ≡ []
unfolding numbers
numbers_none s e h = rw h

-- two tests that agree keep the same
module _ (p q : ℕ → Bool) where
  kept_alike : (a n : ℕ) → ((i : ℕ) → a ≤ i → i < a + n → p i ≡ q i) → keep p (range_with_len a n) ≡ keep q (range_with_len a n)
  unfolding keep
  kept_alike a zero f = refl
  kept_alike a (suc n) f =
      rw (f a (omega arith) (omega arith), kept_alike (a + 1) n (λ i h k. f i (omega arith) (omega arith)))

  pub keep_alike : (s e : ℕ) → ((i : ℕ) → s ≤ i → i < e → p i ≡ q i) → keep p (numbers s e) ≡ keep q (numbers s e)
  unfolding numbers
  keep_alike s e f = kept_alike s (e - s) (λ i h k. f i h (omega arith))

  -- the first that passes comes, and the others are kept by a test that only it fails
  module _ (y : ℕ) (h : p y ≡ true) (k : q y ≡ false) where
    kept_first : (a n : ℕ) → a ≤ y → y < a + n → ((i : ℕ) → i < y → p i ≡ false) → ((i : ℕ) → i < a + n → i ≢ y → p i ≡ q i)
        → keep p (range_with_len a n) ≡ y ∷ keep q (range_with_len a n)
    unfolding keep
    kept_first a zero l m f g = absurd (omega arith)
    kept_first a (suc n) l m f g = step (ℕ_discrete a y) (λ d. kept_first (a + 1) n (omega arith) (omega arith) f (λ i c. g i (omega arith)))
      where
        step : Dec (a ≡ y) → (a ≢ y → keep p (range_with_len (a + 1) n) ≡ y ∷ keep q (range_with_len (a + 1) n)) → cond (p a) (a ∷ keep p (range_with_len (a + 1) n)) (keep p (range_with_len (a + 1) n)) ≡ y ∷ cond (q a) (a ∷ keep q (range_with_len (a + 1) n)) (keep q (range_with_len (a + 1) n))
        step (yes e) r = rw (e, h, k, kept_alike (y + 1) n (λ i b c. g i (omega arith) (λ z. absurd (omega arith))))
        step (no d) r = rw (f a (omega arith), sym (g a (omega arith) d) ∙ f a (omega arith)) (r d)

    pub keep_first : (s e : ℕ) → s ≤ y → y < e → ((i : ℕ) → i < y → p i ≡ false) → ((i : ℕ) → i < e → i ≢ y → p i ≡ q i)
        → keep p (numbers s e) ≡ y ∷ keep q (numbers s e)
    unfolding numbers
    keep_first s e l m f g = kept_first s (e - s) l (omega arith) f (λ i c. g i (omega arith))

-- a test that all fail keeps none
kept_none : (p : ℕ → Bool) (a n : ℕ) → ((i : ℕ) → i < a + n → p i ≡ false) → keep p (range_with_len a n) ≡ []
unfolding keep
kept_none p a zero f = refl
kept_none p a (suc n) f = rw (f a (omega arith), kept_none p (a + 1) n (λ i h. f i (omega arith)))

pub keep_none : (p : ℕ → Bool) (s e : ℕ) → s ≤ e → ((i : ℕ) → i < e → p i ≡ false) → keep p (numbers s e) ≡ []
unfolding numbers
keep_none p s e h f = kept_none p s (e - s) (λ i k. f i (omega arith))
