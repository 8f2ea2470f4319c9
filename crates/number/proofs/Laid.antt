-- What lies in lent memory after something was written from its first slot on: that, and then what was there.
use Prim.Native.Nat.{ℕ, ◌+◌, ◌≤◌, ◌<◌}
use mathlib.Core.Path.{◌≡◌, refl, ap, ◌∙◌}
use mathlib.Core.List.{List, [], ◌∷◌, ◌++◌}
use native.Mathlib.Omega.{arith}
use lib.ListN.{length, get_or, take, drop, get_or-append}
use lib.Seq.{sets, sets-eq}

module _ {A : Type 0} where
  pub take_front : (xs ys : List A) → take (length xs) (xs ++ ys) ≡ xs
  take_front [] ys = refl
  take_front (x ∷ xs) ys = ap (λ (l : List A). x ∷ l) (take_front xs ys)

  module _ (out vs : List A) (fits : length vs ≤ length out) where
    pub laid_front : sets out 0 vs ≡ vs ++ drop (length vs) out
    laid_front = sets-eq vs out 0 (omega arith) ∙ ap (λ (k : ℕ). vs ++ drop k out) (none (length vs))
      where
        none : (n : ℕ) → 0 + n ≡ n
        none n = omega arith

    pub laid_at : (k : ℕ) (d : A) → k < length vs → get_or (sets out 0 vs) k d ≡ get_or vs k d
    laid_at k d less = ap (λ (l : List A). get_or l k d) laid_front ∙ get_or-append vs (drop (length vs) out) d k less

    pub laid_taken : take (length vs) (sets out 0 vs) ≡ vs
    laid_taken = ap (take (length vs)) laid_front ∙ take_front vs (drop (length vs) out)
