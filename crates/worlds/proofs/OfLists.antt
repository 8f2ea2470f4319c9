-- Lists as sets: every element of one list is in the other.
use mathlib.Core.Path.{subst⁻¹}
use mathlib.Core.List.{List, [], ◌∷◌, Memᴰ}

abbrev pub Within : {A : Type 0} → List A → List A → Type 0
Within {A} xs ys = (x : A) → Memᴰ x xs → Memᴰ x ys

module _ {A : Type 0} where
  pub within_cons : {x : A} {xs ys : List A} → Memᴰ x ys → Within xs ys → Within (x ∷ xs) ys
  within_cons {x} {xs} {ys} m w y (Memᴰ.head e) = subst⁻¹ (λ (z : A). Memᴰ z ys) e m
  within_cons m w y (Memᴰ.tail k) = w y k

  pub within_both : {x : A} {xs ys : List A} → Within xs ys → Within (x ∷ xs) (x ∷ ys)
  within_both w y (Memᴰ.head e) = Memᴰ.head e
  within_both w y (Memᴰ.tail k) = Memᴰ.tail (w y k)

  pub within_nil : {xs : List A} → Within [] xs
  within_nil x m = elim m [ ]
