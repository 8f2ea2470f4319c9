-- The smallest relation with R that is transitive, and reflexive where D holds.
pub data Closed {A : Type 0} (D : A → Type 0) (R : A → A → Type 0) : A → A → Type 0 where
  here : {x : A} → D x → Closed D R x x
  one : {x y : A} → R x y → Closed D R x y
  on : {x y z : A} → Closed D R x y → Closed D R y z → Closed D R x z
