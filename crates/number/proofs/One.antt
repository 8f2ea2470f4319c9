-- The law by which every promise leaves one answer: two outcomes that are equal to the same definition are equal.
-- An enum says its answer through a definition of its cases; where that can be undone, it tells the cases apart.
use mathlib.Core.Path.{◌≡◌, sym, ap, ◌∙◌}
use mathlib.Core.List.{List}

pub one : {A : Type 0} {x y z : A} → x ≡ z → y ≡ z → x ≡ y
one p q = p ∙ sym q

-- what can be undone tells its arguments apart
pub undone : {A B : Type 0} (f : A → B) (back : B → A) → ((a : A) → back (f a) ≡ a) → (a a' : A) → f a ≡ f a' → a ≡ a'
undone f back is a a' e = sym (is a) ∙ ap back e ∙ is a'

-- two outcomes of a call that writes are the same: the answer, and the lent memory afterwards
pub record Same {A B : Type 0} (r r' : A) (out out' : List B) : Type 0 where
  pub answer : r ≡ r'
  pub memory : out ≡ out'
