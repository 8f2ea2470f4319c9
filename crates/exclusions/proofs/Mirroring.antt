-- What a row has, has the row: a table made symmetric, in place.
use Prim.Native.Nat.{ℕ, ◌<◌}
use mathlib.Core.Path.{sym, subst}
use mathlib.Core.Logic.{◌⊎◌, inl, inr}
use mathlib.Core.List.Memᴰ
use mathlib.Core.List.{List, [], ◌∷◌, ◌++◌, Memᴰ}
use Rattle.tables.specs.Bits.{Has, Added, CameAdded}
use Rattle.tables.specs.Bits.CameAdded.{old_one, new_one}
use Rattle.tables.specs.Rows.{row_of}
use Rattle.tables.proofs.Rows.{in_row_of, of_row_of}
use Rattle.tables.proofs.Words.{in_row, in_column}
use Rattle.exclusions.specs.Lowering.{Either, CameGiven, Given, Mirrored}
use Rattle.exclusions.specs.Lowering.CameGiven.{at_once as stood, given}
use Rattle.exclusions.specs.Lowering.Either.{this_way, other_way}

-- one row
pub given_start : (t : List ℕ) (x : ℕ) → Given [] t t x
given_start t x = record { stays = λ a v h. h; comes = λ u n. absurd (Memᴰ.not-nil n); came = λ a v h. stood h }

pub given_on : (us old t new : List ℕ) (x u : ℕ) → Given us old t x → Added t new u x → Given (us ++ u ∷ []) old new x
given_on us old t new x u p q =
    record {
      stays = λ a v h. q.stays a v (p.stays a v h);
      comes = λ y n k s. step y (Memᴰ.append_cases us n) k s;
      came = λ a v h. back a v (q.came a v h);
    }
  where
    step : (y : ℕ) → Memᴰ y us ⊎ Memᴰ y (u ∷ []) → y < 192 → x < 192 → Has new y x
    step y (inl n) k s = q.stays y x (p.comes y n k s)
    step y (inr n) k s =
        let e = Memᴰ.eq_of_singleton n in
        subst (λ z. Has new z x) (sym e) (q.comes (subst (λ z. z < 192) e k) s)

    more : (a v : ℕ) → CameGiven us old x a v → CameGiven (us ++ u ∷ []) old x a v
    more a v (stood h) = stood h
    more a v (given n e) = given (Memᴰ.append_left (u ∷ []) n) e

    back : (a v : ℕ) → CameAdded t u x a v → CameGiven (us ++ u ∷ []) old x a v
    back a v (old_one h) = more a v (p.came a v h)
    back a v (new_one f e) = given (Memᴰ.append_right us (Memᴰ.head f)) e

-- all rows
flip : {t : List ℕ} {u v : ℕ} → Either t u v → Either t v u
flip (this_way k) = other_way k
flip (other_way k) = this_way k

pub mirrored_start : (t : List ℕ) → Mirrored [] t t
mirrored_start t = record { stays = λ u v h. h; comes = λ x y n. absurd (Memᴰ.not-nil n); came = λ u v h. this_way h }

pub mirrored_on : (xs old t new : List ℕ) (x : ℕ) → Mirrored xs old t → Given (row_of t x) t new x → Mirrored (xs ++ x ∷ []) old new
mirrored_on xs old t new x p q =
    record {
      stays = λ u v h. q.stays u v (p.stays u v h);
      comes = λ z y n h. step z y (Memᴰ.append_cases xs n) h;
      came = λ u v h. back u v (q.came u v h);
    }
  where
    step : (z y : ℕ) → Memᴰ z xs ⊎ Memᴰ z (x ∷ []) → Has old z y → Has new y z
    step z y (inl n) h = q.stays y z (p.comes z y n h)
    step z y (inr n) h =
        let e = Memᴰ.eq_of_singleton n in
        let there : Has t x y = subst (λ u. Has t u y) e (p.stays z y h) in
        subst (Has new y) (sym e) (q.comes y (in_row_of t x y there) (in_column t x y there) (in_row t x y there))

    back : (u v : ℕ) → CameGiven (row_of t x) t x u v → Either old u v
    back u v (stood h) = p.came u v h
    back u v (given n e) = flip (p.came v u (subst (λ y. Has t y u) (sym e) (of_row_of t x u n)))
