-- One row of a table takes others in, then all rows do. It works in place: what a row has taken in already is lower down along the same
-- order, which is transitive, so nothing new comes of it.
use Prim.Native.Nat.{ℕ, ◌<◌}
use mathlib.Core.Path.{◌≡◌, refl, sym, subst}
use mathlib.Core.Logic.{◌⊎◌, inl, inr}
use mathlib.Core.List.Memᴰ
use mathlib.Core.List.{List, [], ◌∷◌, ◌++◌, Memᴰ}
use Rattle.tables.specs.Bits.{Has, Joined, CameJoined}
use Rattle.tables.specs.Bits.CameJoined.{old_one as old-join, from_row}
use Rattle.tables.specs.Rows.{row_of}
use Rattle.tables.proofs.Rows.{in_row_of, of_row_of}
use Rattle.tables.proofs.Words.{in_row}
use Rattle.exclusions.specs.Lowering.{Transitive, CameTaken, Taken, Down, Widened}
use Rattle.exclusions.specs.Lowering.CameTaken.{at_once as stood, taken}
use Rattle.exclusions.specs.Lowering.Down.{at_once, below}

-- one row
pub taken_start : (t : List ℕ) (x : ℕ) → Taken [] t t x
taken_start t x = record { stays = λ a v h. h; comes = λ u v n. absurd (Memᴰ.not-nil n); came = λ a v h. stood h }

pub taken_on : (us old t new : List ℕ) (x u : ℕ) → Taken us old t x → Joined t new x u → Taken (us ++ u ∷ []) old new x
taken_on us old t new x u p q =
    record {
      stays = λ a v h. q.stays a v (p.stays a v h);
      comes = λ y v n s h. step y v (Memᴰ.append_cases us n) s h;
      came = λ a v h. back a v (q.came a v h);
    }
  where
    step : (y v : ℕ) → Memᴰ y us ⊎ Memᴰ y (u ∷ []) → x < 192 → Has old y v → Has new x v
    step y v (inl n) s h = q.stays x v (p.comes y v n s h)
    step y v (inr n) s h = q.comes s v (subst (λ z. Has t z v) (Memᴰ.eq_of_singleton n) (p.stays y v h))

    more : (a v : ℕ) → CameTaken us old x a v → CameTaken (us ++ u ∷ []) old x a v
    more a v (stood h) = stood h
    more a v (taken y n e h) = taken y (Memᴰ.append_left (u ∷ []) n) e h

    -- what row u has of the rows that were taken in before, it has from them
    again : (a v : ℕ) → a ≡ x → CameTaken us old x u v → CameTaken (us ++ u ∷ []) old x a v
    again a v z (stood h) = taken u (Memᴰ.append_right us (Memᴰ.head refl)) z h
    again a v z (taken y n e h) = taken y (Memᴰ.append_left (u ∷ []) n) z h

    back : (a v : ℕ) → CameJoined t x u a v → CameTaken (us ++ u ∷ []) old x a v
    back a v (old-join h) = more a v (p.came a v h)
    back a v (from_row z h) = again a v z (p.came u v h)

-- all rows
down_before : {by t : List ℕ} {a u v : ℕ} → Transitive by → Has by a u → Down by t u v → Down by t a v
down_before {u = u} tr h (at_once k) = below u h k
down_before {a = a} {u = u} tr h (below w k l) = below w (tr a u w h k) l

module _ (by : List ℕ) where
  pub widened_start : (t : List ℕ) → Widened by [] t t
  widened_start t = record { stays = λ a v h. h; comes = λ x u v n. absurd (Memᴰ.not-nil n); came = λ tr a v h. at_once h }

  pub widened_on : (xs old t new : List ℕ) (x : ℕ) → Widened by xs old t → Taken (row_of by x) t new x → Widened by (xs ++ x ∷ []) old new
  widened_on xs old t new x p q =
      record {
        stays = λ a v h. q.stays a v (p.stays a v h);
        comes = λ y u v n h k. step y u v (Memᴰ.append_cases xs n) h k;
        came = λ tr a v h. back tr a v (q.came a v h);
      }
    where
      step : (y u v : ℕ) → Memᴰ y xs ⊎ Memᴰ y (x ∷ []) → Has by y u → Has old u v → Has new y v
      step y u v (inl n) h k = q.stays y v (p.comes y u v n h k)
      step y u v (inr n) h k =
          let e = Memᴰ.eq_of_singleton n in
          let there : Has by x u = subst (λ z. Has by z u) e h in
          subst (λ z. Has new z v) (sym e) (q.comes u v (in_row_of by x u there) (in_row by x u there) (p.stays u v k))

      back : Transitive by → (a v : ℕ) → CameTaken (row_of by x) t x a v → Down by old a v
      back tr a v (stood h) = p.came tr a v h
      back tr a v (taken u n z h) = down_before tr (subst (λ y. Has by y u) (sym z) (of_row_of by x u n)) (p.came tr u v h)
