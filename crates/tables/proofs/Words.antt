-- What one store of a word does to a table: a bit of an or is a bit of one of the two, and a word belongs to one row and one third of it.
use Prim.Native.Nat.{ℕ, zero, suc, ◌+◌, ◌*◌, ◌/◌, ◌%◌, ◌^◌, ◌<◌, ◌≤◌, max}
use mathlib.Core.Path.{◌≡◌, refl, sym, ap, subst, ◌∙◌}
use mathlib.Core.Bool.{true, false, false≢true, ◌&&◌, ◌||◌}
use mathlib.Core.Logic.{◌⊎◌, inl, inr, ◌≢◌}
use mathlib.Core.List.{List}
use native.Mathlib.Omega.{arith}
use native.Mathlib.Decide.{ℕ_discrete}
use lib.ListN.{length, get_or, set}
use lib.Seq.{get_or-set_same, get_or-set_other}
use lib.Dec.{eqb, ltb}
use lib.Bits.{bit_or}
use lib.Pow.{shl_exact}
use borrow.Author.Tests.{ltb-true, lt-ltb}
use borrow.Author.Rules.{rules}
use Rattle.std.specs.Int.{bit_at}
use Rattle.std.proofs.lemmas.Nat.Bits.{bit_at-lt, bit_at_or, bit_at-pow_same, bit_at-pow_other}
use Rattle.site.proofs.Lists.{is_false, or_cases, or_left, or_right, and_left, and_right}
use Rattle.tables.specs.Bits.{bit_of, has, Has, Added, CameAdded, Mixed, Joined, CameJoined}
use Rattle.tables.specs.Bits.CameAdded.{old_one, new_one}
use Rattle.tables.specs.Bits.CameJoined.{old_one as old-join, from_row}

-- a bit of an or
digit_or : (m n : ℕ) → m < 2 → n < 2 → eqb (max m n) 1 ≡ (eqb m 1 || eqb n 1)
digit_or zero zero h k = refl
digit_or zero (suc zero) h k = refl
digit_or zero (suc (suc n)) h k = absurd (omega arith)
digit_or (suc zero) zero h k = refl
digit_or (suc zero) (suc zero) h k = refl
digit_or (suc zero) (suc (suc n)) h k = absurd (omega arith)
digit_or (suc (suc m)) n h k = absurd (omega arith)

pub bit_or_lem : (a b k : ℕ) → bit_of (bit_or a b) k ≡ (bit_of a k || bit_of b k)
unfolding bit_of
bit_or_lem a b k = rw (bit_at_or a b k) (digit_or (bit_at a k) (bit_at b k) (bit_at-lt a k) (bit_at-lt b k))

-- the bits of a power
pub bit_same : (k : ℕ) → bit_of (1 * 2 ^ k) k ≡ true
unfolding bit_of
bit_same k =
    let e : 1 * 2 ^ k ≡ 2 ^ k = omega arith in
    rw (e, bit_at-pow_same k)

pub bit_other : (k j : ℕ) → bit_of (1 * 2 ^ k) j ≡ true → j ≡ k
unfolding bit_of
bit_other k j h = step (ℕ_discrete j k)
  where
    step : Dec (j ≡ k) → j ≡ k
    step (yes e) = e
    step (no d) =
        let e : 1 * 2 ^ k ≡ 2 ^ k = omega arith in
        absurd (false≢true (rw (e, bit_at-pow_other k j d) at h))

-- outside of the table
outside : {x y : ℕ} → x < 192 → y < 192 → (192 ≤ x) ⊎ (192 ≤ y) → ⊥
outside h k (inl l) = omega arith
outside h k (inr l) = omega arith

-- the parts of a table's bit
module _ (t : List ℕ) (x y : ℕ) where
  pub in_row : Has t x y → x < 192
  unfolding has
  in_row h = ltb-true x 192 (and_left (ltb x 192) (ltb y 192 && bit_of (get_or t (x * 3 + y / 64) 0) (y % 64)) h)

  pub in_column : Has t x y → y < 192
  unfolding has
  in_column h =
      let r = and_right (ltb x 192) (ltb y 192 && bit_of (get_or t (x * 3 + y / 64) 0) (y % 64)) h in
      ltb-true y 192 (and_left (ltb y 192) (bit_of (get_or t (x * 3 + y / 64) 0) (y % 64)) r)

  pub bit_there : Has t x y → bit_of (get_or t (x * 3 + y / 64) 0) (y % 64) ≡ true
  unfolding has
  bit_there h =
      let r = and_right (ltb x 192) (ltb y 192 && bit_of (get_or t (x * 3 + y / 64) 0) (y % 64)) h in
      and_right (ltb y 192) (bit_of (get_or t (x * 3 + y / 64) 0) (y % 64)) r

  pub has_is_bit : x < 192 → y < 192 → has t x y ≡ bit_of (get_or t (x * 3 + y / 64) 0) (y % 64)
  unfolding has
  has_is_bit h k = rw (lt-ltb x 192 h, lt-ltb y 192 k)

  pub has_bit_lem : x < 192 → y < 192 → bit_of (get_or t (x * 3 + y / 64) 0) (y % 64) ≡ true → Has t x y
  has_bit_lem h k b = has_is_bit h k ∙ b

  -- the ways out of `get`
  pub get_over : (192 ≤ x) ⊎ (192 ≤ y) → false ≡ has t x y
  get_over o = sym (is_false (λ h. outside (in_row h) (in_column h) o))

  pub get_bit : x < 192 → y < 192 → eqb (get_or t (x * 3 + y / 64) 0 / 2 ^ (y % 64) % 2) 1 ≡ has t x y
  unfolding bit_of
  get_bit h k = sym (has_is_bit h k)

-- a word is in one row and one third of it
same_row : (u v x y : ℕ) → v < 192 → y < 192 → u * 3 + v / 64 ≡ x * 3 + y / 64 → u ≡ x
same_row u v x y h k e = omega arith

same_third : (u v x y : ℕ) → v < 192 → y < 192 → u * 3 + v / 64 ≡ x * 3 + y / 64 → v / 64 ≡ y / 64
same_third u v x y h k e = omega arith

same_column : (v y : ℕ) → v / 64 ≡ y / 64 → v % 64 ≡ y % 64 → v ≡ y
same_column v y h k = omega arith

-- one more bit in a word
module _ (t : List ℕ) (x y : ℕ) (l : length t ≡ 576) (h : x < 192) (k : y < 192) where
  abbrev at : ℕ
  at = x * 3 + y / 64

  abbrev put : List ℕ
  put = set t at (bit_or (get_or t at 0) ((1 * 2 ^ (y % 64)) % 18446744073709551616))

  exact : (1 * 2 ^ (y % 64)) % 2 ^ 64 ≡ 1 * 2 ^ (y % 64)
  exact = shl_exact 1 (y % 64) 64 (omega arith) (omega arith)

  at_place : get_or put at 0 ≡ bit_or (get_or t at 0) (1 * 2 ^ (y % 64))
  at_place =
      get_or-set_same t at (bit_or (get_or t at 0) ((1 * 2 ^ (y % 64)) % 18446744073709551616)) 0 (omega arith)
      ∙ ap (λ m. bit_or (get_or t at 0) m) exact

  elsewhere : (i : ℕ) → i ≢ at → get_or put i 0 ≡ get_or t i 0
  elsewhere i d = get_or-set_other t at i (bit_or (get_or t at 0) ((1 * 2 ^ (y % 64)) % 18446744073709551616)) 0 d

  put_bit : (v : ℕ) → bit_of (get_or put at 0) v ≡ (bit_of (get_or t at 0) v || bit_of (1 * 2 ^ (y % 64)) v)
  put_bit v = rw at_place (bit_or_lem (get_or t at 0) (1 * 2 ^ (y % 64)) v)

  put_stays : (u v : ℕ) → Has t u v → Has put u v
  put_stays u v b = has_bit_lem put u v (in_row t u v b) (in_column t u v b) (step (ℕ_discrete (u * 3 + v / 64) at) (bit_there t u v b))
    where
      step : Dec (u * 3 + v / 64 ≡ at) → bit_of (get_or t (u * 3 + v / 64) 0) (v % 64) ≡ true → bit_of (get_or put (u * 3 + v / 64) 0) (v % 64) ≡ true
      step (yes e) c =
          subst (λ i. bit_of (get_or put i 0) (v % 64) ≡ true) (sym e)
          (put_bit (v % 64) ∙ or_left (bit_of (get_or t at 0) (v % 64)) (bit_of (1 * 2 ^ (y % 64)) (v % 64)) (subst (λ i. bit_of (get_or t i 0) (v % 64) ≡ true) e c))
      step (no d) c = subst (λ w. bit_of w (v % 64) ≡ true) (sym (elsewhere (u * 3 + v / 64) d)) c

  put_comes : Has put x y
  put_comes = has_bit_lem put x y h k (put_bit (y % 64) ∙ or_right (bit_of (get_or t at 0) (y % 64)) (bit_of (1 * 2 ^ (y % 64)) (y % 64)) (bit_same (y % 64)))

  put_came : (u v : ℕ) → Has put u v → CameAdded t x y u v
  put_came u v b = step (ℕ_discrete (u * 3 + v / 64) at) (bit_there put u v b)
    where
      col : v < 192
      col = in_column put u v b

      row : u < 192
      row = in_row put u v b

      bits : u * 3 + v / 64 ≡ at → (bit_of (get_or t at 0) (v % 64) ≡ true) ⊎ (bit_of (1 * 2 ^ (y % 64)) (v % 64) ≡ true) → CameAdded t x y u v
      bits e (inl c) = old_one (has_bit_lem t u v row col (subst (λ i. bit_of (get_or t i 0) (v % 64) ≡ true) (sym e) c))
      bits e (inr c) = new_one (same_row u v x y col k e) (same_column v y (same_third u v x y col k e) (bit_other (y % 64) (v % 64) c))

      step : Dec (u * 3 + v / 64 ≡ at) → bit_of (get_or put (u * 3 + v / 64) 0) (v % 64) ≡ true → CameAdded t x y u v
      step (yes e) c =
          bits e
          (or_cases (bit_of (get_or t at 0) (v % 64)) (bit_of (1 * 2 ^ (y % 64)) (v % 64))
          (sym (put_bit (v % 64)) ∙ subst (λ i. bit_of (get_or put i 0) (v % 64) ≡ true) e c))
      step (no d) c = old_one (has_bit_lem t u v row col (subst (λ w. bit_of w (v % 64) ≡ true) (elsewhere (u * 3 + v / 64) d) c))

  pub add_bit : Added t put x y
  add_bit =
      record {
        stays = put_stays;
        comes = λ _ _. put_comes;
        came = put_came;
      }

-- a row taken in
pub join_over : (t : List ℕ) (x y : ℕ) → (192 ≤ x) ⊎ (192 ≤ y) → Joined t t x y
join_over t x y o = record { stays = λ u v h. h; comes = λ h v k. absurd (outside h (in_row t y v k) o); came = λ u v h. old-join h }

module _ (t new : List ℕ) (x y w : ℕ) (h : x < 192) (k : y < 192) (a : 3 ≤ w) (z : w ≤ 3) (m : Mixed w t new x y) where
  row_bit : (v : ℕ) → v < 192
      → bit_of (get_or new (x * 3 + v / 64) 0) (v % 64) ≡ (bit_of (get_or t (x * 3 + v / 64) 0) (v % 64) || bit_of (get_or t (y * 3 + v / 64) 0) (v % 64))
  row_bit v b = rw (m.taken (v / 64) (omega arith)) (bit_or_lem (get_or t (x * 3 + v / 64) 0) (get_or t (y * 3 + v / 64) 0) (v % 64))

  other_row : (u v : ℕ) → v < 192 → u ≢ x → get_or new (u * 3 + v / 64) 0 ≡ get_or t (u * 3 + v / 64) 0
  other_row u v b d = m.others (u * 3 + v / 64) (λ i l e. d (omega arith))

  joined_stays : (u v : ℕ) → Has t u v → Has new u v
  joined_stays u v b = has_bit_lem new u v (in_row t u v b) col (step (ℕ_discrete u x) (bit_there t u v b))
    where
      col : v < 192
      col = in_column t u v b

      step : Dec (u ≡ x) → bit_of (get_or t (u * 3 + v / 64) 0) (v % 64) ≡ true → bit_of (get_or new (u * 3 + v / 64) 0) (v % 64) ≡ true
      step (yes e) c =
          subst (λ z. bit_of (get_or new (z * 3 + v / 64) 0) (v % 64) ≡ true) (sym e)
          (row_bit v col
          ∙ or_left (bit_of (get_or t (x * 3 + v / 64) 0) (v % 64)) (bit_of (get_or t (y * 3 + v / 64) 0) (v % 64)) (subst (λ z. bit_of (get_or t (z * 3 + v / 64) 0) (v % 64) ≡ true) e c))
      step (no d) c = subst (λ w. bit_of w (v % 64) ≡ true) (sym (other_row u v col d)) c

  joined_comes : (v : ℕ) → Has t y v → Has new x v
  joined_comes v b =
      let col = in_column t y v b in
      has_bit_lem new x v h col
      (row_bit v col ∙ or_right (bit_of (get_or t (x * 3 + v / 64) 0) (v % 64)) (bit_of (get_or t (y * 3 + v / 64) 0) (v % 64)) (bit_there t y v b))

  joined_came : (u v : ℕ) → Has new u v → CameJoined t x y u v
  joined_came u v b = step (ℕ_discrete u x) (bit_there new u v b)
    where
      col : v < 192
      col = in_column new u v b

      row : u < 192
      row = in_row new u v b

      bits : u ≡ x → (bit_of (get_or t (x * 3 + v / 64) 0) (v % 64) ≡ true) ⊎ (bit_of (get_or t (y * 3 + v / 64) 0) (v % 64) ≡ true) → CameJoined t x y u v
      bits e (inl c) = old-join (has_bit_lem t u v row col (subst (λ z. bit_of (get_or t (z * 3 + v / 64) 0) (v % 64) ≡ true) (sym e) c))
      bits e (inr c) = from_row e (has_bit_lem t y v k col c)

      step : Dec (u ≡ x) → bit_of (get_or new (u * 3 + v / 64) 0) (v % 64) ≡ true → CameJoined t x y u v
      step (yes e) c =
          bits e
          (or_cases (bit_of (get_or t (x * 3 + v / 64) 0) (v % 64)) (bit_of (get_or t (y * 3 + v / 64) 0) (v % 64))
          (sym (row_bit v col) ∙ subst (λ z. bit_of (get_or new (z * 3 + v / 64) 0) (v % 64) ≡ true) e c))
      step (no d) c = old-join (has_bit_lem t u v row col (subst (λ w. bit_of w (v % 64) ≡ true) (other_row u v col d) c))

  pub join_row : Joined t new x y
  join_row = record { stays = joined_stays; comes = λ _. joined_comes; came = joined_came }

pub mixed_start : (t : List ℕ) (x y : ℕ) → Mixed 0 t t x y
mixed_start t x y = record { taken = λ i l. absurd (omega arith); others = λ i f. refl }

-- one more word: it is read before it is written, also if the two rows are one
pub mixed_on : (w : ℕ) (old t : List ℕ) (x y : ℕ) → length t ≡ 576 → x < 192 → y < 192 → w < 3 → Mixed w old t x y
    → Mixed (w + 1) old (set t (x * 3 + w) (bit_or (get_or t (x * 3 + w) 0) (get_or t (y * 3 + w) 0))) x y
mixed_on w old t x y l h k b m =
    record {
      taken = λ i c. step i c (ℕ_discrete i w);
      others = λ i f. get_or-set_other t (x * 3 + w) i put 0 (f w (omega arith)) ∙ m.others i (λ n c. f n (omega arith));
    }
  where
    put : ℕ
    put = bit_or (get_or t (x * 3 + w) 0) (get_or t (y * 3 + w) 0)

    step : (i : ℕ) → i < w + 1 → Dec (i ≡ w) → get_or (set t (x * 3 + w) put) (x * 3 + i) 0 ≡ bit_or (get_or old (x * 3 + i) 0) (get_or old (y * 3 + i) 0)
    step i c (yes e) =
        rw e
        (get_or-set_same t (x * 3 + w) put 0 (omega arith)
        ∙ rw (m.others (x * 3 + w) (λ n d f. omega arith), m.others (y * 3 + w) (λ n d f. omega arith)))
    step i c (no d) = get_or-set_other t (x * 3 + w) (x * 3 + i) put 0 (λ e. d (omega arith)) ∙ m.taken i (omega arith)

pub ruleset words = (get_over, get_bit, add_bit, mixed_start, mixed_on, join_over, join_row, rules)
