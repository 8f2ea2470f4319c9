-- A row's nodes as its three words give them: the lowest bit is the first node, and clearing it leaves the others.
use Prim.Native.Nat.{ℕ, zero, suc, ◌+◌, ◌*◌, ◌/◌, ◌%◌, ◌^◌, ◌<◌, ◌≤◌}
use mathlib.Core.Path.{◌≡◌, refl, sym, ap, ◌∙◌}
use mathlib.Core.Bool.{true, false}
use mathlib.Core.Logic.{◌≢◌}
use mathlib.Core.List.{Memᴰ, List, [], ◌∷◌}
use native.Mathlib.Omega.{arith}
use native.Mathlib.Decide.{ℕ_discrete, dec_lt}
use lib.ListN.{length, get_or, set}
use lib.Seq.{get_or-set_same, get_or-set_other}
use lib.Bits.{bit_and}
use Rattle.std.specs.Int.{w64, bit_not, trailing_zeros}
use Rattle.std.proofs.lemmas.Nat.Bits.{bit_at-trailing_zeros, bit_at-zero, bit_at_clear_same, bit_at_clear_other}
use Rattle.site.proofs.Lists.{is_false, keep_of, keep_found}
use Rattle.tables.specs.Bits.{bit_of, has, Has}
use Rattle.tables.specs.Listed.{numbers}
use Rattle.tables.specs.Rows.{has_bit, bits_in, row_of}
use Rattle.tables.proofs.Numbers.{keep_alike, keep_first, keep_none}
use Rattle.tables.proofs.OfNodes.{in_numbers}
use Rattle.tables.proofs.Words.{in_row, in_column, has_is_bit}

-- no bit
no_bit : (words : List ℕ) (y : ℕ) → get_or words (y / 64) 0 ≡ 0 → has_bit words y ≡ false
unfolding bit_of
no_bit words y e = rw (e, bit_at-zero (y % 64))

pub no_bits : (words : List ℕ) → ((i : ℕ) → i < 3 → get_or words i 0 ≡ 0) → bits_in words ≡ []
unfolding bits_in
no_bits words f = keep_none (has_bit words) 0 192 (omega arith) (λ y h. no_bit words y (f (y / 64) (omega arith)))

-- the lowest bit of the first word that is not 0
module _ (words : List ℕ) (w : ℕ) (l : length words ≡ 3) (h : w < 3) (before : (i : ℕ) → i < w → get_or words i 0 ≡ 0)
    (some : 0 < get_or words w 0) (fits : get_or words w 0 < 2 ^ 64) where
  abbrev word : ℕ
  word = get_or words w 0

  abbrev bit : ℕ
  bit = trailing_zeros w64 word

  abbrev cleared : ℕ
  cleared = bit_and word (bit_not w64 (1 * 2 ^ bit % 2 ^ 64))

  abbrev others : List ℕ
  others = set words w cleared

  in_word : bit < 64
  in_word = (bit_at-trailing_zeros w64 word some fits).0

  first : has_bit words (w * 64 + bit) ≡ true
  unfolding bit_of
  first =
      let k = in_word in
      let e : (w * 64 + bit) / 64 ≡ w = omega arith in
      let f : (w * 64 + bit) % 64 ≡ bit = omega arith in
      rw (e, f, (bit_at-trailing_zeros w64 word some fits).1)

  gone : has_bit others (w * 64 + bit) ≡ false
  unfolding bit_of
  gone =
      let k = in_word in
      let e : (w * 64 + bit) / 64 ≡ w = omega arith in
      let f : (w * 64 + bit) % 64 ≡ bit = omega arith in
      rw (e, f, get_or-set_same words w cleared 0 (omega arith), bit_at_clear_same w64 word bit k)

  lower : (y : ℕ) → y < w * 64 + bit → has_bit words y ≡ false
  unfolding bit_of
  lower y b = step (dec_lt (y / 64) w)
    where
      step : Dec (y / 64 < w) → has_bit words y ≡ false
      step (yes c) = no_bit words y (before (y / 64) c)
      step (no c) =
          let e : y / 64 ≡ w = omega (arith, in_word) in
          rw (e, (bit_at-trailing_zeros w64 word some fits).2 (y % 64) (omega arith))

  stays : (y : ℕ) → y ≢ w * 64 + bit → has_bit words y ≡ has_bit others y
  unfolding bit_of
  stays y d = step (ℕ_discrete (y / 64) w)
    where
      step : Dec (y / 64 ≡ w) → has_bit words y ≡ has_bit others y
      step (yes e) =
          rw (e, get_or-set_same words w cleared 0 (omega arith), bit_at_clear_other w64 word bit in_word (y % 64) (omega arith) (λ f. d (omega arith)))
      step (no c) = rw (get_or-set_other words w (y / 64) cleared 0 c)

  pub lowest_bit : bits_in words ≡ (w * 64 + bit) ∷ bits_in others
  unfolding bits_in
  lowest_bit =
      let k = in_word in
      keep_first (has_bit words) (has_bit others) (w * 64 + bit) first gone 0 192 (omega arith) (omega arith) lower (λ y b d. stays y d)

-- a row of a table is that of its three words
abbrev zeros : List ℕ
zeros = 0 ∷ 0 ∷ 0 ∷ []

pub row_over : (t : List ℕ) (x : ℕ) → 192 ≤ x → bits_in zeros ≡ row_of t x
unfolding row_of
row_over t x h = no_bits zeros all ∙ sym (keep_none (has t x) 0 192 (omega arith) (λ y k. is_false (λ e. let r = in_row t x y e in omega arith)))
  where
    all : (i : ℕ) → i < 3 → get_or zeros i 0 ≡ 0
    all zero k = refl
    all (suc zero) k = refl
    all (suc (suc zero)) k = refl
    all (suc (suc (suc i))) k = absurd (omega arith)

pub row_within : (t : List ℕ) (x : ℕ) → x < 192 → bits_in (get_or t (x * 3) 0 ∷ get_or t (x * 3 + 1) 0 ∷ get_or t (x * 3 + 2) 0 ∷ []) ≡ row_of t x
unfolding bits_in row_of
row_within t x h = keep_alike (has_bit three) (has t x) 0 192 (λ y a b. ap (λ w. bit_of w (y % 64)) (third (y / 64) (omega arith)) ∙ sym (has_is_bit t x y h b))
  where
    three : List ℕ
    three = get_or t (x * 3) 0 ∷ get_or t (x * 3 + 1) 0 ∷ get_or t (x * 3 + 2) 0 ∷ []

    third : (i : ℕ) → i < 3 → get_or (get_or t (x * 3) 0 ∷ get_or t (x * 3 + 1) 0 ∷ get_or t (x * 3 + 2) 0 ∷ []) i 0 ≡ get_or t (x * 3 + i) 0
    third zero k = let e : x * 3 + 0 ≡ x * 3 = omega arith in rw e
    third (suc zero) k = refl
    third (suc (suc zero)) k = refl
    third (suc (suc (suc i))) k = absurd (omega arith)

-- its list has just the nodes that the table has
module _ (t : List ℕ) (x u : ℕ) where
  pub in_row_of : Has t x u → Memᴰ u (row_of t x)
  unfolding row_of
  in_row_of h = keep_of (has t x) (in_numbers 0 192 u (omega arith) (in_column t x u h)) h

  pub of_row_of : Memᴰ u (row_of t x) → Has t x u
  unfolding row_of
  of_row_of m = (keep_found (has t x) (numbers 0 192) m).passes

pub ruleset rows = (no_bits, lowest_bit, row_over, row_within)
