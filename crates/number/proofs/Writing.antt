-- What the code's tests on the value say of `bytes_of` and `plan`: one law for each way out of the writing functions.
use Prim.Native.Nat.{ℕ, suc, ◌+◌, ◌-◌, ◌/◌, ◌%◌, ◌≤◌, ◌<◌}
use mathlib.Core.Path.{◌≡◌, refl}
use mathlib.Core.List.{List, [], ◌∷◌}
use mathlib.Core.Bool.{Bool, true, false, cond}
use lib.ListN.{length, set, length-set}
use lib.Dec.{ltb}
use native.Mathlib.Numerals.{add-one}
use native.Mathlib.Omega.{arith}
use borrow.Author.Tests.{lt-ltb, le-ltb, le-leb, lt-leb, ltb-true, ltb-false}
use borrow.Author.Rules.{rules}
use Rattle.number.specs.Answer.{refusal}
use Rattle.number.specs.declared.refusal.Refusal.{Refusal}
use Rattle.std.specs.Prelude.{Ok, Err}
use Rattle.number.specs.Number.{bytes_of, plan, three_bytes}
use Rattle.number.specs.Told.{Writes, Stores, Stored}
use Rattle.number.specs.declared.refusal.Fault.{Fault}
use Rattle.number.specs.declared.refusal.Fault.TheVariants.{Over, Room}
use Rattle.number.specs.declared.refusal.Side.TheVariants.{Call}

-- what holds of either holds of the one that the test picks
pub picked : {A : Type 0} (P : A → Type 0) (x y : A) (t : Bool) → (t ≡ true → P x) → (t ≡ false → P y) → P (cond t x y)
picked P x y true holds fails = holds refl
picked P x y false holds fails = fails refl

-- the three forms
module _ (v : ℕ) where
  pub bytes_1 : v < 128 → bytes_of v ≡ v ∷ []
  unfolding bytes_of
  bytes_1 h = rw (lt-ltb v 128 h)

  pub bytes_2 : 128 ≤ v → v < 16384 → bytes_of v ≡ (v % 128 + 128) ∷ (v / 128) ∷ []
  unfolding bytes_of
  bytes_2 h k = rw (le-ltb v 128 h, lt-ltb v 16384 k)

  pub bytes_3 : 16384 ≤ v → bytes_of v ≡ (v % 128 + 128) ∷ (v / 128 % 128 + 128) ∷ (v / 16384) ∷ []
  unfolding bytes_of
  bytes_3 h = rw (le-ltb v 128 (omega arith), le-ltb v 16384 h)

  pub size_1 : v < 128 → 1 ≡ length (bytes_of v)
  size_1 h = rw (bytes_1 h)

  pub size_2 : 128 ≤ v → v < 16384 → 2 ≡ length (bytes_of v)
  size_2 h k = rw (bytes_2 h k)

  pub size_3 : 16384 ≤ v → 3 ≡ length (bytes_of v)
  size_3 h = rw (bytes_3 h)

  -- a law of a value's bytes is a law of the three forms
  pub by_form : (P : List ℕ → Type 0)
      → (v < 128 → P (v ∷ []))
      → (128 ≤ v → v < 16384 → P ((v % 128 + 128) ∷ (v / 128) ∷ []))
      → (16384 ≤ v → P ((v % 128 + 128) ∷ (v / 128 % 128 + 128) ∷ (v / 16384) ∷ []))
      → P (bytes_of v)
  unfolding bytes_of
  by_form P one two three =
      picked P _ _ (ltb v 128)
      (λ t. one (ltb-true v 128 t))
      (λ f. picked P _ _ (ltb v 16384) (λ t. two (ltb-false v 128 f) (ltb-true v 16384 t)) (λ g. three (ltb-false v 16384 g)))

  -- every form has a byte
  pub sized : 0 < length (bytes_of v)
  sized = by_form (λ l. 0 < length l) (λ h. omega arith) (λ h k. omega arith) (λ h. omega arith)

-- the stores, one after the other
module _ (out : List ℕ) (at v : ℕ) (fits : Stores out at v) where
  pub in_first : at < length out
  in_first = omega (arith, fits.room, sized v)

  pub stored_1 : v < 128 → Stored out at v (at + 1) (set out at v)
  stored_1 h = record { place = rw (← (size_1 v h)); memory = rw (bytes_1 v h) }

  module _ (x : ℕ) where
    pub in_second : 128 ≤ v → v < 16384 → at + 1 < length (set out at x)
    in_second h k = simp length-set (omega (arith, fits.room, size_2 v h k))

    pub in_second_of_three : 16384 ≤ v → at + 1 < length (set out at x)
    in_second_of_three h = simp length-set (omega (arith, fits.room, size_3 v h))

    pub in_third : (y : ℕ) → 16384 ≤ v → at + 1 + 1 < length (set (set out at x) (at + 1) y)
    in_third y h = simp length-set (omega (arith, fits.room, size_3 v h))

  pub stored_2 : 128 ≤ v → v < 16384 → Stored out at v (at + 1 + 1) (set (set out at (v % 128 + 128)) (at + 1) (v / 128))
  stored_2 h k = record { place = rw (← (size_2 v h k)) (omega arith); memory = rw (bytes_2 v h k, add-one) }

  pub stored_3 : 16384 ≤ v
      → Stored out at v (at + 1 + 1 + 1) (set (set (set out at (v % 128 + 128)) (at + 1) (v / 128 % 128 + 128)) (at + 1 + 1) (v / 16384))
  stored_3 h =
      record { place = rw (← (size_3 v h)) (omega arith); memory = rw (bytes_3 v h, add-one at, add-one (suc at)) }

-- the tests of `write_number`, in their order
module _ (out : List ℕ) (at v most : ℕ) where
  refused : (n : Fault) → plan (length out) at v most ≡ Err (refusal n Call 0) → (r : Refusal) → r ≡ refusal n Call 0 → Writes out at v most (Err r) out
  refused n p r e = record { answer = rw (p, e); memory = rw p }

  pub over_most : most < v → (r : Refusal) → r ≡ refusal Over Call 0 → Writes out at v most (Err r) out
  unfolding plan
  over_most h = refused Over (rw (lt-leb v most h))

  module _ (within : v ≤ most) where
    pub over_forms : three_bytes < v → (r : Refusal) → r ≡ refusal Over Call 0 → Writes out at v most (Err r) out
    unfolding plan
    over_forms h = refused Over (rw (le-leb v most within, lt-leb v three_bytes h))

    module _ (formed : v ≤ three_bytes) where
      no_room : length out < at + length (bytes_of v) → plan (length out) at v most ≡ Err (refusal Room Call 0)
      unfolding plan
      no_room h = rw (le-leb v most within, le-leb v three_bytes formed, lt-leb (at + length (bytes_of v)) (length out) h)

      pub past_end : length out < at → (r : Refusal) → r ≡ refusal Room Call 0 → Writes out at v most (Err r) out
      past_end h = refused Room (no_room (omega arith))

      module _ (n : ℕ) (is-size : n ≡ length (bytes_of v)) (inside : at ≤ length out) where
        pub too_short : length out - at < n → (r : Refusal) → r ≡ refusal Room Call 0 → Writes out at v most (Err r) out
        too_short h = refused Room (no_room (omega arith))

        pub fits : n ≤ length out - at → Stores out at v
        fits h = record { formed = formed; room = omega arith }

        pub written : n ≤ length out - at → (next : ℕ) (out' : List ℕ) → Stored out at v next out' → Writes out at v most (Ok next) out'
        unfolding plan
        written h next out' st =
            let planned : plan (length out) at v most ≡ Ok (bytes_of v) =
            rw (le-leb v most within, le-leb v three_bytes formed, le-leb (at + length (bytes_of v)) (length out) (omega arith)) in
            record { answer = rw (planned, st.place); memory = rw planned st.memory }

pub ruleset writing = (size_1, size_2, size_3, in_first, in_second, in_second_of_three, in_third, stored_1, stored_2, stored_3, over_most, over_forms, past_end, too_short, fits, written, rules)
