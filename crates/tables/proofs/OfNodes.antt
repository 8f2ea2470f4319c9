-- The list of the declared nodes has just those that stand at a place, and a loop over them comes to all of them.
use Prim.Native.Nat.{ℕ, zero, suc, ◌+◌, ◌-◌, ◌*◌, ◌<◌, ◌≤◌}
use mathlib.Core.Path.{◌≡◌, ◌∙◌}
use mathlib.Core.Logic.{◌⊎◌, inl, inr}
use mathlib.Core.List.Memᴰ
use mathlib.Core.List.{◌∷◌, ◌++◌, Memᴰ}
use native.Mathlib.Omega.{arith}
use native.Mathlib.Decide.{ℕ_discrete, dec_lt}
use borrow.Author.Tests.{lt-ltb, le-ltb}
use Rattle.std.specs.List.{range_with_len}
use Rattle.tables.specs.Listed.{node_at, numbers, nodes_of, Listed}

-- the numbers from one up to another
in_range : (a n x : ℕ) → a ≤ x → x < a + n → Memᴰ x (range_with_len a n)
in_range a zero x h k = absurd (omega arith)
in_range a (suc n) x h k = step (ℕ_discrete x a) (λ d. in_range (a + 1) n x (omega arith) (omega arith))
  where
    step : Dec (x ≡ a) → ((x ≡ a → ⊥) → Memᴰ x (range_with_len (a + 1) n)) → Memᴰ x (a ∷ range_with_len (a + 1) n)
    step (yes e) r = Memᴰ.head e
    step (no d) r = Memᴰ.tail (r d)

of_range : (a n x : ℕ) → Memᴰ x (range_with_len a n) → (a ≤ x) × (x < a + n)
of_range a zero x m = absurd (Memᴰ.not-nil m)
of_range a (suc n) x m = step (Memᴰ.cases_cons m) (λ k. of_range (a + 1) n x k)
  where
    step : (x ≡ a) ⊎ Memᴰ x (range_with_len (a + 1) n) → (Memᴰ x (range_with_len (a + 1) n) → (a + 1 ≤ x) × (x < a + 1 + n)) → (a ≤ x) × (x < a + suc n)
    step (inl e) r = (omega arith, omega arith)
    step (inr k) r = let b = r k in (omega arith, omega arith)

pub in_numbers : (s e x : ℕ) → s ≤ x → x < e → Memᴰ x (numbers s e)
unfolding numbers
in_numbers s e x h k = in_range s (e - s) x h (omega arith)

pub of_numbers : (s e x : ℕ) → Memᴰ x (numbers s e) → (s ≤ x) × (x < e)
unfolding numbers
of_numbers s e x m = let b = of_range s (e - s) x m in (b.0, omega arith)

-- the node at a place
module _ (c r i : ℕ) where
  at_concept : i < c → node_at c r i ≡ i
  unfolding node_at
  at_concept h = rw (lt-ltb i c h)

  at_partner : c ≤ i → i - c < 2 * r → node_at c r i ≡ 64 + (i - c)
  unfolding node_at
  at_partner h k = rw (le-ltb i c h, lt-ltb (i - c) (2 * r) k)

  at_role : c ≤ i → 2 * r ≤ i - c → node_at c r i ≡ 128 + (i - c - 2 * r)
  unfolding node_at
  at_role h k = rw (le-ltb i c h, le-ltb (i - c) (2 * r) k)

module _ (c r x : ℕ) where
  pub in_nodes : Listed c r x → Memᴰ x (nodes_of c r)
  unfolding nodes_of
  in_nodes l = step (dec_lt i c) (dec_lt (i - c) (2 * r))
    where
      i : ℕ
      i = l.place

      step : Dec (l.place < c) → Dec (l.place - c < 2 * r) → Memᴰ x (numbers 0 c ++ (numbers 64 (64 + 2 * r) ++ numbers 128 (128 + 2 * r)))
      step (yes h) d =
          let e = at_concept c r l.place h in
          let f = l.stands in
          Memᴰ.append_left (numbers 64 (64 + 2 * r) ++ numbers 128 (128 + 2 * r)) (in_numbers 0 c x (omega arith) (omega arith))
      step (no h) (yes k) =
          let e = at_partner c r l.place (omega arith) k in
          let f = l.stands in
          Memᴰ.append_right (numbers 0 c) (Memᴰ.append_left (numbers 128 (128 + 2 * r)) (in_numbers 64 (64 + 2 * r) x (omega arith) (omega arith)))
      step (no h) (no k) =
          let e = at_role c r l.place (omega arith) (omega arith) in
          let f = l.stands in
          let b = l.below in
          Memᴰ.append_right (numbers 0 c) (Memᴰ.append_right (numbers 64 (64 + 2 * r)) (in_numbers 128 (128 + 2 * r) x (omega arith) (omega arith)))

  pub of_nodes : Memᴰ x (nodes_of c r) → x < 192 → Listed c r x
  unfolding nodes_of
  of_nodes m s = step (Memᴰ.append_cases (numbers 0 c) m)
    where
      later : Memᴰ x (numbers 64 (64 + 2 * r)) ⊎ Memᴰ x (numbers 128 (128 + 2 * r)) → Listed c r x
      later (inl k) =
          let b = of_numbers 64 (64 + 2 * r) x k in
          let e = at_partner c r (c + (x - 64)) (omega arith) (omega arith) in
          record { place = c + (x - 64); below = omega arith; stands = e ∙ omega arith; small = s }
      later (inr k) =
          let b = of_numbers 128 (128 + 2 * r) x k in
          let e = at_role c r (c + 2 * r + (x - 128)) (omega arith) (omega arith) in
          record { place = c + 2 * r + (x - 128); below = omega arith; stands = e ∙ omega arith; small = s }

      step : Memᴰ x (numbers 0 c) ⊎ Memᴰ x (numbers 64 (64 + 2 * r) ++ numbers 128 (128 + 2 * r)) → Listed c r x
      step (inl k) =
          let b = of_numbers 0 c x k in
          record { place = x; below = omega arith; stands = at_concept c r x b.1; small = s }
      step (inr k) = later (Memᴰ.append_cases (numbers 64 (64 + 2 * r)) k)
