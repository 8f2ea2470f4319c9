-- What the code's tests on the bytes say of `number_at`: one law for each way out of `read_number`.
use Prim.Native.Nat.{ℕ, ◌+◌, ◌-◌, ◌*◌, ◌≤◌, ◌<◌}
use mathlib.Core.Path.{◌≡◌}
use mathlib.Core.List.{List, ◌∷◌}
use lib.ListN.{length, get_or, drop, drop_of_length-le}
use lib.Seq.{drop-cons}
use native.Mathlib.Numerals.{add-one}
use native.Mathlib.Omega.{arith}
use borrow.Author.Tests.{lt-ltb, le-ltb, le-leb, lt-leb, eq-eqb, ne_eqb}
use borrow.Author.Rules.{rules}
use Rattle.std.specs.Prelude.{Ok, Err}
use Rattle.number.specs.Answer.{Answer, refusal}
use Rattle.number.specs.Number.{ending, third, second, form_of, judged, judge_at, number_at}
use Rattle.number.specs.declared.read.Read.{Read}
use Rattle.number.specs.declared.refusal.Fault.TheVariants.{Cut, Long, Over}
use Rattle.number.specs.declared.refusal.Side.{Side}

module _ (v next at most : ℕ) (side : Side) where
  pub judged_within : v ≤ most → Ok (record { value = v; next = next }) ≡ judged v next at most side
  judged_within h = rw (le-leb v most h)

  pub judged_over : (r : Answer (Read ℕ)) → most < v → r ≡ Err (refusal Over side at) → r ≡ judged v next at most side
  judged_over r h e = rw (lt-leb v most h, e)

-- the bytes from a place on
next_byte : (s : List ℕ) (at a : ℕ) → at < length s → a ≡ get_or s at 0 → drop at s ≡ a ∷ drop (at + 1) s
next_byte s at a h e = rw (e, add-one, drop-cons s at 0)

module _ (s : List ℕ) (at most : ℕ) (side : Side) (r : Answer (Read ℕ)) where
  -- no byte is there
  pub none : length s ≤ at → r ≡ Err (refusal Cut side at) → r ≡ number_at s at most side
  unfolding number_at form_of
  none h e = rw (drop_of_length-le s h, e)

  module _ (a : ℕ) (first : at < length s) (is_a : a ≡ get_or s at 0) where
    -- one byte
    pub one : a < 128 → r ≡ judged a (at + 1) at most side → r ≡ number_at s at most side
    unfolding number_at form_of
    one h e = rw (next_byte s at a first is_a, lt-ltb a 128 h) e

    from_second : 128 ≤ a → number_at s at most side ≡ judge_at at most side (second (a - 128) (drop (at + 1) s))
    unfolding number_at form_of
    from_second h = rw (next_byte s at a first is_a, le-ltb a 128 h)

    module _ (more : 128 ≤ a) where
      pub one_cut : length s ≤ at + 1 → r ≡ Err (refusal Cut side at) → r ≡ number_at s at most side
      unfolding second
      one_cut h e = rw (from_second more, drop_of_length-le s h, e)

      module _ (b : ℕ) (in_second : at + 1 < length s) (is_b : b ≡ get_or s (at + 1) 0) where
        two_form : b < 128 → number_at s at most side ≡ judge_at at most side (ending b (a - 128 + 128 * b) 2)
        unfolding second
        two_form h = rw (from_second more, next_byte s (at + 1) b in_second is_b, lt-ltb b 128 h)

        pub two_long : b ≡ 0 → r ≡ Err (refusal Long side at) → r ≡ number_at s at most side
        two_long z e = rw (two_form (omega arith), eq-eqb b 0 z, e)

        pub two : b < 128 → (b ≡ 0 → ⊥) → r ≡ judged (a - 128 + 128 * b) (at + 1 + 1) at most side → r ≡ number_at s at most side
        two h z e =
            let n : at + 2 ≡ at + 1 + 1 = omega arith in
            rw (two_form h, ne_eqb b 0 z, n) e

        from_third : 128 ≤ b → number_at s at most side ≡ judge_at at most side (third (a - 128 + 128 * (b - 128)) (drop (at + 1 + 1) s))
        unfolding second
        from_third h = rw (from_second more, next_byte s (at + 1) b in_second is_b, le-ltb b 128 h)

        module _ (still : 128 ≤ b) where
          pub two_cut : length s ≤ at + 1 + 1 → r ≡ Err (refusal Cut side at) → r ≡ number_at s at most side
          unfolding third
          two_cut h e = rw (from_third still, drop_of_length-le s h, e)

          module _ (c : ℕ) (in_third : at + 1 + 1 < length s) (is_c : c ≡ get_or s (at + 1 + 1) 0) where
            three_form : c < 128 → number_at s at most side ≡ judge_at at most side (ending c (a - 128 + 128 * (b - 128) + 16384 * c) 3)
            unfolding third
            three_form h = rw (from_third still, next_byte s (at + 1 + 1) c in_third is_c, lt-ltb c 128 h)

            pub three_long : c ≡ 0 → r ≡ Err (refusal Long side at) → r ≡ number_at s at most side
            three_long z e = rw (three_form (omega arith), eq-eqb c 0 z, e)

            pub three : c < 128 → (c ≡ 0 → ⊥)
                → r ≡ judged (a - 128 + 128 * (b - 128) + 16384 * c) (at + 1 + 1 + 1) at most side
                → r ≡ number_at s at most side
            three h z e =
                let n : at + 3 ≡ at + 1 + 1 + 1 = omega arith in
                rw (three_form h, ne_eqb c 0 z, n) e

            pub four : 128 ≤ c → r ≡ Err (refusal Over side at) → r ≡ number_at s at most side
            unfolding third
            four h e = rw (from_third still, next_byte s (at + 1 + 1) c in_third is_c, le-ltb c 128 h, e)

pub ruleset reading = (judged_within, judged_over, none, one, one_cut, two_long, two, two_cut, three_long, three, four, rules)
