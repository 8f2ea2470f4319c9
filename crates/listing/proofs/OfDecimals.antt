-- Decimal digits: a number's digits are those of its tenth and then its last one. From this come the laws of the usual decimal:
-- the digits read back as the number, each byte is a digit, none but 0 begins with 0, and a number of 64 bits has 20 at most.
use Prim.Native.Nat.{ℕ, zero, suc, ◌+◌, ◌-◌, ◌*◌, ◌/◌, ◌%◌, ◌^◌, ◌≤◌, ◌<◌}
use mathlib.Core.Path.{◌≡◌, refl, ap}
use mathlib.Core.Bool.{Bool, true, false, cond}
use mathlib.Core.List.{List, [], ◌∷◌, ◌++◌}
use lib.ListN.{length, get_or, length-append, get_or-append}
use lib.Dec.{ltb}
use native.Mathlib.Omega.{arith}
use borrow.Author.Tests.{lt-ltb, le-ltb, le-leb, ltb-true, ltb-false}
use Rattle.listing.specs.Decimal.{digit, digits_of, decimal_of, read_on, value_of, is_digit, digits_only}

-- what a test leaves open is asked only where it fails
where_it_fails : {A : Type 0} (t : Bool) (a b c : A) → (t ≡ false → b ≡ c) → cond t a b ≡ cond t a c
where_it_fails true a b c e = refl
where_it_fails false a b c e = e refl

-- enough digits are enough
same_digits : (k j n : ℕ) → n < k → n < j → digits_of k n ≡ digits_of j n
unfolding digits_of
same_digits zero j n h g = absurd (omega arith)
same_digits (suc k) zero n h g = absurd (omega arith)
same_digits (suc k) (suc j) n h g =
    where_it_fails (ltb n 10) _ _ _ λ f.
    let more : 10 ≤ n = ltb-false n 10 f in
    ap (λ (ds : List ℕ). ds ++ (digit (n % 10) ∷ [])) (same_digits k j (n / 10) (omega arith) (omega arith))

-- a number's digits
module _ (n : ℕ) where
  pub decimal_one : n < 10 → decimal_of n ≡ digit n ∷ []
  unfolding decimal_of digits_of
  decimal_one h = rw (lt-ltb n 10 h)

  pub decimal_more : 10 ≤ n → decimal_of n ≡ decimal_of (n / 10) ++ (digit (n % 10) ∷ [])
  unfolding decimal_of digits_of
  decimal_more h =
      rw (le-ltb n 10 h)
      (ap (λ (ds : List ℕ). ds ++ (digit (n % 10) ∷ [])) (same_digits n (suc (n / 10)) (n / 10) (omega arith) (omega arith)))

-- what either case of a test shows is shown
by_test : (t : Bool) (A : Type 0) → (t ≡ true → A) → (t ≡ false → A) → A
by_test true A holds fails = holds refl
by_test false A holds fails = fails refl

-- what holds of the numbers of one digit, and of a number if of its tenth, holds of every number
module _ (P : ℕ → Type 0) (one : (n : ℕ) → n < 10 → P n) (more : (n : ℕ) → 10 ≤ n → P (n / 10) → P n) where
  below : (k n : ℕ) → n < k → P n
  below zero n h = absurd (omega arith)
  below (suc k) n h =
      by_test (ltb n 10) (P n)
      (λ t. one n (ltb-true n 10 t))
      (λ t. let ten : 10 ≤ n = ltb-false n 10 t in more n ten (below k (n / 10) (omega arith)))

  by_digits : (n : ℕ) → P n
  by_digits n = below (suc n) n (omega arith)

-- the digits read back as the number
read_last : (n : ℕ) (ds : List ℕ) (d : ℕ) → read_on n (ds ++ (d ∷ [])) ≡ read_on n ds * 10 + (d - 48)
unfolding read_on
read_last n [] d = refl
read_last n (e ∷ ds) d = read_last (n * 10 + (e - 48)) ds d

read_one : (n : ℕ) → read_on 0 (digit n ∷ []) ≡ n
unfolding read_on
read_one n = omega arith

pub reads_back : (n : ℕ) → value_of (decimal_of n) ≡ n
reads_back =
    by_digits (λ n. value_of (decimal_of n) ≡ n)
    (λ n h. rw (decimal_one n h) (read_one n))
    (λ n h e. rw (decimal_more n h, read_last, e) (omega arith))

-- there is a digit
pub some_digit : (n : ℕ) → 1 ≤ length (decimal_of n)
some_digit =
    by_digits (λ n. 1 ≤ length (decimal_of n))
    (λ n h. rw (decimal_one n h) (omega arith))
    (λ n h e. rw (decimal_more n h, length-append) (omega arith))

-- "without leading zeros": the first digit of a number above 0 is above 0
pub no_leading_zero : (n : ℕ) → 1 ≤ n → digit 1 ≤ get_or (decimal_of n) 0 0
no_leading_zero =
    by_digits (λ n. 1 ≤ n → digit 1 ≤ get_or (decimal_of n) 0 0)
    (λ n h low. rw (decimal_one n h) (omega arith))
    (λ n h e low. rw (decimal_more n h, get_or-append (decimal_of (n / 10)) (digit (n % 10) ∷ []) 0 0 (some_digit (n / 10))) (e (omega arith)))

-- each byte is a digit
goes_on : (t a b : Bool) → cond t a false ≡ true → (a ≡ true → b ≡ true) → cond t b false ≡ true
goes_on true a b e on = on e
goes_on false a b e on = e

is_digit_lem : (d : ℕ) → d < 10 → is_digit (digit d) ≡ true
unfolding is_digit
is_digit_lem d h = rw (le-leb 48 (48 + d) (omega arith), lt-ltb (48 + d) 58 (omega arith))

only_last : (ds : List ℕ) (d : ℕ) → d < 10 → digits_only ds ≡ true → digits_only (ds ++ (digit d ∷ [])) ≡ true
unfolding digits_only
only_last [] d h e = rw (is_digit_lem d h)
only_last (x ∷ ds) d h e = goes_on (is_digit x) (digits_only ds) (digits_only (ds ++ (digit d ∷ []))) e (only_last ds d h)

only_one : (d : ℕ) → d < 10 → digits_only (digit d ∷ []) ≡ true
unfolding digits_only
only_one d h = rw (is_digit_lem d h)

pub digits_only_lem : (n : ℕ) → digits_only (decimal_of n) ≡ true
digits_only_lem =
    by_digits (λ n. digits_only (decimal_of n) ≡ true)
    (λ n h. rw (decimal_one n h) (only_one n h))
    (λ n h e. rw (decimal_more n h) (only_last (decimal_of (n / 10)) (n % 10) (omega arith) e))

-- how many digits there are: one below 10, and one more for each ten
unfoldable tens : ℕ → ℕ
tens zero = 10
tens (suc k) = tens k * 10

few_more : (n : ℕ) → 10 ≤ n → ((k : ℕ) → n / 10 < tens k → length (decimal_of (n / 10)) ≤ suc k) → (k : ℕ) → n < tens k → length (decimal_of n) ≤ suc k
unfolding tens
few_more n h tenth zero low = absurd (omega arith)
few_more n h tenth (suc k) low = rw (decimal_more n h, length-append) (omega (arith, tenth k (omega arith)))

few : (n k : ℕ) → n < tens k → length (decimal_of n) ≤ suc k
few =
    by_digits (λ n. (k : ℕ) → n < tens k → length (decimal_of n) ≤ suc k)
    (λ n h k low. rw (decimal_one n h) (omega arith))
    few_more

pub at_most_20 : (n : ℕ) → n < 2 ^ 64 → length (decimal_of n) ≤ 20
unfolding tens
at_most_20 n h = few n 19 (omega arith)

pub at_most_19 : (n : ℕ) → n < 2 ^ 64 → length (decimal_of (n / 10)) ≤ 19
unfolding tens
at_most_19 n h = few (n / 10) 18 (omega arith)
