-- A number in decimal digits: "numbers are decimal without leading zeros".
use Rattle.std.specs.Prelude.{ℕ, zero, suc, ◌+◌, ◌-◌, ◌*◌, ◌/◌, ◌%◌, Bool, true, false, cond, ◌&&◌, List, [], ◌∷◌, ◌++◌, ltb, leb}

-- the byte of a digit: `0` is 48
abbrev pub digit : ℕ → ℕ
digit d = 48 + d

-- the digits of a number, the highest first, at most so many
unfoldable pub digits_of : ℕ → ℕ → List ℕ
digits_of zero n = []
digits_of (suc most) n = cond (ltb n 10) (digit n ∷ []) (digits_of most (n / 10) ++ (digit (n % 10) ∷ []))

-- no number has more digits than one more than itself
unfoldable pub decimal_of : ℕ → List ℕ
decimal_of n = digits_of (suc n) n

-- the number that digits say, after those already read
unfoldable pub read_on : ℕ → List ℕ → ℕ
read_on n [] = n
read_on n (d ∷ ds) = read_on (n * 10 + (d - 48)) ds

-- the number that digits say
abbrev pub value_of : List ℕ → ℕ
value_of ds = read_on 0 ds

-- every byte is a digit
unfoldable pub is_digit : ℕ → Bool
is_digit d = leb 48 d && ltb d 58

-- so is every byte of a list
unfoldable pub digits_only : List ℕ → Bool
digits_only [] = true
digits_only (d ∷ ds) = cond (is_digit d) (digits_only ds) false
