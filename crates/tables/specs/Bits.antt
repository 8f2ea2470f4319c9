-- A table of bits: a row of three words for each of the 192 nodes, and in it a bit for each node.
use Rattle.std.specs.Prelude.{ℕ, ◌+◌, ◌*◌, ◌/◌, ◌%◌, ◌^◌, ◌<◌, ◌≡◌, Bool, true, ◌&&◌, List, get_or, bit_or, eqb, ltb, ◌≢◌}

-- bit k of a word
unfoldable pub bit_of : ℕ → ℕ → Bool
bit_of w k = eqb (w / 2 ^ k % 2) 1

-- does the table have y in row x?
unfoldable pub has : List ℕ → ℕ → ℕ → Bool
has t x y = ltb x 192 && (ltb y 192 && bit_of (get_or t (x * 3 + y / 64) 0) (y % 64))

-- the table has it
abbrev pub Has : List ℕ → ℕ → ℕ → Type 0
Has t x y = has t x y ≡ true

-- one more bit
pub data CameAdded (old : List ℕ) (x y u v : ℕ) : Type 0 where
  old_one : Has old u v → CameAdded old x y u v
  new_one : u ≡ x → v ≡ y → CameAdded old x y u v

-- what was there stays, the bit comes, and nothing else came
pub record Added (old new : List ℕ) (x y : ℕ) : Type 0 where
  pub stays : (u v : ℕ) → Has old u v → Has new u v
  pub comes : x < 192 → y < 192 → Has new x y
  pub came : (u v : ℕ) → Has new u v → CameAdded old x y u v

-- row x takes in row y
pub data CameJoined (old : List ℕ) (x y u v : ℕ) : Type 0 where
  old_one : Has old u v → CameJoined old x y u v
  from_row : u ≡ x → Has old y v → CameJoined old x y u v

-- the first words of row x have taken in those of row y
pub record Mixed (words : ℕ) (old new : List ℕ) (x y : ℕ) : Type 0 where
  pub taken : (i : ℕ) → i < words → get_or new (x * 3 + i) 0 ≡ bit_or (get_or old (x * 3 + i) 0) (get_or old (y * 3 + i) 0)
  pub others : (i : ℕ) → ((k : ℕ) → k < words → i ≢ x * 3 + k) → get_or new i 0 ≡ get_or old i 0

-- what was there stays, row y comes into row x, and nothing else came
pub record Joined (old new : List ℕ) (x y : ℕ) : Type 0 where
  pub stays : (u v : ℕ) → Has old u v → Has new u v
  pub comes : x < 192 → (v : ℕ) → Has old y v → Has new x v
  pub came : (u v : ℕ) → Has new u v → CameJoined old x y u v
