-- A row of a table as the list of the nodes that it has, ascending.
use Rattle.std.specs.Prelude.{ℕ, ◌/◌, ◌%◌, Bool, List, get_or}
use Rattle.site.specs.Lists.{keep}
use Rattle.tables.specs.Bits.{bit_of, has}
use Rattle.tables.specs.Listed.{numbers}

-- is a node's bit set in a row's words?
abbrev pub has_bit : List ℕ → ℕ → Bool
has_bit words y = bit_of (get_or words (y / 64) 0) (y % 64)

-- the nodes whose bits are set in them
unfoldable pub bits_in : List ℕ → List ℕ
bits_in words = keep (has_bit words) (numbers 0 192)

-- the nodes that row x has
unfoldable pub row_of : List ℕ → ℕ → List ℕ
row_of t x = keep (has t x) (numbers 0 192)
