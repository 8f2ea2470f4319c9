-- What putting bytes into a line promises: the place after them, and the line afterwards.
use Rattle.std.specs.Prelude.{ℕ, ◌+◌, ◌≤◌, ◌≡◌, List, ◌++◌, length}
use Rattle.std.proofs.lemmas.List.Edits.{sets}
use Rattle.listing.specs.Decimal.{decimal_of}

-- bytes at a place: all else of the line stays as it was
pub record Laid (out : List ℕ) (at : ℕ) (bytes : List ℕ) (r : ℕ) (out' : List ℕ) : Type 0 where
  pub place : r ≡ at + length bytes
  pub memory : out' ≡ sets out at bytes
  pub size : length out' ≡ length out

-- a number at a place: of 64 bits, so that it has 20 digits at most
pub record LaidNumber (out : List ℕ) (at n r : ℕ) (out' : List ℕ) : Type 0 where
  pub laid : Laid out at (decimal_of n) r out'
  pub few : r ≤ at + 20

-- a word and the number that it names
unfoldable pub named : List ℕ → ℕ → List ℕ
named word n = word ++ decimal_of n

-- a word and its number at a place
pub record LaidNamed (out : List ℕ) (at : ℕ) (word : List ℕ) (n r : ℕ) (out' : List ℕ) : Type 0 where
  pub laid : Laid out at (named word n) r out'
  pub few : r ≤ at + length word + 20
