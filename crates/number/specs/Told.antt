-- What writing a number promises, in document 01's number and values.
use Rattle.std.specs.Prelude.{ℕ, ◌+◌, ◌≤◌, ◌≡◌, List, length}
use Rattle.std.proofs.lemmas.List.Edits.{sets}
use Rattle.number.specs.Answer.{Answer, over, laid}
use Rattle.number.specs.Number.{plan, bytes_of, three_bytes}

-- writing a number: the answer, and the lent memory afterwards
pub record Writes (out : List ℕ) (at value most : ℕ) (r : Answer ℕ) (out' : List ℕ) : Type 0 where
  pub answer : r ≡ over (λ bytes. at + length bytes) (plan (length out) at value most)
  pub memory : out' ≡ laid out at (plan (length out) at value most)

-- storing a number's bytes: they fit, and the value has a form
pub record Stores (out : List ℕ) (at value : ℕ) : Type 0 where
  pub formed : value ≤ three_bytes
  pub room : at + length (bytes_of value) ≤ length out

-- the place after them, and the lent memory afterwards
pub record Stored (out : List ℕ) (at value r : ℕ) (out' : List ℕ) : Type 0 where
  pub place : r ≡ at + length (bytes_of value)
  pub memory : out' ≡ sets out at (bytes_of value)
