-- What each pass over a table of bits does to the relation that the table holds.
use Rattle.std.specs.Prelude.{ℕ, ◌<◌, ◌≡◌, List}
use mathlib.Core.List.{Memᴰ}
use Rattle.steps.specs.Closed.{Closed}
use Rattle.tables.specs.Bits.{Has}
use Rattle.tables.specs.Listed.{Listed}

-- from u to v in the table, at once or by way of m
pub data Through (t : List ℕ) (m u v : ℕ) : Type 0 where
  at_once : Has t u v → Through t m u v
  by_way : Has t u m → Has t m v → Through t m u v

-- the rows of these nodes have taken row m in, those that have m
pub record Passed (nodes old new : List ℕ) (m : ℕ) : Type 0 where
  pub stays : (u v : ℕ) → Has old u v → Has new u v
  pub comes : (x v : ℕ) → Memᴰ x nodes → Has old x m → Has old m v → Has new x v
  pub came : (u v : ℕ) → Has new u v → Through old m u v

-- an entry was there, or is one of these nodes with itself
pub data CameReflected (nodes old : List ℕ) (u v : ℕ) : Type 0 where
  at_once : Has old u v → CameReflected nodes old u v
  itself : Memᴰ u nodes → u ≡ v → CameReflected nodes old u v

-- what was there stays, these nodes come, and nothing else came (step 1)
pub record Reflected (nodes old new : List ℕ) : Type 0 where
  pub stays : (u v : ℕ) → Has old u v → Has new u v
  pub comes : (x : ℕ) → Memᴰ x nodes → x < 192 → Has new x x
  pub came : (u v : ℕ) → Has new u v → CameReflected nodes old u v

-- only declared nodes are in the table
pub record Within (concepts roles : ℕ) (t : List ℕ) : Type 0 where
  pub from : (u v : ℕ) → Has t u v → Listed concepts roles u
  pub to : (u v : ℕ) → Has t u v → Listed concepts roles v

-- the smallest transitive relation with the table's, reflexive on the declared nodes
abbrev pub Reach : ℕ → ℕ → List ℕ → ℕ → ℕ → Type 0
Reach concepts roles t = Closed (Listed concepts roles) (Has t)

-- these nodes have been gone through (step 2)
pub record Turned (concepts roles : ℕ) (nodes old new : List ℕ) : Type 0 where
  pub stays : (u v : ℕ) → Has old u v → Has new u v
  pub sound : (u v : ℕ) → Has new u v → Reach concepts roles old u v
  pub joins : Within concepts roles old → (x u v : ℕ) → Memᴰ x nodes → Has new u x → Has new x v → Has new u v

-- the table holds the closure of what it held
pub record Closes (concepts roles : ℕ) (old new : List ℕ) : Type 0 where
  pub sound : (u v : ℕ) → Has new u v → Reach concepts roles old u v
  pub whole : Within concepts roles old → (u v : ℕ) → Reach concepts roles old u v → Has new u v
