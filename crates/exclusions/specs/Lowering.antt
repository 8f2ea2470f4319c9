-- What each pass does that makes exclusions of the written ones: down both sides along what is included, with the empty nodes added in between.
use Rattle.std.specs.Prelude.{ℕ, ◌<◌, ◌≡◌, List}
use mathlib.Core.List.{Memᴰ}
use Rattle.tables.specs.Bits.{Has}
use Rattle.tables.specs.Listed.{Listed}
use Rattle.tables.specs.Passes.{Within}

-- "X in Y, Y in Z", of a table
abbrev pub Transitive : List ℕ → Type 0
Transitive t = (x y z : ℕ) → Has t x y → Has t y z → Has t x z

-- a table that holds a reflexive and transitive relation on the declared nodes
pub record Order (concepts roles : ℕ) (t : List ℕ) : Type 0 where
  pub within : Within concepts roles t
  pub transitive : Transitive t
  pub same : (x : ℕ) → Listed concepts roles x → Has t x x

-- a table that holds a symmetric relation on the declared nodes
pub record Even (concepts roles : ℕ) (t : List ℕ) : Type 0 where
  pub within : Within concepts roles t
  pub symmetric : (x y : ℕ) → Has t x y → Has t y x

-- row x has what it had, or it comes from the row of one of these nodes
pub data CameTaken (nodes old : List ℕ) (x a v : ℕ) : Type 0 where
  at_once : Has old a v → CameTaken nodes old x a v
  taken : (u : ℕ) → Memᴰ u nodes → a ≡ x → Has old u v → CameTaken nodes old x a v

-- row x has taken in the rows of these nodes, and nothing else came
pub record Taken (nodes old new : List ℕ) (x : ℕ) : Type 0 where
  pub stays : (a v : ℕ) → Has old a v → Has new a v
  pub comes : (u v : ℕ) → Memᴰ u nodes → x < 192 → Has old u v → Has new x v
  pub came : (a v : ℕ) → Has new a v → CameTaken nodes old x a v

-- u itself, or one that it leads to, has v
pub data Down (by t : List ℕ) (u v : ℕ) : Type 0 where
  at_once : Has t u v → Down by t u v
  below : (w : ℕ) → Has by u w → Has t w v → Down by t u v

-- the rows of these nodes have taken in all that they lead to
pub record Widened (by nodes old new : List ℕ) : Type 0 where
  pub stays : (a v : ℕ) → Has old a v → Has new a v
  pub comes : (x u v : ℕ) → Memᴰ x nodes → Has by x u → Has old u v → Has new x v
  pub came : Transitive by → (a v : ℕ) → Has new a v → Down by old a v

-- one way or the other
pub data Either (t : List ℕ) (u v : ℕ) : Type 0 where
  this_way : Has t u v → Either t u v
  other_way : Has t v u → Either t u v

-- an entry was there, or is x in the row of one of these nodes
pub data CameGiven (nodes old : List ℕ) (x a v : ℕ) : Type 0 where
  at_once : Has old a v → CameGiven nodes old x a v
  given : Memᴰ a nodes → v ≡ x → CameGiven nodes old x a v

-- the rows of these nodes have taken x in, and nothing else came
pub record Given (nodes old new : List ℕ) (x : ℕ) : Type 0 where
  pub stays : (a v : ℕ) → Has old a v → Has new a v
  pub comes : (u : ℕ) → Memᴰ u nodes → u < 192 → x < 192 → Has new u x
  pub came : (a v : ℕ) → Has new a v → CameGiven nodes old x a v

-- what these nodes have, has them (step 5)
pub record Mirrored (nodes old new : List ℕ) : Type 0 where
  pub stays : (u v : ℕ) → Has old u v → Has new u v
  pub comes : (x y : ℕ) → Memᴰ x nodes → Has old x y → Has new y x
  pub came : (u v : ℕ) → Has new u v → Either old u v

-- x and y lead to two nodes of which the table has the pair
pub record Meets (by t : List ℕ) (x y : ℕ) : Type 0 where
  pub left : ℕ
  pub right : ℕ
  pub down_left : Has by x left
  pub down_right : Has by y right
  pub met : Has t left right

-- the table has gone down both sides
pub record Spreads (concepts roles : ℕ) (by old new : List ℕ) : Type 0 where
  pub sound : Order concepts roles by → Even concepts roles old → (x y : ℕ) → Has new x y → Meets by old x y
  pub whole : Order concepts roles by → Even concepts roles old → (x y : ℕ) → Meets by old x y → Has new x y

-- z excludes itself, if it leads on to w
pub data CameEmptied (on old : List ℕ) (w u v : ℕ) : Type 0 where
  at_once : Has old u v → CameEmptied on old w u v
  leads : u ≡ v → Has on u w → CameEmptied on old w u v

-- each of these nodes excludes itself, if it leads on to w, and nothing else came
pub record EmptiedRow (on nodes old new : List ℕ) (w : ℕ) : Type 0 where
  pub stays : (u v : ℕ) → Has old u v → Has new u v
  pub comes : (z : ℕ) → Memᴰ z nodes → Has on z w → Has new z z
  pub came : (u v : ℕ) → Has new u v → CameEmptied on old w u v

-- u is there with v, or is v and leads on to one that excludes itself
pub data Emptied (on old : List ℕ) (u v : ℕ) : Type 0 where
  at_once : Has old u v → Emptied on old u v
  leads : (w : ℕ) → u ≡ v → Has on u w → Has old w w → Emptied on old u v

-- each of these nodes excludes itself, if it leads on to one of the empty that excludes itself (step 8)
pub record EmptiedBy (on nodes empty old new : List ℕ) : Type 0 where
  pub stays : (u v : ℕ) → Has old u v → Has new u v
  pub comes : (z w : ℕ) → Memᴰ z nodes → Memᴰ w empty → Has old w w → Has on z w → Has new z z
  pub came : Transitive on → (u v : ℕ) → Has new u v → Emptied on old u v

-- kept apart, or both within an empty node
pub data Shut (by on t : List ℕ) (x y : ℕ) : Type 0 where
  apart : Meets by t x y → Shut by on t x y
  void : (z w : ℕ) → Has by x z → Has by y z → Has on z w → Meets by t w w → Shut by on t x y

-- the table has just what is shut so
pub record Shuts (concepts roles : ℕ) (by on old new : List ℕ) : Type 0 where
  pub sound : Order concepts roles by → Order concepts roles on → Even concepts roles old → (x y : ℕ) → Has new x y → Shut by on old x y
  pub whole : Order concepts roles by → Order concepts roles on → Even concepts roles old → (x y : ℕ) → Shut by on old x y → Has new x y
