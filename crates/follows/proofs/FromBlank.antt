-- What is in a table that was empty at first is one of the pairs that were added.
use Prim.Native.Nat.{ℕ, ◌+◌, ◌*◌, ◌/◌, ◌%◌}
use mathlib.Core.Path.{◌≡◌, sym, ap, subst, ◌∙◌}
use mathlib.Core.Bool.{true, false≢true}
use mathlib.Core.List.{List, Memᴰ}
use native.Mathlib.Omega.{arith}
use lib.ListN.{get_or, get_or-replicate}
use Rattle.site.specs.Codes.{node_code}
use Rattle.steps.specs.Tables.{Pair}
use Rattle.tables.specs.Bits.{bit_of, Has}
use Rattle.tables.proofs.Words.{in_row, in_column, bit_there}
use Rattle.follows.specs.Adding.{CamePair, AddedAll}
use Rattle.follows.specs.Adding.CamePair.{at_once, of_pair}
use Rattle.follows.specs.Tells.{Blank}
use Rattle.follows.proofs.Filling.{bit_of_none}

-- an empty table has nothing
blank_none : (t : List ℕ) (u v : ℕ) → Blank t → Has t u v → ⊥
blank_none t u v e h =
    let a = in_row t u v h in
    let b = in_column t u v h in
    let z : get_or t (u * 3 + v / 64) 0 ≡ 0 = ap (λ l. get_or l (u * 3 + v / 64) 0) e ∙ get_or-replicate 576 (u * 3 + v / 64) 0 0 (omega arith) in
    false≢true (sym (bit_of_none (v % 64)) ∙ subst (λ w. bit_of w (v % 64) ≡ true) z (bit_there t u v h))

-- what is in a table that was empty is one of the pairs
pub record FromPair (pairs : List Pair) (u v : ℕ) : Type 0 where
  pub pair : Pair
  pub within : Memᴰ pair pairs
  pub is_left : u ≡ node_code pair.left
  pub is_right : v ≡ node_code pair.right

pub from_pair : {pairs : List Pair} {old new : List ℕ} → Blank old → AddedAll pairs old new → (u v : ℕ) → Has new u v → FromPair pairs u v
from_pair {pairs} {old} b p u v h = step (p.came u v h)
  where
    step : CamePair pairs old u v → FromPair pairs u v
    step (at_once k) = absurd (blank_none old u v b k)
    step (of_pair a m e f) = record { pair = a; within = m; is_left = e; is_right = f }
