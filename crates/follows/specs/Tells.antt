-- What the filled tables say: the same as the definition's tables, by the nodes' numbers.
use Rattle.std.specs.Prelude.{ℕ, ◌<◌, ◌≡◌, true, replicate}
use mathlib.Core.List.{List, ◌++◌, Memᴰ}
use Rattle.site.specs.Kinds.{Rule, Site}
use Rattle.site.specs.Kinds.Rule.{functional}
use Rattle.site.specs.Codes.{role_of, node_of}
use Rattle.site.specs.Lists.{each}
use Rattle.rules.specs.Lawful.{Lawful}
use Rattle.steps.specs.Tables.{Pair, follows_of}
use Rattle.tables.specs.Bits.{bit_of, has}
use Rattle.follows.specs.Adding.{AddedAll}
use Rattle.follows.specs.declared.filled.Tables.{Tables}

-- a table with nothing in it
abbrev pub Blank : List ℕ → Type 0
Blank t = t ≡ replicate 576 0

-- the rules before the rest have been added
pub record AddedSoFar (f : Rule → List Pair) (whole rest : List Rule) (old new : List ℕ) : Type 0 where
  pub done : List Rule
  pub split : whole ≡ done ++ rest
  pub all : AddedAll (each f done) old new

-- the functional rules' bits
pub record FunctionalOf (rules : List Rule) (word : ℕ) : Type 0 where
  pub comes : (k : ℕ) → k < 64 → Memᴰ (functional (role_of k)) rules → bit_of word k ≡ true
  pub came : (k : ℕ) → bit_of word k ≡ true → Memᴰ (functional (role_of k)) rules

-- the bits of the rules before the rest
pub record FunctionalSoFar (whole rest : List Rule) (word : ℕ) : Type 0 where
  pub done : List Rule
  pub split : whole ≡ done ++ rest
  pub all : FunctionalOf done word

-- what is included, what is excluded, and which basic roles are functional
pub record Tells (s : Site) (included excluded : List ℕ) (functionals : ℕ) : Type 0 where
  pub in_included : Lawful s → (x y : ℕ) → has included x y ≡ (follows_of s).is_included (node_of x) (node_of y)
  pub in_excluded : Lawful s → (x y : ℕ) → has excluded x y ≡ (follows_of s).is_excluded (node_of x) (node_of y)
  pub in_functionals : (q : ℕ) → q < 64 → bit_of functionals q ≡ (follows_of s).is_functional (role_of q)

-- tables of no rules
pub record Empty (t : Tables) : Type 0 where
  pub included : Blank t.included
  pub excluded : Blank t.excluded
  pub functional : t.functional ≡ 0

-- the same of the tables together
abbrev pub TellsAll : Site → Tables → Type 0
TellsAll s t = Tells s t.included t.excluded t.functional
