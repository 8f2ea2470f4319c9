-- The declared nodes by their numbers, in a row without gaps: concepts, then "some partner", then roles.
use Rattle.std.specs.Prelude.{ℕ, ◌+◌, ◌-◌, ◌*◌, ◌<◌, ◌≡◌, ◌++◌, List, cond, ltb}
use Rattle.std.specs.List.{range_with_len}

-- how many they are, of so many concepts and roles
abbrev pub count_of : ℕ → ℕ → ℕ
count_of concepts roles = concepts + 4 * roles

-- the number of the one at a place
unfoldable pub node_at : ℕ → ℕ → ℕ → ℕ
node_at concepts roles i =
    cond (ltb i concepts) i (cond (ltb (i - concepts) (2 * roles)) (64 + (i - concepts)) (128 + (i - concepts - 2 * roles)))

-- a number that stands at one of the places
pub record Listed (concepts roles x : ℕ) : Type 0 where
  pub place : ℕ
  pub below : place < count_of concepts roles
  pub stands : node_at concepts roles place ≡ x
  pub small : x < 192

-- the numbers from one up to another
unfoldable pub numbers : ℕ → ℕ → List ℕ
numbers start end = range_with_len start (end - start)

-- the declared nodes' numbers in this order
unfoldable pub nodes_of : ℕ → ℕ → List ℕ
nodes_of concepts roles = numbers 0 concepts ++ (numbers 64 (64 + 2 * roles) ++ numbers 128 (128 + 2 * roles))
