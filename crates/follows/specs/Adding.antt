-- What adding pairs of nodes to a table does, and which pairs a rule and a role give.
use Rattle.std.specs.Prelude.{ℕ, ◌<◌, ◌≡◌, true}
use mathlib.Core.List.{List, [], ◌∷◌, Memᴰ}
use Rattle.site.specs.Kinds.{BasicRole, Rule, turned}
use Rattle.site.specs.Kinds.BasicRole.{forward, inverse}
use Rattle.site.specs.Kinds.BasicConcept.{some}
use Rattle.site.specs.Kinds.Node.{concept, role}
use Rattle.site.specs.Kinds.Rule.{functional}
use Rattle.site.specs.Codes.{role_of, node_code}
use Rattle.site.specs.Lists.{up_to, each}
use Rattle.steps.specs.Tables.{Pair, written_of}
use Rattle.tables.specs.Bits.{bit_of, Has}

-- an entry was there, or is one of the pairs
pub data CamePair (pairs : List Pair) (old : List ℕ) (u v : ℕ) : Type 0 where
  at_once : Has old u v → CamePair pairs old u v
  of_pair : (a : Pair) → Memᴰ a pairs → u ≡ node_code a.left → v ≡ node_code a.right → CamePair pairs old u v

-- what was there stays, the pairs come, and nothing else came
pub record AddedAll (pairs : List Pair) (old new : List ℕ) : Type 0 where
  pub stays : (u v : ℕ) → Has old u v → Has new u v
  pub comes : (a : Pair) → Memᴰ a pairs → node_code a.left < 192 → node_code a.right < 192 → Has new (node_code a.left) (node_code a.right)
  pub came : (u v : ℕ) → Has new u v → CamePair pairs old u v

-- the arrows of an inclusion of roles: of the two and their inverses, and of having partners by them
abbrev pub role_arrows : BasicRole → BasicRole → List Pair
role_arrows p q = record { left = role p; right = role q } ∷ record { left = role (turned p); right = role (turned q) } ∷ []

-- those of having partners by them (step 4)
abbrev pub some_arrows : BasicRole → BasicRole → List Pair
some_arrows p q =
    record { left = concept (some p); right = concept (some q) } ∷ record { left = concept (some (turned p)); right = concept (some (turned q)) } ∷ []

-- a written exclusion, in both orders
abbrev pub in_both_orders : Pair → List Pair
in_both_orders w = w ∷ record { left = w.right; right = w.left } ∷ []

-- what a rule says is excluded, in both orders
abbrev pub exclusions_of : Rule → List Pair
exclusions_of r = each in_both_orders (written_of r)

-- a ring through the two directions of a role and their partners: it leads where step 8's mates lead
abbrev pub ring : ℕ → List Pair
ring j =
    record { left = role (forward j); right = concept (some (forward j)) }
    ∷ record { left = concept (some (forward j)); right = concept (some (inverse j)) }
    ∷ record { left = concept (some (inverse j)); right = role (inverse j) }
    ∷ record { left = role (inverse j); right = role (forward j) }
    ∷ []

-- the rings of the first roles
unfoldable pub rings : ℕ → List Pair
rings n = each ring (up_to n)

-- one more functional role: a bit for each basic role
pub data CameFunctional (rule : Rule) (old k : ℕ) : Type 0 where
  at_once : bit_of old k ≡ true → CameFunctional rule old k
  of_rule : rule ≡ functional (role_of k) → CameFunctional rule old k

-- what was there stays, the rule's bit comes, and nothing else came
pub record FunctionalAdded (rule : Rule) (old new : ℕ) : Type 0 where
  pub stays : (k : ℕ) → bit_of old k ≡ true → bit_of new k ≡ true
  pub comes : (k : ℕ) → k < 64 → rule ≡ functional (role_of k) → bit_of new k ≡ true
  pub came : (k : ℕ) → bit_of new k ≡ true → CameFunctional rule old k
