-- "Marks, partners, answers", in document 01's order: alone, clash, marks, partners, counts, questions, the kept facts.
-- `is_included` and `is_excluded` are the tables that compute; that for lawful rules they are `Included` and `Excluded` by the steps is `decides`
-- (steps/proofs/Decided.antt).
use Rattle.std.specs.Prelude.{ℕ, Bool, false, cond, ◌&&◌, ◌||◌, not, List, map, length, eqb}
use Rattle.site.specs.declared.fact.Fact.{Fact}
use Rattle.site.specs.Kinds.{Node, same_node}
use Rattle.site.specs.Kinds.Node.{concept, role}
use Rattle.site.specs.Limits.{no_partner}
use Rattle.site.specs.Lists.{any, count, keep, first}
use Rattle.steps.specs.Tables.{Follows}
use Rattle.clashes.specs.Types.{Typ, types_of}
use Rattle.clashes.specs.declared.answers.Counts.{Counts}

-- "at the same thing or the same ordered pair"
abbrev pub same_place : Typ → Typ → Bool
same_place x y = eqb x.from y.from && eqb x.to y.to

-- two types at one place that "exclude each other"
unfoldable pub jar : Follows → Typ → Typ → Bool
jar t x y = same_place x y && t.is_excluded x.node y.node

-- "a functional q joins one thing to two different things by them"
abbrev pub functional_node : Follows → Node → Bool
functional_node t (concept b) = false
functional_node t (role q) = t.is_functional q

-- two types of one functional role from one thing to two different things
unfoldable pub split : Follows → Typ → Typ → Bool
split t x y =
    same_node x.node y.node && functional_node t x.node && eqb x.from y.from && not (eqb x.to y.to)

-- a type of one fact and a type of another that meet so
unfoldable pub meet : (ℕ → ℕ) → (Typ → Typ → Bool) → Fact → Fact → Bool
meet ρ p f g = any (λ x. any (λ y. p x y) (types_of ρ g)) (types_of ρ f)

module _ (ρ : ℕ → ℕ) (t : Follows) where
  -- "Alone: two types of the fact, perhaps the same one, at the same thing or the same ordered pair, exclude each other."
  unfoldable pub alone : Fact → Bool
  alone f = meet ρ (jar t) f f

  -- two facts that contradict each other, "a type of one and a type of the other .. exclude each other; or a functional q .."
  unfoldable pub contradict : Fact → Fact → Bool
  contradict f g = meet ρ (jar t) f g || meet ρ (split t) f g

  -- "Clash of two facts, neither alone"
  unfoldable pub clash : Fact → Fact → Bool
  clash f g = not (alone f) && not (alone g) && contradict f g

  -- "one of whose types, at a or at the pair, is included in the asked code"
  unfoldable pub supports : Typ → Fact → Bool
  supports asked f = any (λ x. same_place x asked && t.is_included x.node asked.node) (types_of ρ f)

  module _ (facts : List Fact) where
    -- "0 kept, 1 alone, 2 disputed (clashes with some fact)"
    unfoldable pub mark : Fact → ℕ
    mark f = cond (alone f) 1 (cond (any (clash f) facts) 2 0)

    -- "the lowest-numbered fact it clashes with, or 65,535 for marks 0 and 1"
    unfoldable pub partner : Fact → ℕ
    partner f = first no_partner (clash f) 0 facts

    -- "one byte a fact", "one 16-bit number a fact"
    unfoldable pub marks : List ℕ
    marks = map mark facts

    -- "one 16-bit number a fact"
    unfoldable pub partners : List ℕ
    partners = map partner facts

    -- "each the number of facts with that property"
    unfoldable pub marked : ℕ → Fact → Bool
    marked m f = eqb (mark f) m

    -- "Counts: of facts, and of each mark, each the number of facts with that property"
    unfoldable pub counts : Counts
    counts =
        record { facts = length facts; kept = count (marked 0) facts; alone = count (marked 1) facts; disputed = count (marked 2) facts }

    -- the kept facts
    unfoldable pub kept : List Fact
    kept = keep (marked 0) facts

    -- "yes with the lowest-numbered kept fact"; else the number of facts
    unfoldable pub support : Typ → ℕ
    support asked = first (length facts) (λ f. marked 0 f && supports asked f) 0 facts
