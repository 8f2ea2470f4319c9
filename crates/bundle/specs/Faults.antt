-- Where the fault of a bundle stands, and which item it is about: "the number of the item there (rule or fact; 65,535 in the header and after the last
-- item)".
use Rattle.std.specs.Prelude.{ℕ, ◌≡◌, List}
use Rattle.std.specs.Prelude.{Ok, Err, None}
use Rattle.number.specs.declared.refusal.Refusal.{Refusal}
use Rattle.number.specs.declared.read.Read.{Read}
use Rattle.number.specs.declared.refusal.Side.TheVariants.{Bundle}
use Rattle.site.specs.Items.{count_at, OfItem, end_at}
use Rattle.site.specs.Limits.{most_facts}
use Rattle.rule.specs.declared.head.Head.{Head}
use Rattle.bundle.specs.Bundle.{next_fact, facts_from, predicate_known}
use Rattle.std.specs.Prelude.{None}

pub data BundleFault (h : Head) (s : List ℕ) (r : Refusal) : Type 0 where
  -- "65,535 in the header"
  in_header : count_at s 0 most_facts Bundle ≡ Err r → r.item ≡ None → BundleFault h s r
  -- the number of a fact: those before it were read, and it was not, or is not above them
  in_fact : (n : Read ℕ) → count_at s 0 most_facts Bundle ≡ Ok n → OfItem (next_fact (predicate_known h) s) n.value (record { last = None; at = n.next }) r
      → BundleFault h s r
  -- 65,535 "after the last item"
  after_last : (n : Read ℕ) (end : ℕ) → count_at s 0 most_facts Bundle ≡ Ok n → facts_from (predicate_known h) s n.value n.next ≡ Ok end
      → end_at s end Bundle ≡ Err r → r.item ≡ None → BundleFault h s r
