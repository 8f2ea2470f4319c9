-- The item of a bundle's refusal is that of the fact there, and none in the header and after the last fact.
use Prim.Native.Nat.{ℕ}
use mathlib.Core.Path.{◌≡◌, sym}
use mathlib.Core.List.{List}
use Rattle.number.specs.Answer.{◌then◌}
use Rattle.std.specs.Prelude.{Ok, Err}
use Rattle.number.specs.declared.refusal.Refusal.{Refusal}
use Rattle.number.specs.declared.read.Read.{Read}
use Rattle.number.specs.declared.refusal.Fault.TheVariants.{Count}
use Rattle.number.specs.declared.refusal.Side.TheVariants.{Bundle}
use Rattle.number.proofs.Answers.{Halts, halts, never, over_refused}
use Rattle.number.proofs.Answers.Halts.{at_first, at_rest}
use Rattle.site.specs.Items.{at_most, count_at, items_from, end_at}
use Rattle.site.specs.Limits.{most_facts}
use Rattle.site.proofs.InFile.{tested_of_none, end_of_none}
use Rattle.site.proofs.Numbered.{of_item_lem}
use Rattle.rule.specs.declared.head.Head.{Head}
use Rattle.bundle.specs.Bundle.{next_fact, facts_from, predicate_known, check_bundle}
use Rattle.std.specs.Prelude.{None}
use Rattle.bundle.specs.Faults.{BundleFault}
use Rattle.bundle.specs.Faults.BundleFault.{in_header, in_fact, after_last}
use Rattle.bundle.specs.declared.facts.Facts.{Facts}

-- what an accepted bundle gives
abbrev ready : Read ℕ → Facts
ready n = record { count = n.value; start = n.next }

module _ (h : Head) (s : List ℕ) (r : Refusal) where
  module _ (n : Read ℕ) (counted : count_at s 0 most_facts Bundle ≡ Ok n) where
    ends : (end : ℕ) → facts_from (predicate_known h) s n.value n.next ≡ Ok end → Halts (end_at s end Bundle) (λ at. Ok (ready n)) r → BundleFault h s r
    ends end read (at_first e) = after_last n end counted read e (end_of_none s end Bundle r e)
    ends end read (at_rest at f e) = absurd (never (sym e))

    facts : Halts (facts_from (predicate_known h) s n.value n.next) (λ end. end_at s end Bundle then λ at. Ok (ready n)) r → BundleFault h s r
    facts (at_first e) =
        in_fact n counted
        (of_item_lem (next_fact (predicate_known h) s) n.value (record { last = None; at = n.next }) r
        (over_refused (λ end. end.at) (items_from (next_fact (predicate_known h) s) 0 n.value (record { last = None; at = n.next })) e))
    facts (at_rest end f e) = ends end f (halts _ _ r e)

  count : Halts (count_at s 0 most_facts Bundle) (λ n. facts_from (predicate_known h) s n.value n.next then λ end. end_at s end Bundle then λ at. Ok (ready n)) r → BundleFault h s r
  count (at_first e) = in_header e (tested_of_none s 0 (at_most most_facts) Count Bundle r e)
  count (at_rest n f e) = facts n f (halts _ _ r e)

  pub bundle_fault : check_bundle h s ≡ Err r → BundleFault h s r
  unfolding check_bundle
  bundle_fault e = count (halts _ _ r e)
