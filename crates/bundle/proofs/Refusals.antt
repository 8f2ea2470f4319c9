-- Where a bundle's refusal stands: on side 1, at one of the bytes, or for refusal 1 at their end. Said of every answer on the way,
-- and put together as the reading is.
use Prim.Native.Nat.{ℕ, ◌≤◌, ◌<◌}
use mathlib.Core.Logic.{◌⊎◌, inl, inr}
use mathlib.Core.Path.{◌≡◌, refl}
use mathlib.Core.Bool.{Bool}
use mathlib.Core.List.{List}
use lib.ListN.{length}
use lib.Dec.{ltb}
use native.Mathlib.Omega.{arith}
use Rattle.number.specs.Answer.{Answer, refusal}
use Rattle.std.specs.Prelude.{Ok}
use Rattle.number.specs.Number.{number_at}
use Rattle.number.specs.declared.refusal.Refusal.{Refusal}
use Rattle.number.specs.declared.refusal.Fault.TheVariants.{Count, Unknown, Order}
use Rattle.number.specs.declared.refusal.Side.TheVariants.{Bundle}
use Rattle.number.proofs.Refusing.{Refuses, refuses_gives, refuses_so, refuses_test, refuses_over, refuses_then}
use Rattle.site.specs.declared.fact.Fact.{Fact}
use Rattle.site.specs.Items.{at_most, count_at, code_at, items_from, end_at}
use Rattle.site.specs.Limits.{most_facts, most_thing}
use Rattle.site.proofs.InFile.{InFile, at_a_byte, number_placed, tested_placed, items_placed, end_placed, after_number, number_starts, after_tested}
use Rattle.rule.specs.declared.head.Head.{Head}
use Rattle.bundle.specs.Bundle.{fact_at, ascends, next_fact, facts_from, predicate_known, check_bundle}
use Rattle.bundle.specs.declared.walk.Stand.{Stand}
use Rattle.std.specs.Prelude.{None}
use Rattle.bundle.specs.Told.{fact_rest}
use Rattle.bundle.proofs.Runs.{ObjectThere, FactThere, fact_there, fact_by_rest, next_there}
use Rattle.bundle.proofs.Runs.ObjectThere.{of_concept_lem, of_role}

-- the numbers of a bundle's refusals: 1 to 5, 7 and 8
abbrev pub OfBundle : ℕ → Type 0
OfBundle n = (n ≤ 5) ⊎ ((n ≡ 7) ⊎ (n ≡ 8))

-- a refusal of the bundle, with one of these numbers, at one of its bytes or at their end
abbrev pub InBundle : List ℕ → Refusal → Type 0
InBundle s r = InFile Bundle OfBundle s r

of_numbers : (n : ℕ) → n ≤ 3 → OfBundle n
of_numbers n h = inl (omega arith)

module _ (s : List ℕ) where
  -- an answer whose refusal, if it is one, is of the bundle
  abbrev pub Placed : {A : Type 0} → Answer A → Type 0
  Placed a = Refuses (InBundle s) a

  rest_placed : (predicate at : ℕ) → at ≤ length s → Placed (fact_rest s predicate at)
  unfolding fact_rest
  rest_placed predicate at h =
      refuses_then _ (number_at s at most_thing Bundle) _ (number_placed Bundle OfBundle s of_numbers at most_thing h)
      (λ a e.
      refuses_test _ (ltb predicate 64) _ _ (refuses_gives _ _)
      (refuses_then _ (number_at s a.next most_thing Bundle) _ (number_placed Bundle OfBundle s of_numbers a.next most_thing (after_number Bundle s at most_thing a e)) (λ b f. refuses_gives _ _)))

  fact_placed : (known : ℕ → Bool) (at : ℕ) → at ≤ length s → Placed (fact_at known s at)
  fact_placed known at h =
      rw (fact_by_rest known s at)
      (refuses_then _ (code_at s at known Bundle) (λ p. fact_rest s p.value p.next) (tested_placed Bundle OfBundle s of_numbers known Unknown (omega arith) (inl (omega arith)) at h)
      (λ p e. rest_placed p.value p.next (after_tested Bundle s known Unknown at p e)))

  -- where a fact that was read starts and ends
  fact_starts : {known : ℕ → Bool} {at : ℕ} {f : Fact} {next : ℕ} → FactThere known s at f next → at < length s
  fact_starts {at = at} {f = f} t = number_starts Bundle s at most_thing (record { value = f.predicate; next = t.place_of_subject }) t.predicate

  object_inside : {place : ℕ} {f : Fact} {next : ℕ} → ObjectThere s place f next → place ≤ length s → next ≤ length s
  object_inside (of_concept_lem is zero-object place_is) h = omega arith
  object_inside {place} {f} {next} (of_role is there) h = after_number Bundle s place most_thing (record { value = f.object; next = next }) there

  fact_inside : {known : ℕ → Bool} {at : ℕ} {f : Fact} {next : ℕ} → FactThere known s at f next → next ≤ length s
  fact_inside {f = f} t =
      object_inside t.object (after_number Bundle s t.place_of_subject most_thing (record { value = f.subject; next = t.place_of_object }) t.subject)

  module _ (known : ℕ → Bool) where
    next_placed : (here : Stand) → here.at ≤ length s → Placed (next_fact known s here)
    unfolding next_fact
    next_placed here h =
        refuses_then _ (fact_at known s here.at) _ (fact_placed known here.at h)
        (λ f e.
        let there = fact_there known s here.at f.value f.next e in
        refuses_test _ (ascends here.last f.value) _ _ (refuses_gives _ _)
        (refuses_so _ (refusal Order Bundle here.at) (at_a_byte Bundle OfBundle s Order here.at (omega arith) (inr (inr refl)) (fact_starts there))))

    next_inside : (here there : Stand) → here.at ≤ length s → next_fact known s here ≡ Ok there → there.at ≤ length s
    next_inside here there h e = fact_inside (next_there known s here there e).is_there

    facts_placed : (n at : ℕ) → at ≤ length s → Placed (facts_from known s n at)
    facts_placed n at h =
        refuses_over _ (λ end. end.at) (items_from (next_fact known s) 0 n (record { last = None; at = at }))
        (items_placed Bundle OfBundle s (next_fact known s) (λ here. here.at ≤ length s) next_placed next_inside n (record { last = None; at = at }) h)

  -- the whole reading's refusal
  pub refused_in_bundle : (h : Head) → Placed (check_bundle h s)
  unfolding check_bundle
  refused_in_bundle h =
      refuses_then _ (count_at s 0 most_facts Bundle) _ (tested_placed Bundle OfBundle s of_numbers (at_most most_facts) Count (omega arith) (inl (omega arith)) 0 (omega arith))
      (λ n e.
      refuses_then _ (facts_from (predicate_known h) s n.value n.next) _ (facts_placed (predicate_known h) n.value n.next (after_tested Bundle s (at_most most_facts) Count 0 n e))
      (λ end f.
      refuses_then _ (end_at s end Bundle) _ (end_placed Bundle OfBundle s (inr (inl refl)) end) (λ at g. refuses_gives _ _)))
