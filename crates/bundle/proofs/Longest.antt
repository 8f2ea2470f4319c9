-- "no valid file is over 28,674 bytes", and the reading of a longer one looks at no byte past them: two bytes of the count,
-- then at most seven for each of 4,096 facts, since a declared predicate has one byte.
use Prim.Native.Nat.{ℕ, zero, suc, ◌+◌, ◌-◌, ◌*◌, ◌≤◌, ◌<◌}
use mathlib.Core.Path.{◌≡◌, refl}
use mathlib.Core.Bool.{Bool, true, false, cond}
use mathlib.Core.List.{List}
use lib.ListN.{length, take}
use lib.Dec.{ltb}
use native.Mathlib.Omega.{arith}
use borrow.Author.Tests.{lt-ltb, ltb-true, ltb-false}
use Rattle.number.specs.Answer.{about}
use Rattle.std.specs.Prelude.{Ok}
use Rattle.number.specs.Number.{number_at}
use Rattle.number.specs.declared.read.Read.{Read}
use Rattle.number.specs.declared.refusal.Fault.TheVariants.{Count, Unknown}
use Rattle.number.specs.declared.refusal.Side.TheVariants.{Bundle}
use Rattle.number.proofs.Answers.{about_given, then_same}
use Rattle.number.proofs.Laws.{Bytes, two_bytes, bounds, one_form, one_byte, same_number}
use Rattle.site.specs.declared.fact.Fact.{Fact}
use Rattle.site.specs.Codes.{predicate_declared}
use Rattle.site.specs.Items.{at_most, count_at, code_at, items_from, end_at}
use Rattle.site.specs.Limits.{most_facts, most_number, most_roles, most_thing}
use Rattle.site.proofs.There.{tested_there, count_there, same_tested}
use Rattle.rule.specs.declared.head.Head.{Head}
use Rattle.bundle.specs.Bundle.{fact_at, next_fact, facts_from, predicate_known, check_bundle}
use Rattle.bundle.specs.declared.walk.Stand.{Stand}
use Rattle.std.specs.Prelude.{Option}
use Rattle.std.specs.Prelude.{None}
use Rattle.bundle.specs.Told.{fact_rest}
use Rattle.bundle.specs.declared.facts.Facts.{Facts}
use Rattle.bundle.proofs.Runs.{ObjectThere, FactThere, fact_by_rest, Run, next_there, walk_there}
use Rattle.bundle.proofs.Runs.ObjectThere.{of_concept_lem, of_role}
use Rattle.bundle.proofs.Runs.Run.{stop, more}
use Rattle.bundle.proofs.Accepted.{bundle_there}

-- "no valid file is over 28,674 bytes"
abbrev pub longest : ℕ
longest = 28674

-- a declared predicate is below 96
pub declared_low : (concepts roles p : ℕ) → roles ≤ most_roles → predicate_declared concepts roles p ≡ true → p < 96
unfolding predicate_declared
declared_low concepts roles p h = by_test (ltb p 64) refl
  where
    by_test : (t : Bool) → ltb p 64 ≡ t → cond t (ltb p concepts) (ltb (p - 64) roles) ≡ true → p < 96
    by_test true is e = omega (arith, ltb-true p 64 is)
    by_test false is e = omega (arith, ltb-false p 64 is, ltb-true (p - 64) roles e)

-- how far a fact, a run and a bundle reach
module _ (s : List ℕ) (bytes : Bytes s) where
  after_predicate : (h : Head) (at : ℕ) (p : Read ℕ) → h.roles ≤ most_roles → number_at s at most_number Bundle ≡ Ok p → predicate_known h p.value ≡ true → p.next ≡ at + 1
  after_predicate h at p few e known =
      let low : p.value < 96 = declared_low h.concepts h.roles p.value few known in
      one_byte s at most_number Bundle p.value p.next e bytes (omega arith)

  object_near : {place : ℕ} {f : Fact} {next : ℕ} → ObjectThere s place f next → next ≤ place + 3
  object_near (of_concept_lem is zero-object place_is) = omega arith
  object_near {place} {f} {next} (of_role is there) = (bounds s place most_thing Bundle f.object next there).near

  module _ (h : Head) (few : h.roles ≤ most_roles) where
    fact_near : {at : ℕ} {f : Fact} {next : ℕ} → FactThere (predicate_known h) s at f next → next ≤ at + 7
    fact_near {at} {f} {next} t =
        let first = after_predicate h at (record { value = f.predicate; next = t.place_of_subject }) few t.predicate t.holds in
        let second = (bounds s t.place_of_subject most_thing Bundle f.subject t.place_of_object t.subject).near in
        let third = object_near t.object in
        omega arith

    run_near : {last : Option Fact} {fs : List Fact} {at end : ℕ} → Run (predicate_known h) s last fs at end → end ≤ at + 7 * length fs
    run_near stop = omega arith
    run_near (more there up run) = omega (arith, fact_near there, run_near run)

    start_near : (n : Read ℕ) → count_at s 0 most_facts Bundle ≡ Ok n → n.next ≤ 2
    start_near n e =
        let c = count_there s 0 most_facts Bundle n e in
        let size = (one_form s 0 most_number Bundle n.value n.next c.number bytes).size in
        omega (arith, two_bytes n.value (omega (arith, c.within)))

    walk_near : (n : Read ℕ) (end : ℕ) → count_at s 0 most_facts Bundle ≡ Ok n → facts_from (predicate_known h) s n.value n.next ≡ Ok end → end ≤ longest
    walk_near n end e f =
        let w = walk_there (predicate_known h) s n.value n.next end f in
        let within = (count_there s 0 most_facts Bundle n e).within in
        omega (arith, run_near w.run, w.count, start_near n e)

-- files that agree on their first n bytes
module _ (s t : List ℕ) (n : ℕ) (agree : take n s ≡ take n t) where
  same_rest : (predicate at : ℕ) → at + 6 ≤ n → fact_rest s predicate at ≡ fact_rest t predicate at
  unfolding fact_rest
  same_rest predicate at h =
      rw (← (same_number s t n agree at (omega arith) most_thing Bundle))
      (then_same (number_at s at most_thing Bundle) _ _
      (λ a e. rw (same_number s t n agree a.next (omega (arith, (bounds s at most_thing Bundle a.value a.next e).near)) most_thing Bundle)))

  module _ (bytes : Bytes s) (h : Head) (few : h.roles ≤ most_roles) where
    same_fact : (at : ℕ) → at + 7 ≤ n → fact_at (predicate_known h) s at ≡ fact_at (predicate_known h) t at
    same_fact at k =
        rw (fact_by_rest (predicate_known h) s at, fact_by_rest (predicate_known h) t at, ← (same_tested s t n agree at (omega arith) (predicate_known h) Unknown Bundle))
        (then_same (code_at s at (predicate_known h) Bundle) _ _
        (λ p e.
        let c = tested_there s at (predicate_known h) Unknown Bundle p e in
        same_rest p.value p.next (omega (arith, after_predicate s bytes h at p few c.number c.holds))))

    same_next : (here : Stand) → here.at + 7 ≤ n → next_fact (predicate_known h) s here ≡ next_fact (predicate_known h) t here
    unfolding next_fact
    same_next here fits = rw (same_fact here.at fits)

    same_facts : (k m : ℕ) (here : Stand) → here.at + 7 * m ≤ n → items_from (next_fact (predicate_known h) s) k m here ≡ items_from (next_fact (predicate_known h) t) k m here
    unfolding items_from
    same_facts k zero here fits = refl
    same_facts k (suc m) here fits =
        rw (← (same_next here (omega arith)))
        (then_same (about k (next_fact (predicate_known h) s here)) _ _
        (λ there e.
        let next = next_there (predicate_known h) s here there (about_given k (next_fact (predicate_known h) s here) e) in
        same_facts (k + 1) m there (omega (arith, fact_near s bytes h few next.is_there))))

module _ (h : Head) (few : h.roles ≤ most_roles) where
  -- an accepted bundle has at most so many bytes
  pub accepted_short : (s : List ℕ) (b : Facts) → Bytes s → check_bundle h s ≡ Ok b → length s ≤ longest
  accepted_short s b bytes e =
      let t = bundle_there h s b e in
      let size = (one_form s 0 most_number Bundle b.count b.start t.count_number bytes).size in
      omega (arith, run_near s bytes h few t.run, t.count, t.count_within, t.at_end, two_bytes b.count (omega (arith, t.count_within)))

  module _ (s t : List ℕ) (long-s : longest < length s) (long-t : longest < length t) where
    after_both : (end : ℕ) → end ≤ longest → end_at s end Bundle ≡ end_at t end Bundle
    unfolding end_at
    after_both end k = rw (lt-ltb end (length s) (omega arith), lt-ltb end (length t) (omega arith))

    -- a longer one's answer is that of its first 28,675 bytes
    pub past_longest : Bytes s → take (longest + 1) s ≡ take (longest + 1) t → check_bundle h s ≡ check_bundle h t
    unfolding check_bundle
    past_longest bytes agree =
        rw (← (same_tested s t (longest + 1) agree 0 (omega arith) (at_most most_facts) Count Bundle))
        (then_same (count_at s 0 most_facts Bundle) _ _
        (λ m e.
        let within = (count_there s 0 most_facts Bundle m e).within in
        let start = start_near s bytes h few m e in
        rw (← (same_facts s t (longest + 1) agree bytes h few 0 m.value (record { last = None; at = m.next }) (omega arith)))
        (then_same (facts_from (predicate_known h) s m.value m.next) _ _
        (λ end f. rw (after_both end (walk_near s bytes h few m end e f))))))
