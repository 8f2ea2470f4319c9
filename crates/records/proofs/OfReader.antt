-- Laws of the fact reader: on an accepted bundle it yields the facts in order and is then done; its refusals are 1, 2 or 3 on side 1, and it stays there.
use Prim.Native.Nat.{ℕ, zero, suc, ◌+◌, ◌≤◌, ◌<◌}
use mathlib.Core.Path.{◌≡◌, refl, sym, ap, ◌∙◌}
use mathlib.Core.Bool.{Bool, true, false, cond}
use mathlib.Core.List.{List, ◌∷◌, ◌++◌, map}
use lib.ListN.{length, replicate}
use lib.Dec.{ltb}
use native.Mathlib.Omega.{arith}
use borrow.Author.Tests.{le-ltb, lt-ltb}
use Rattle.std.specs.Prelude.{Option, Some, None, Ok, Err}
use Rattle.number.specs.Answer.{Answer, number_of}
use Rattle.number.specs.Number.{number_at}
use Rattle.number.specs.declared.refusal.Refusal.{Refusal}
use Rattle.number.specs.declared.read.Read.{Read}
use Rattle.number.specs.declared.refusal.Fault.TheVariants.{Unknown}
use Rattle.number.specs.declared.refusal.Side.TheVariants.{Bundle}
use Rattle.number.proofs.Laws.{bounds, refused_how}
use Rattle.number.proofs.Answers.{never, same_refused}
use Rattle.number.proofs.Refusing.{Refuses, refuses_gives, refuses_test, refuses_then}
use Rattle.site.specs.declared.fact.Fact.{Fact}
use Rattle.site.specs.Items.{tested_at, code_at}
use Rattle.site.specs.Limits.{most_thing}
use Rattle.site.proofs.There.{tested_there}
use Rattle.rules.specs.RuleFile.{check_rules}
use Rattle.rule.specs.declared.head.Head.{Head}
use Rattle.bundle.specs.Bundle.{fact_at, check_bundle, facts_of}
use Rattle.bundle.specs.Told.{fact_rest}
use Rattle.bundle.specs.declared.facts.Facts.{Facts}
use Rattle.bundle.proofs.Runs.{FactThere, fact_read, any_there, fact_by_rest, Run}
use Rattle.bundle.proofs.Runs.Run.{stop, more}
use Rattle.bundle.proofs.Accepted.{bundle_there}
use Rattle.bundle.proofs.OfOpened.{opening_given}
use Rattle.records.specs.Reading.{goes_on, reader_start, reader_step, yields_from}
use Rattle.records.specs.declared.step.Step.{Step}

-- a fact that is yielded
abbrev pub yielded : Fact → Answer (Option Fact)
yielded f = Ok (Some f)

module _ (s : List ℕ) where
  -- "At or past the end it is done, and stays done."
  pub ended : (at : ℕ) → length s ≤ at → ◌≡◌ {A = Step} (reader_step s at) (record { yields = Ok None; next = at })
  unfolding reader_step
  ended at past = rw (le-ltb at (length s) past)

  pub stays_done : (n at : ℕ) → length s ≤ at → yields_from s n at ≡ replicate n (Ok None)
  unfolding yields_from
  stays_done zero at past = refl
  stays_done (suc n) at past = rw (ended at past) (ap (λ (l : List (Answer (Option Fact))). Ok None ∷ l) (stays_done n at past))

  -- a fact that is there is yielded, and the reader goes on after it
  on_fact : {known : ℕ → Bool} {f : Fact} {at next : ℕ} → FactThere known s at f next → ◌≡◌ {A = Step} (reader_step s at) (record { yields = yielded f; next = next })
  unfolding reader_step
  on_fact {known} {f} {at} {next} there =
      let b = bounds s at most_thing Bundle f.predicate there.place_of_subject there.predicate in
      let inside : at < length s = omega (arith, b.past, b.inside) in
      rw (lt-ltb at (length s) inside, fact_read (λ _. true) s at f next (any_there there))

  one_yield : (n at : ℕ) (f : Fact) (next : ℕ) → ◌≡◌ {A = Step} (reader_step s at) (record { yields = yielded f; next = next })
      → yields_from s (suc n) at ≡ yielded f ∷ yields_from s n next
  unfolding yields_from
  one_yield n at f next e = rw e

  run_yields : {known : ℕ → Bool} {last : Option Fact} {fs : List Fact} {at end : ℕ} → Run known s last fs at end → length s ≤ end
      → (n k : ℕ) → n ≡ length fs + k → yields_from s n at ≡ map yielded fs ++ replicate k (Ok None)
  run_yields {at = at} stop past n k e =
      let same : n ≡ k = omega arith in
      rw same (stays_done k at past)
  run_yields (more {f = f} {fs = fs} {at = at} {next = next} there up run) past zero k e = absurd (omega arith)
  run_yields (more {f = f} {fs = fs} {at = at} {next = next} there up run) past (suc n) k e =
      one_yield n at f next (on_fact there) ∙ ap (λ (l : List (Answer (Option Fact))). yielded f ∷ l) (run_yields run past n k (omega arith))

-- "It starts on an accepted bundle and yields its facts, in order"; then it is done
module _ (rules s : List ℕ) (h : Head) (b : Facts) (rules_read : check_rules rules ≡ Ok h) (bundle_read : check_bundle h s ≡ Ok b) where
  pub starts : reader_start rules s ≡ Ok b.start
  unfolding reader_start
  starts = rw (opening_given rules s h b (record { of_rules = rules_read; of_bundle = bundle_read }))

  pub yields_all : (k : ℕ) → yields_from s (b.count + k) b.start ≡ map yielded (facts_of s b) ++ replicate k (Ok None)
  yields_all k =
      let t = bundle_there h s b bundle_read in
      run_yields s t.run t.at_end (b.count + k) k (omega (arith, t.count))

-- "or their refusal 1, 2 or 3 on side 1", at a number of the fact; a reader knows of no item
pub record StepRefused (at : ℕ) (r : Refusal) : Type 0 where
  pub side : r.side ≡ Bundle
  pub low : 1 ≤ number_of r.fault
  pub high : number_of r.fault ≤ 3
  pub place : at ≤ r.place
  pub of_none : r.item ≡ None

module _ (s : List ℕ) where
  number_refused : (start at : ℕ) → start ≤ at → Refuses (StepRefused start) (number_at s at most_thing Bundle)
  number_refused start at later r e =
      let how = refused_how at most_thing Bundle r s e in
      record { side = how.side_given; low = how.low; high = how.high; place = omega (arith, how.first_byte); of_none = how.of_none }

  passes : (at v next : ℕ) → number_at s at most_thing Bundle ≡ Ok (record { value = v; next = next }) → at ≤ next
  passes at v next e = omega (arith, (bounds s at most_thing Bundle v next e).past)

  rest_refused : (start predicate at : ℕ) → start ≤ at → Refuses (StepRefused start) (fact_rest s predicate at)
  unfolding fact_rest
  rest_refused start predicate at later =
      refuses_then _ (number_at s at most_thing Bundle) _ (number_refused start at later)
      (λ a e.
      refuses_test _ (ltb predicate 64) _ _ (refuses_gives _ _)
      (refuses_then _ (number_at s a.next most_thing Bundle) _ (number_refused start a.next (omega (arith, passes at a.value a.next e))) (λ b e'. refuses_gives _ _)))

  fact_refused : (at : ℕ) → Refuses (StepRefused at) (fact_at (λ _. true) s at)
  unfolding tested_at
  fact_refused at r e =
      refuses_then _ (code_at s at (λ _. true) Bundle) (λ p. fact_rest s p.value p.next)
      (refuses_then _ (number_at s at most_thing Bundle) Ok (number_refused at at (omega arith)) (λ n e'. refuses_gives _ n))
      (λ p e'. rest_refused at p.value p.next (passes at p.value p.next (tested_there s at (λ _. true) Unknown Bundle p e').number)) r (sym (fact_by_rest (λ _. true) s at) ∙ e)

  by_fact : (at : ℕ) (a : Answer (Read Fact)) (r : Refusal) → (goes_on at a).yields ≡ Err r → a ≡ Err r
  by_fact at (Ok f) r e = absurd (never (sym e))
  by_fact at (Err q) r e = ap Err (same_refused e)

  by_end : (at : ℕ) (t : Bool) (r : Refusal) → (cond {A = Step} t (goes_on at (fact_at (λ _. true) s at)) (record { yields = Ok None; next = at })).yields ≡ Err r → fact_at (λ _. true) s at ≡ Err r
  by_end at true r e = by_fact at (fact_at (λ _. true) s at) r e
  by_end at false r e = absurd (never (sym e))

  to_fact : (at : ℕ) (r : Refusal) → (reader_step s at).yields ≡ Err r → fact_at (λ _. true) s at ≡ Err r
  unfolding reader_step
  to_fact at r e = by_end at (ltb at (length s)) r e

  pub step_refused_how : (at : ℕ) (r : Refusal) → (reader_step s at).yields ≡ Err r → StepRefused at r
  step_refused_how at r e = fact_refused at r (to_fact at r e)

  -- "and then stays where it is"
  pub refused_stays : (at : ℕ) (r : Refusal) → (reader_step s at).yields ≡ Err r → (reader_step s at).next ≡ at
  unfolding reader_step
  refused_stays at r e = rw (by_end at (ltb at (length s)) r e) (by_test (ltb at (length s)))
    where
      by_test : (t : Bool) → (cond {A = Step} t (record { yields = Err r; next = at }) (record { yields = Ok None; next = at })).next ≡ at
      by_test true = refl
      by_test false = refl
