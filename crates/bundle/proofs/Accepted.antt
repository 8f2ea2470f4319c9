-- What an accepted bundle is: lawful facts, as many as its count says, from its start to the end of its bytes.
use Prim.Native.Nat.{ℕ, ◌≤◌}
use mathlib.Core.Path.{◌≡◌}
use mathlib.Core.Bool.{true}
use mathlib.Core.List.{List}
use lib.ListN.{length}
use native.Mathlib.Omega.{arith}
use Rattle.number.specs.Answer.{Answer, ◌then◌}
use Rattle.std.specs.Prelude.{Ok}
use Rattle.number.specs.Number.{number_at}
use Rattle.number.specs.declared.read.Read.{Read}
use Rattle.number.specs.declared.refusal.Side.TheVariants.{Bundle}
use Rattle.number.proofs.Laws.{bounds}
use Rattle.number.proofs.Answers.{given_once as same-given, went}
use Rattle.site.specs.declared.fact.Fact.{Fact}
use Rattle.site.specs.Items.{count_at, end_at}
use Rattle.site.specs.Kinds.{of_concept}
use Rattle.site.specs.Limits.{most_facts, most_number, most_thing}
use Rattle.site.proofs.There.{count_there, end_there}
use Rattle.rule.specs.declared.head.Head.{Head}
use Rattle.bundle.specs.Bundle.{facts_from, facts_of, predicate_known, check_bundle}
use Rattle.std.specs.Prelude.{Option}
use Rattle.std.specs.Prelude.{None}
use Rattle.bundle.specs.Lawful.{LawfulFact, LawfulFrom, LawfulFacts}
use Rattle.bundle.specs.Lawful.LawfulFrom.{done, next}
use Rattle.bundle.specs.declared.facts.Facts.{Facts}
use Rattle.bundle.proofs.Runs.{ObjectThere, FactThere, Run, walk_there}
use Rattle.bundle.proofs.Runs.ObjectThere.{of_concept_lem, of_role}
use Rattle.bundle.proofs.Runs.Run.{stop, more}

-- the facts of a run are lawful
module _ (h : Head) (s : List ℕ) where
  object_bound : {place : ℕ} {f : Fact} {next : ℕ} → ObjectThere s place f next → f.object ≤ most_thing
  object_bound (of_concept_lem is zero-object place_is) = omega arith
  object_bound {place} {f} {next} (of_role is there) = (bounds s place most_thing Bundle f.object next there).within

  concept_object : {place : ℕ} {f : Fact} {next : ℕ} → ObjectThere s place f next → of_concept f ≡ true → f.object ≡ 0
  concept_object (of_concept_lem is zero-object place_is) e = zero-object
  concept_object (of_role is there) e = let z : ◌≡◌ {A = ℕ} 0 1 = cc in absurd (omega arith)

  lawful_fact : {at : ℕ} {f : Fact} {next : ℕ} → FactThere (predicate_known h) s at f next → LawfulFact h f
  lawful_fact {at} {f} {next} t =
      record {
        known = t.holds;
        subject_within = (bounds s t.place_of_subject most_thing Bundle f.subject t.place_of_object t.subject).within;
        object_within = object_bound t.object;
        no_object = concept_object t.object;
      }

  pub run_lawful : {last : Option Fact} {fs : List Fact} {at end : ℕ} → Run (predicate_known h) s last fs at end → LawfulFrom h last fs
  run_lawful stop = done
  run_lawful (more there up run) = next (lawful_fact there) up (run_lawful run)

-- a bundle that was accepted: its count, and its facts from the start to the end of the bytes
pub record BundleThere (h : Head) (s : List ℕ) (b : Facts) : Type 0 where
  pub count_number : number_at s 0 most_number Bundle ≡ Ok (record { value = b.count; next = b.start })
  pub count_within : b.count ≤ most_facts
  pub end : ℕ
  pub run : Run (predicate_known h) s None (facts_of s b) b.start end
  pub count : length (facts_of s b) ≡ b.count
  pub at_end : length s ≤ end

module _ (h : Head) (s : List ℕ) (b : Facts) (e : check_bundle h s ≡ Ok b) where
  pub bundle_there : BundleThere h s b
  unfolding check_bundle
  bundle_there =
      let k₃ : ℕ → ℕ → ℕ → Answer Facts = λ count start end. Ok (record { count = count; start = start }) in
      let k₂ : Read ℕ → ℕ → Answer Facts = λ n end. end_at s end Bundle then k₃ n.value n.next in
      let w = went (count_at s 0 most_facts Bundle) (λ n. facts_from (predicate_known h) s n.value n.next then k₂ n) e in
      let v = went (facts_from (predicate_known h) s w.value.value w.value.next) (k₂ w.value) w.rest in
      let u = went (end_at s v.value Bundle) (k₃ w.value.value w.value.next) v.rest in
      let same : record { count = w.value.value; start = w.value.next } ≡ b = same-given u.rest in
      let c = count_there s 0 most_facts Bundle w.value w.first in
      let r = walk_there (predicate_known h) s w.value.value w.value.next v.value v.first in
      let there : BundleThere h s (record { count = w.value.value; start = w.value.next }) = record {
        count_number = c.number;
        count_within = c.within;
        end = v.value;
        run = r.run;
        count = r.count;
        at_end = end_there s v.value Bundle u.value u.first;
      } in
      rw same at there

  -- an accepted bundle's facts are lawful, and as many as its count says
  pub accepted_lawful : LawfulFacts h (facts_of s b)
  accepted_lawful =
      let t = bundle_there in
      record { few = omega (arith, t.count, t.count_within); lawful = run_lawful h s t.run }

  pub accepted_count : length (facts_of s b) ≡ b.count
  accepted_count = bundle_there.count
