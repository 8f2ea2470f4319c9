-- Both round trips: what is written for lawful facts is accepted and read back as these facts, and what is read from accepted bytes is written as these bytes.
-- Each goes fact by fact: a fact's bytes are its numbers' bytes, which a number's own laws read back and write again.
use Prim.Native.Nat.{ℕ, ◌+◌, ◌≤◌, ◌<◌}
use mathlib.Core.Path.{◌≡◌, refl, sym, ap, ◌∙◌}
use mathlib.Core.Bool.{Bool, true, false, cond}
use mathlib.Core.List.{List, [], ◌++◌, append_assoc, append-nil}
use lib.ListN.{length, drop, length-append, drop_of_length-le}
use native.Mathlib.Omega.{arith}
use borrow.Author.Tests.{le-leb, le-ltb}
use Rattle.number.specs.Answer.{Answer, over}
use Rattle.std.specs.Prelude.{Ok, Err}
use Rattle.number.specs.Number.{number_at, bytes_of, three_bytes}
use Rattle.number.specs.declared.refusal.Side.{Side}
use Rattle.number.specs.declared.refusal.Side.TheVariants.{Bundle}
use Rattle.number.proofs.Laws.{Bytes, one_form, reads_back}
use Rattle.number.proofs.Answers.{never, given_once as same-given}
use Rattle.site.specs.declared.fact.Fact.{Fact}
use Rattle.site.specs.Items.{tested_at, at_most, end_at}
use Rattle.site.specs.Kinds.{of_concept}
use Rattle.site.specs.Limits.{most_facts, most_number, most_roles, most_thing}
use Rattle.site.specs.Lists.{each}
use Rattle.rule.specs.declared.head.Head.{Head}
use Rattle.bundle.specs.Bundle.{facts_of, predicate_known, check_bundle, read_bundle, fact_bytes, bundle_of}
use Rattle.std.specs.Prelude.{Option}
use Rattle.std.specs.Prelude.{None}
use Rattle.bundle.specs.Lawful.{LawfulFact, LawfulFrom, LawfulFacts}
use Rattle.bundle.specs.Lawful.LawfulFrom.{done, next as one_more}
use Rattle.bundle.specs.declared.facts.Facts.{Facts}
use Rattle.bundle.proofs.Runs.{ObjectThere, FactThere, Run, run_walks, run_reads}
use Rattle.bundle.proofs.Runs.ObjectThere.{of_concept_lem, of_role}
use Rattle.bundle.proofs.Runs.Run.{stop, more}
use Rattle.bundle.proofs.Accepted.{bundle_there}
use Rattle.bundle.proofs.Longest.{declared_low}

-- a number whose bytes stand at a place
number_there : (s before after : List ℕ) (v at next most : ℕ) (side : Side) → s ≡ before ++ (bytes_of v ++ after) → at ≡ length before
    → next ≡ at + length (bytes_of v) → v ≤ three_bytes → v ≤ most → number_at s at most side ≡ Ok (record { value = v; next = next })
number_there s before after v at next most side is-s is_at is-next formed within =
    rw (is-s, is-next, is_at) (reads_back v formed before after most side within)

-- the place moves over what was read
passed_over : (s before bytes after : List ℕ) → s ≡ before ++ (bytes ++ after) → s ≡ (before ++ bytes) ++ after
passed_over s before bytes after is = is ∙ sym (append_assoc before bytes after)

moved : (before bytes : List ℕ) (at : ℕ) → at ≡ length before → at + length bytes ≡ length (before ++ bytes)
moved before bytes at is = rw (is, length-append before bytes)

-- the head of the bundle that is written for some facts
abbrev pub written_head : List Fact → Facts
written_head facts = record { count = length facts; start = length (bytes_of (length facts)) }

-- a fact's bytes: its numbers' bytes, with an object for a role
abbrev object_bytes : Bool → Fact → List ℕ
object_bytes concept f = cond concept [] (bytes_of f.object)

module _ (h : Head) (few : h.roles ≤ most_roles) where
  predicate_within : (f : Fact) → LawfulFact h f → f.predicate < 96
  predicate_within f l = declared_low h.concepts h.roles f.predicate few l.known

  object_written : (f : Fact) → LawfulFact h f → (s before after : List ℕ) (at next : ℕ) (t : Bool) → of_concept f ≡ t
      → s ≡ before ++ (object_bytes t f ++ after) → at ≡ length before → next ≡ at + length (object_bytes t f) → ObjectThere s at f next
  object_written f l s before after at next true is is-s is_at is-next = of_concept_lem is (l.no_object is) (omega arith)
  object_written f l s before after at next false is is-s is_at is-next =
      of_role is (number_there s before after f.object at next most_thing Bundle is-s is_at is-next (omega (arith, l.object_within)) l.object_within)

  fact_written : (f : Fact) → LawfulFact h f → (s before after : List ℕ) (at next : ℕ) → s ≡ before ++ (fact_bytes f ++ after)
      → at ≡ length before → next ≡ at + length (fact_bytes f) → FactThere (predicate_known h) s at f next
  unfolding fact_bytes
  fact_written f l s before after at next is-s is_at is-next =
      let p : List ℕ = bytes_of f.predicate in
      let a : List ℕ = bytes_of f.subject in
      let o : List ℕ = object_bytes (of_concept f) f in
      let is-p : s ≡ before ++ (p ++ ((a ++ o) ++ after)) = is-s ∙ ap (λ m. before ++ m) (append_assoc p (a ++ o) after) in
      let is_a : s ≡ (before ++ p) ++ (a ++ (o ++ after)) = passed_over s before p _ is-p ∙ ap (λ m. (before ++ p) ++ m) (append_assoc a o after) in
      let is-o : s ≡ ((before ++ p) ++ a) ++ (o ++ after) = passed_over s (before ++ p) a _ is_a in
      let at_a : at + length p ≡ length (before ++ p) = moved before p at is_at in
      let low = predicate_within f l in
      record {
        place_of_subject = at + length p;
        place_of_object = at + length p + length a;
        holds = l.known;
        predicate = number_there s before _ f.predicate at (at + length p) most_thing Bundle is-p is_at refl (omega arith) (omega arith);
        subject = number_there s (before ++ p) _ f.subject (at + length p) (at + length p + length a) most_thing Bundle is_a at_a refl
            (omega (arith, l.subject_within)) l.subject_within;
        object = object_written f l s ((before ++ p) ++ a) after (at + length p + length a) next (of_concept f) refl is-o (moved (before ++ p) a (at + length p) at_a)
            (is-next ∙ (rw (length-append p (a ++ o), length-append a o) (omega arith)));
      }

  run_written : {last : Option Fact} {fs : List Fact} → LawfulFrom h last fs → (s before after : List ℕ) (at end : ℕ) → s ≡ before ++ (each fact_bytes fs ++ after)
      → at ≡ length before → end ≡ at + length (each fact_bytes fs) → Run (predicate_known h) s last fs at end
  unfolding each
  run_written done s before after at end is-s is_at is-end =
      let here : end ≡ at = omega arith in
      rw here stop
  run_written (one_more {f = f} {fs = fs} l up rest) s before after at end is-s is_at is-end =
      let b : List ℕ = fact_bytes f in
      let is_f : s ≡ before ++ (b ++ (each fact_bytes fs ++ after)) = is-s ∙ ap (λ m. before ++ m) (append_assoc b (each fact_bytes fs) after) in
      more (fact_written f l s before (each fact_bytes fs ++ after) at (at + length b) is_f is_at refl) up
      (run_written rest s (before ++ b) after (at + length b) end (passed_over s before b _ is_f) (moved before b at is_at)
      (is-end ∙ (rw (length-append b (each fact_bytes fs)) (omega arith))))

  -- what is written for lawful facts is accepted
  module _ (facts : List Fact) (lawful : LawfulFacts h facts) where
    written_run : Run (predicate_known h) (bundle_of facts) None facts (length (bytes_of (length facts))) (length (bundle_of facts))
    unfolding bundle_of
    written_run =
        let n : List ℕ = bytes_of (length facts) in
        run_written lawful.lawful (n ++ each fact_bytes facts) n [] (length n) (length (n ++ each fact_bytes facts))
        (ap (λ m. n ++ m) (sym (append-nil (each fact_bytes facts)))) refl (length-append n (each fact_bytes facts))

    written_count : number_at (bundle_of facts) 0 most_number Bundle ≡ Ok (record { value = length facts; next = length (bytes_of (length facts)) })
    unfolding bundle_of
    written_count =
        let small = lawful.few in
        number_there (bundle_of facts) [] (each fact_bytes facts) (length facts) 0 (length (bytes_of (length facts))) most_number Bundle refl refl (omega arith) (omega arith) (omega arith)

    pub written_accepted : check_bundle h (bundle_of facts) ≡ Ok (written_head facts)
    unfolding check_bundle tested_at at_most end_at
    written_accepted =
        rw (
          written_count,
          le-leb (length facts) most_facts lawful.few,
          run_walks (predicate_known h) (bundle_of facts) written_run 0,
          le-ltb (length (bundle_of facts)) (length (bundle_of facts)) (omega arith),
        )

    -- and read back
    pub written_facts : facts_of (bundle_of facts) (written_head facts) ≡ facts
    written_facts = run_reads (predicate_known h) (bundle_of facts) written_run

    pub written_read : read_bundle h (bundle_of facts) ≡ Ok facts
    unfolding read_bundle
    written_read = rw written_accepted (ap Ok written_facts)

-- what was read is written again
module _ (s : List ℕ) (bytes : Bytes s) where
  object_again : {place : ℕ} {f : Fact} {next : ℕ} → ObjectThere s place f next → drop place s ≡ object_bytes (of_concept f) f ++ drop next s
  object_again {place} {f} {next} (of_concept_lem is zero-object place_is) = rw (is, place_is)
  object_again {place} {f} {next} (of_role is there) = rw is (one_form s place most_thing Bundle f.object next there bytes).rest

  fact_again : {known : ℕ → Bool} {at : ℕ} {f : Fact} {next : ℕ} → FactThere known s at f next → drop at s ≡ fact_bytes f ++ drop next s
  unfolding fact_bytes
  fact_again {known} {at} {f} {next} t =
      let p : List ℕ = bytes_of f.predicate in
      let a : List ℕ = bytes_of f.subject in
      let o : List ℕ = object_bytes (of_concept f) f in
      (one_form s at most_thing Bundle f.predicate t.place_of_subject t.predicate bytes).rest
      ∙ ap (λ m. p ++ m)
      ((one_form s t.place_of_subject most_thing Bundle f.subject t.place_of_object t.subject bytes).rest
      ∙ ap (λ m. a ++ m) (object_again t.object)
      ∙ sym (append_assoc a o (drop next s)))
      ∙ sym (append_assoc p (a ++ o) (drop next s))

  run_again : {known : ℕ → Bool} {last : Option Fact} {fs : List Fact} {at end : ℕ} → Run known s last fs at end → drop at s ≡ each fact_bytes fs ++ drop end s
  unfolding each
  run_again stop = refl
  run_again (more {f = f} {fs = fs} {end = end} there up run) =
      fact_again there ∙ ap (λ m. fact_bytes f ++ m) (run_again run) ∙ sym (append_assoc (fact_bytes f) (each fact_bytes fs) (drop end s))

  pub accepted_again : (h : Head) (b : Facts) → check_bundle h s ≡ Ok b → bundle_of (facts_of s b) ≡ s
  unfolding bundle_of
  accepted_again h b e =
      let t = bundle_there h s b e in
      let facts : List ℕ = each fact_bytes (facts_of s b) in
      let rest : drop b.start s ≡ facts =
      run_again t.run ∙ ap (λ m. facts ++ m) (drop_of_length-le s t.at_end) ∙ append-nil facts in
      let whole : s ≡ bytes_of b.count ++ facts =
      (one_form s 0 most_number Bundle b.count b.start t.count_number bytes).rest ∙ ap (λ m. bytes_of b.count ++ m) rest in
      ap (λ n. bytes_of n ++ facts) t.count ∙ sym whole

  read_whole : (h : Head) (a : Answer Facts) → check_bundle h s ≡ a → (facts : List Fact) → over (facts_of s) a ≡ Ok facts → bundle_of facts ≡ s
  read_whole h (Ok b) is facts e = ap bundle_of (sym (same-given e)) ∙ accepted_again h b is
  read_whole h (Err r) is facts e = absurd (never e)

  pub read_again : (h : Head) (facts : List Fact) → read_bundle h s ≡ Ok facts → bundle_of facts ≡ s
  unfolding read_bundle
  read_again h facts e = read_whole h (check_bundle h s) refl facts e
