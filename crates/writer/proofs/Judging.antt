-- Judging records one after the other: a fault stops at its record's number, and exactly lawful facts have none.
use Prim.Native.Nat.{ℕ, ◌+◌, ◌-◌, ◌≤◌, ◌<◌}
use mathlib.Core.Path.{◌≡◌, refl, sym, ap, ◌∙◌}
use mathlib.Core.Bool.{Bool, true, false, cond, ◌&&◌, not}
use mathlib.Core.List.{List, [], ◌∷◌}
use lib.ListN.{length}
use lib.Dec.{leb, eqb}
use native.Mathlib.Omega.{arith}
use borrow.Author.Tests.{le-leb, eq-eqb, leb-true, leb-false, eqb-true, not-false}
use borrow.Author.Rules.{rules}
use Rattle.std.specs.Prelude.{Option, Some, None, Ok, Err}
use Rattle.std.specs.List.{All}
use Rattle.std.proofs.lemmas.List.Elements.{All-nil, All-cons}
use Rattle.number.specs.Answer.{Answer, refusal}
use Rattle.number.specs.declared.refusal.Refusal.{Refusal}
use Rattle.number.specs.declared.refusal.Fault.{Fault}
use Rattle.number.specs.declared.refusal.Fault.TheVariants.{Over, Unknown, Order, Object}
use Rattle.number.specs.declared.refusal.Side.TheVariants.{Call}
use Rattle.number.proofs.Answers.{never}
use Rattle.site.specs.declared.fact.Fact.{Fact}
use Rattle.site.specs.Kinds.{of_concept}
use Rattle.site.specs.Limits.{most_number, most_thing}
use Rattle.rule.specs.declared.head.Head.{Head}
use Rattle.bundle.specs.Bundle.{ascends, predicate_known}
use Rattle.bundle.specs.Lawful.{LawfulFact, LawfulFrom}
use Rattle.bundle.specs.Lawful.LawfulFrom.{done, next}
use Rattle.writer.specs.Records.{within, record_fault, refused_or, records_from}
use Rattle.writer.specs.Stored.{Formed}
use Rattle.writer.proofs.Within.{known_below, within_known, within_unknown}

-- one turn of the judging, where what is left comes to what the whole does
module _ (h : Head) (last : Option Fact) (k : ℕ) (left : List Fact) (whole : Answer ℕ) (same : records_from h last k left ≡ whole) where
  pub judged_all : left ≡ [] → (n : ℕ) → n ≡ k → Ok n ≡ whole
  unfolding records_from
  judged_all none n is = ap Ok is ∙ ap (records_from h last k) (sym none) ∙ same

  module _ (f : Fact) (rest : List Fact) (more : left ≡ f ∷ rest) (found : Option Fault) (is : found ≡ record_fault h last f) where
    turn : refused_or found k (records_from h (Some f) (k + 1) rest) ≡ whole
    unfolding records_from
    turn = ap (λ (o : Option Fault). refused_or o k (records_from h (Some f) (k + 1) rest)) is ∙ ap (records_from h last k) (sym more) ∙ same

    pub judged_faulty : (fault : Fault) → found ≡ Some fault → (r : Refusal) → r ≡ refusal fault Call k → Err r ≡ whole
    judged_faulty fault some r is-r = ap Err is-r ∙ ap (λ (o : Option Fault). refused_or o k (records_from h (Some f) (k + 1) rest)) (sym some) ∙ turn

    pub judged_on : found ≡ None → records_from h (Some f) (k + 1) rest ≡ whole
    judged_on none = ap (λ (o : Option Fault). refused_or o k (records_from h (Some f) (k + 1) rest)) (sym none) ∙ turn

-- a predicate that is not declared; under any head that is one over every number, and below that what the head says counts
module _ (h : Head) (last : Option Fact) (f : Fact) where
  pub fault_unknown : predicate_known h f.predicate ≡ false → record_fault h last f ≡ Some Unknown
  unfolding record_fault
  fault_unknown e = rw e

  over_all : most_number < f.predicate → record_fault (within h) last f ≡ Some Unknown
  unfolding record_fault
  over_all k = rw (within_unknown h f.predicate k)

  below_all : f.predicate ≤ most_number → record_fault (within h) last f ≡ record_fault h last f
  unfolding record_fault
  below_all low = rw (within_known h f.predicate low)

  pub fault_over : most_number < f.predicate → Some Unknown ≡ record_fault (within h) last f
  fault_over k = sym (over_all k)

  pub fault_below : f.predicate ≤ most_number → (o : Option Fault) → o ≡ record_fault h last f → o ≡ record_fault (within h) last f
  fault_below low o is = is ∙ sym (below_all low)

  pub same_fault : record_fault (within h) last f ≡ cond (leb f.predicate most_number) (record_fault h last f) (Some Unknown)
  same_fault = by_test (leb f.predicate most_number) refl
    where
      by_test : (t : Bool) → leb f.predicate most_number ≡ t → record_fault (within h) last f ≡ cond t (record_fault h last f) (Some Unknown)
      by_test true is = below_all (leb-true f.predicate most_number is)
      by_test false is = over_all (leb-false f.predicate most_number is)

pub ruleset faults = (fault_over, fault_below, rules)

-- a fault that is none: the test found nothing
record NoFault (t : Bool) (rest : Option Fault) : Type 0 where
  found : t ≡ false
  later : rest ≡ None

no_fault : (t : Bool) (k : Fault) (rest : Option Fault) → cond t (Some k) rest ≡ None → NoFault t rest
no_fault true k rest e = let z : ◌≡◌ {A = ℕ} 0 1 = cc in absurd (omega arith)
no_fault false k rest e = record { found = refl; later = e }

no_object : (t : Bool) (n : ℕ) → (t && not (eqb n 0)) ≡ false → t ≡ true → n ≡ 0
no_object true n e is = eqb-true n 0 (not-false (eqb n 0) e)
no_object false n e is = let z : ◌≡◌ {A = ℕ} 0 1 = cc in absurd (omega arith)

no_stray : (t : Bool) (n : ℕ) → (t ≡ true → n ≡ 0) → (t && not (eqb n 0)) ≡ false
no_stray true n is = rw (eq-eqb n 0 (is refl))
no_stray false n is = refl

module _ (h : Head) where
  -- a record without a fault is a lawful fact, above the one before it
  record Faultless (last : Option Fact) (f : Fact) : Type 0 where
    lawful : LawfulFact h f
    up : ascends last f ≡ true

  faultless : (last : Option Fact) (f : Fact) → record_fault h last f ≡ None → Faultless last f
  unfolding record_fault
  faultless last f e =
      let a = no_fault (not (predicate_known h f.predicate)) Unknown _ e in
      let b = no_fault (of_concept f && not (eqb f.object 0)) Object _ a.later in
      let c = no_fault (not (leb f.subject most_thing)) Over _ b.later in
      let d = no_fault (not (leb f.object most_thing)) Over _ c.later in
      let o = no_fault (not (ascends last f)) Order None d.later in
      record {
        lawful = record {
          known = not-false (predicate_known h f.predicate) a.found;
          subject_within = leb-true f.subject most_thing (not-false (leb f.subject most_thing) c.found);
          object_within = leb-true f.object most_thing (not-false (leb f.object most_thing) d.found);
          no_object = no_object (of_concept f) f.object b.found;
        };
        up = not-false (ascends last f) o.found;
      }

  lawful_faultless : (last : Option Fact) (f : Fact) → LawfulFact h f → ascends last f ≡ true → record_fault h last f ≡ None
  unfolding record_fault
  lawful_faultless last f l up =
      rw (
        l.known,
        no_stray (of_concept f) f.object l.no_object,
        le-leb f.subject most_thing l.subject_within,
        le-leb f.object most_thing l.object_within,
        up,
      )

  -- exactly lawful facts pass as records
  pub accepted_lawful : (last : Option Fact) (k n : ℕ) (fs : List Fact) → records_from h last k fs ≡ Ok n → LawfulFrom h last fs
  unfolding records_from
  accepted_lawful last k n [] e = done
  accepted_lawful last k n (f ∷ fs) e = by_fault (record_fault h last f) refl e (accepted_lawful (Some f) (k + 1) n fs)
    where
      by_fault : (o : Option Fault) → record_fault h last f ≡ o → refused_or o k (records_from h (Some f) (k + 1) fs) ≡ Ok n
          → (records_from h (Some f) (k + 1) fs ≡ Ok n → LawfulFrom h (Some f) fs) → LawfulFrom h last (f ∷ fs)
      by_fault None is e rest = let g = faultless last f is in next g.lawful g.up (rest e)
      by_fault (Some fault) is e rest = absurd (never e)

  pub lawful_accepted : {last : Option Fact} {fs : List Fact} → LawfulFrom h last fs → (k : ℕ) → records_from h last k fs ≡ Ok (k + length fs)
  unfolding records_from
  lawful_accepted done k = ap Ok (omega arith)
  lawful_accepted (next {last = last} {f = f} l up rest) k = rw (lawful_faultless last f l up) (lawful_accepted rest (k + 1) ∙ ap Ok (omega arith))

-- the numbers of lawful facts have forms, where no predicate over every number is declared
pub lawful_formed : (h : Head) → h.roles ≤ most_number - 63 → {last : Option Fact} {fs : List Fact} → LawfulFrom h last fs → All Formed fs
lawful_formed h few done = All-nil Formed
lawful_formed h few (next {f = f} {fs = fs} l up rest) =
    let low = known_below h few f.predicate l.known in
    All-cons Formed f fs
    (record { predicate = omega (arith, low); subject = omega (arith, l.subject_within); object = omega (arith, l.object_within) })
    (lawful_formed h few rest)
