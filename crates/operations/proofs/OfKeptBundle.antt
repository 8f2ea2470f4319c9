-- The kept facts' bundle: its length from the measure, its bytes from the count and the stored facts.
use Prim.Native.Nat.{ℕ, ◌+◌, ◌*◌, ◌≤◌, ◌<◌}
use mathlib.Core.Path.{◌≡◌, sym, ap, ap₂, ◌∙◌}
use mathlib.Core.List.{List, [], ◌∷◌, ◌++◌}
use lib.ListN.{length, length-append}
use lib.Seq.{sets}
use mir.Val.{Fits}
use mir.Syntax.{w64}
use native.Mathlib.Omega.{arith}
use borrow.Author.Tests.{le-leb, lt-leb}
use Rattle.number.specs.Answer.{refusal}
use Rattle.number.specs.declared.refusal.Refusal.{Refusal}
use Rattle.std.specs.Prelude.{Ok, Err}
use Rattle.number.specs.Number.{bytes_of}
use Rattle.number.specs.Told.{Stored}
use Rattle.number.specs.declared.refusal.Fault.TheVariants.{Room}
use Rattle.number.specs.declared.refusal.Side.TheVariants.{Call}
use Rattle.number.proofs.Laws.{at_most_three}
use Rattle.site.specs.declared.fact.Fact.{Fact}
use Rattle.site.specs.Kinds.{Site}
use Rattle.site.specs.Limits.{most_facts}
use Rattle.site.specs.Lists.{each}
use Rattle.site.proofs.Lists.{length_keep, count_within}
use Rattle.rule.specs.declared.head.Head.{Head}
use Rattle.rules.specs.RuleFile.{site_of}
use Rattle.bundle.specs.Bundle.{facts_of, fact_bytes, bundle_of}
use Rattle.bundle.specs.declared.facts.Facts.{Facts}
use Rattle.bundle.specs.Opened.{Accepted}
use Rattle.writer.specs.Records.{room_for}
use Rattle.writer.proofs.FactBytes.{sets_append}
use Rattle.steps.specs.Tables.{Follows, follows_of}
use Rattle.follows.specs.Tells.{Tells}
use Rattle.clashes.specs.Types.{itself}
use Rattle.clashes.specs.Marks.{marked, kept}
use Rattle.clashes.specs.Coded.{bits_follow}
use Rattle.clashes.proofs.OfAgreement.{kept_same}
use Rattle.clean.specs.Keeping.{kept_bytes, measure_of, StoredKept}
use Rattle.clean.specs.Operations.{keeping}
use Rattle.clean.specs.declared.measure.Measure.{Measure}
use Rattle.clean.proofs.OfKeeping.{fact_short}
use Rattle.operations.specs.Promises.{WritesKept, StoresBundle}
use Rattle.operations.proofs.OfOperations.{as_many, few, given_is, spoken, agree}

nine_each : (l : List Fact) → length (each fact_bytes l) ≤ 9 * length l
unfolding each
nine_each [] = omega arith
nine_each (f ∷ l) = let later = nine_each l in simp length-append (omega (arith, fact_short f))

module _ (rules bundle : List ℕ) (h : Head) (b : Facts) (acc : Accepted rules bundle h b) where
  abbrev site : Site
  site = site_of rules h

  abbrev facts : List Fact
  facts = facts_of bundle b

  module _ (exc : List ℕ) (word : ℕ) (m : Measure) (is_m : m ≡ measure_of (bits_follow [] exc word) facts) where
    abbrev t : Follows
    t = bits_follow [] exc word

    count_is : m.count ≡ length (kept itself t facts)
    count_is = ap (λ (n : Measure). n.count) is_m

    size_is : m.size ≡ length (kept_bytes t facts)
    size_is = ap (λ (n : Measure). n.size) is_m

    few_kept : length (kept itself t facts) ≤ most_facts
    unfolding kept
    few_kept =
        omega (arith, length_keep (marked itself t facts 0) facts, count_within (marked itself t facts 0) facts, as_many rules bundle h b acc, few rules bundle h b acc)

    few_bytes : length (kept_bytes t facts) ≤ 9 * most_facts
    unfolding kept_bytes
    few_bytes = omega (arith, nine_each (kept itself t facts), few_kept)

    module _ (size : ℕ) (is-size : size ≡ length (bytes_of m.count)) where
      pub length_fits : Fits w64 (size + m.size)
      length_fits = record { fits = omega (arith, is-size, at_most_three m.count, size_is, few_bytes) }

      module _ (inc : List ℕ) (tells : Tells site inc exc word) where
        same : kept itself t facts ≡ kept itself (follows_of site) facts
        same = kept_same site t (follows_of site) (agree rules bundle h b acc inc exc word tells) facts (spoken rules bundle h b acc)

        bytes : bytes_of m.count ++ kept_bytes t facts ≡ bundle_of (kept itself (follows_of site) facts)
        unfolding bundle_of kept_bytes
        bytes = ap₂ (λ (n : ℕ) (l : List Fact). bytes_of n ++ each fact_bytes l) (count_is ∙ ap (λ (l : List Fact). length l) same) same

        long : size + m.size ≡ length (bundle_of (kept itself (follows_of site) facts))
        long = omega (arith, is-size, size_is, sym (length-append (bytes_of m.count) (kept_bytes t facts)) ∙ ap (λ (l : List ℕ). length l) bytes)

        module _ (out : List ℕ) where
          pub kept_short : length out < size + m.size → (q : Refusal) → q ≡ refusal Room Call 0 → WritesKept rules bundle out (Err q) out
          unfolding keeping room_for
          kept_short short q is =
              let e : keeping rules bundle (length out) ≡ Err (refusal Room Call 0) =
              rw (given_is rules bundle h b acc, ← long, lt-leb (size + m.size) (length out) short) in
              record { answer = rw (e, is); memory = rw e }

          pub kept_done : size + m.size ≤ length out → (out₂ : List ℕ) → out₂ ≡ sets out 0 (bytes_of m.count ++ kept_bytes t facts)
              → WritesKept rules bundle out (Ok (size + m.size)) out₂
          unfolding keeping room_for
          kept_done room out₂ is-out =
              let e : keeping rules bundle (length out) ≡ Ok (bundle_of (kept itself (follows_of site) facts)) =
              rw (given_is rules bundle h b acc, ← long, le-leb (size + m.size) (length out) room) in
              record { answer = rw e (ap Ok long); memory = rw e (is-out ∙ ap (λ (l : List ℕ). sets out 0 l) bytes) }

      pub kept_fits : (out : List ℕ) → size + m.size ≤ length out → StoresBundle t bundle b m.count out
      kept_fits out room =
          record { formed = omega (arith, count_is, few_kept); room = omega (arith, is-size, size_is) }

-- storing it
module _ (t : Follows) (bundle : List ℕ) (b : Facts) (count : ℕ) (out : List ℕ) (fits : StoresBundle t bundle b count out) where
  module _ (p : ℕ) (out₁ : List ℕ) (first : Stored out 0 count p out₁) where
    pub bundle_stored : (q : ℕ) (out₂ : List ℕ) → StoredKept t (facts_of bundle b) out₁ p q out₂ → out₂ ≡ sets out 0 (bytes_of count ++ kept_bytes t (facts_of bundle b))
    bundle_stored q out₂ second =
        second.memory
        ∙ ap₂ (λ (o : List ℕ) (n : ℕ). sets o n (kept_bytes t (facts_of bundle b))) first.memory first.place
        ∙ sym (sets_append (bytes_of count) (kept_bytes t (facts_of bundle b)) out 0)
