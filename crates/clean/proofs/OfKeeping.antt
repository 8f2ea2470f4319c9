-- The kept facts as bytes: what one turn of the measuring and of the storing loop leaves to the facts that are left.
use Prim.Native.Nat.{ℕ, zero, suc, ◌+◌, ◌*◌, ◌≤◌, ◌<◌}
use mathlib.Core.Path.{◌≡◌, refl, sym, ap, subst, ◌∙◌}
use mathlib.Core.Bool.{Bool, true, false, cond}
use mathlib.Core.List.{List, [], ◌∷◌, ◌++◌}
use lib.ListN.{length, length-append}
use lib.Seq.{sets, length-sets}
use native.Mathlib.Nat.{zero-add, add-zero}
use native.Mathlib.Omega.{arith}
use Rattle.number.specs.Number.{bytes_of}
use Rattle.number.proofs.Laws.{bounds, at_most_three}
use Rattle.std.specs.Prelude.{Ok, Err}
use Rattle.number.specs.Answer.{Answer}
use Rattle.number.specs.declared.read.Read.{Read}
use Rattle.number.specs.declared.refusal.Side.TheVariants.{Bundle}
use Rattle.site.specs.Items.{onward}
use Rattle.site.specs.declared.fact.Fact.{Fact}
use Rattle.site.specs.Kinds.{of_concept}
use Rattle.site.specs.Limits.{most_facts, most_thing}
use Rattle.site.specs.Lists.{keep, each}
use Rattle.bundle.specs.Bundle.{fact_at, facts_in, fact_bytes}
use Rattle.bundle.proofs.Runs.{FactThere, ObjectThere, fact_there}
use Rattle.bundle.proofs.Runs.ObjectThere.{of_concept_lem, of_role}
use Rattle.writer.specs.Stored.{StoresFact, StoredFact}
use Rattle.writer.proofs.FactBytes.{sets_append}
use Rattle.steps.specs.Tables.{Follows}
use Rattle.clashes.specs.Types.{itself}
use Rattle.clashes.specs.Marks.{marked, kept}
use Rattle.clean.specs.Keeping.{kept_bytes, measure_of, StoredKept}
use Rattle.clean.specs.declared.measure.Measure.{Measure}

-- one fact
short_object : (f : Fact) → length (cond (of_concept f) [] (bytes_of f.object)) ≤ 3
short_object f = by (of_concept f)
  where
    by : (b : Bool) → length (cond b [] (bytes_of f.object)) ≤ 3
    by true = omega arith
    by false = at_most_three f.object

pub fact_short : (f : Fact) → length (fact_bytes f) ≤ 9
unfolding fact_bytes
fact_short f = simp length-append (omega (arith, at_most_three f.predicate, at_most_three f.subject, short_object f))

-- a fact that was read has small numbers
pub record SmallFact (f : Fact) : Type 0 where
  pub predicate : f.predicate ≤ most_thing
  pub subject : f.subject ≤ most_thing
  pub object : f.object ≤ most_thing

object_small : {s : List ℕ} {p : ℕ} {f : Fact} {next : ℕ} → ObjectThere s p f next → f.object ≤ most_thing
object_small (of_concept_lem c z n) = omega (arith, z)
object_small {s} {p} {f} {next} (of_role c n) = (bounds s p most_thing Bundle f.object next n).within

there_small : (s : List ℕ) (at : ℕ) (f : Fact) (next : ℕ) → FactThere (λ _. true) s at f next → SmallFact f
there_small s at f next there =
    record {
      predicate = omega (arith, (bounds s at most_thing Bundle f.predicate there.place_of_subject there.predicate).within);
      subject = omega (arith, (bounds s there.place_of_subject most_thing Bundle f.subject there.place_of_object there.subject).within);
      object = object_small there.object;
    }

pub first_small : (s : List ℕ) (n at : ℕ) (f : Fact) (rest : List Fact) → facts_in s n at ≡ f ∷ rest → SmallFact f
unfolding facts_in
first_small s zero at f rest e = absurd cc
first_small s (suc n) at f rest e = by (fact_at (λ _. true) s at) refl e
  where
    by : (a : Answer (Read Fact)) → fact_at (λ _. true) s at ≡ a → onward a (λ r. r.value ∷ facts_in s n r.next) ≡ f ∷ rest → SmallFact f
    by (Ok r) is e =
        let same : r.value ≡ f = cc in
        subst SmallFact same (there_small s at r.value r.next (fact_there (λ _. true) s at r.value r.next is))
    by (Err q) is e = absurd cc

-- the bytes of the kept ones among the facts that are left
module _ (t : Follows) (whole : List Fact) where
  abbrev left_kept : List Fact → List Fact
  left_kept rest = keep (marked itself t whole 0) rest

  abbrev left_bytes : List Fact → List ℕ
  left_bytes rest = each fact_bytes (left_kept rest)

  no_bytes : {rest : List Fact} → rest ≡ [] → left_bytes rest ≡ []
  unfolding keep each
  no_bytes e = rw e

  none_kept : {rest : List Fact} → rest ≡ [] → left_kept rest ≡ []
  unfolding keep
  none_kept e = rw e

  module _ (f : Fact) (rest : List Fact) where
    kept_more : left_kept (f ∷ rest) ≡ cond (marked itself t whole 0 f) (f ∷ left_kept rest) (left_kept rest)
    unfolding keep
    kept_more = refl

    bytes_more : (b : Bool) → each fact_bytes (cond b (f ∷ left_kept rest) (left_kept rest)) ≡ cond b (fact_bytes f ++ left_bytes rest) (left_bytes rest)
    unfolding each
    bytes_more true = refl
    bytes_more false = refl

  -- what a fact that is kept, or is not, adds to what is left
  module _ (f : Fact) (rest rest' : List Fact) (one : rest ≡ f ∷ rest') where
    kept_now : (b : Bool) → b ≡ marked itself t whole 0 f → left_kept rest ≡ cond b (f ∷ left_kept rest') (left_kept rest')
    kept_now b k = ap left_kept one ∙ kept_more f rest' ∙ rw (← k)

    bytes_now : (b : Bool) → b ≡ marked itself t whole 0 f → left_bytes rest ≡ cond b (fact_bytes f ++ left_bytes rest') (left_bytes rest')
    bytes_now b k = ap (λ (l : List Fact). each fact_bytes l) (kept_now b k) ∙ bytes_more f rest' b

  -- measuring
  pub record Measuring (rest : List Fact) (m : Measure) : Type 0 where
    pub counted : m.count + length (left_kept rest) ≡ length (kept itself t whole)
    pub sized : m.size + length (left_bytes rest) ≡ length (kept_bytes t whole)
    pub within : m.count + length rest ≤ length whole
    pub nine : m.size ≤ 9 * m.count

  pub measure_start : (rest : List Fact) → rest ≡ whole → Measuring rest (record { count = 0; size = 0 })
  unfolding kept kept_bytes
  measure_start rest e = rw e (record { counted = zero-add _; sized = zero-add _; within = omega arith; nine = omega arith })

  module _ (rest : List Fact) (m : Measure) (so : Measuring rest m) where
    pub measure_ends : rest ≡ [] → m ≡ measure_of t whole
    measure_ends e =
        let c : m.count ≡ length (kept itself t whole) = sym (add-zero m.count) ∙ sym (ap (λ (l : List Fact). m.count + length l) (none_kept e)) ∙ so.counted in
        let z : m.size ≡ length (kept_bytes t whole) = sym (add-zero m.size) ∙ sym (ap (λ (l : List ℕ). m.size + length l) (no_bytes e)) ∙ so.sized in
        λ i. record { count = c i; size = z i }

    module _ (f : Fact) (rest' : List Fact) (one : rest ≡ f ∷ rest') where
      pub measure_small : length whole ≤ most_facts → (m.count < most_facts) × (m.size ≤ 9 * most_facts)
      measure_small few = (omega (arith, so.within, few, ap length one), omega (arith, so.within, so.nine, few))

      pub measure_kept : true ≡ marked itself t whole 0 f → Measuring rest' (record { count = m.count + 1; size = m.size + length (fact_bytes f) })
      measure_kept k =
          record {
            counted = omega (arith, so.counted, ap (λ (l : List Fact). length l) (kept_now f rest rest' one true k));
            sized = omega (arith, so.sized, ap (λ (l : List ℕ). length l) (bytes_now f rest rest' one true k) ∙ length-append (fact_bytes f) (left_bytes rest'));
            within = omega (arith, so.within, ap length one);
            nine = omega (arith, so.nine, fact_short f);
          }

      pub measure_dropped : false ≡ marked itself t whole 0 f → Measuring rest' m
      measure_dropped k =
          record {
            counted = omega (arith, so.counted, ap (λ (l : List Fact). length l) (kept_now f rest rest' one false k));
            sized = omega (arith, so.sized, ap (λ (l : List ℕ). length l) (bytes_now f rest rest' one false k));
            within = omega (arith, so.within, ap length one);
            nine = so.nine;
          }

  -- storing
  pub record Storing (rest : List Fact) (start : ℕ) (out₀ out : List ℕ) (place : ℕ) : Type 0 where
    pub same : sets out place (left_bytes rest) ≡ sets out₀ start (kept_bytes t whole)
    pub ends : place + length (left_bytes rest) ≡ start + length (kept_bytes t whole)
    pub long : length out ≡ length out₀

  pub storing_start : (rest : List Fact) → rest ≡ whole → (start : ℕ) (out : List ℕ) → Storing rest start out out start
  unfolding kept kept_bytes
  storing_start rest e start out = rw e (record { same = refl; ends = refl; long = refl })

  module _ (rest : List Fact) (start : ℕ) (out₀ out : List ℕ) (place : ℕ) (so : Storing rest start out₀ out place) where
    pub storing_ends : rest ≡ [] → StoredKept t whole out₀ start place out
    storing_ends e =
        record {
          place = sym (add-zero place) ∙ sym (ap (λ (l : List ℕ). place + length l) (no_bytes e)) ∙ so.ends;
          memory = sym (ap (λ (l : List ℕ). sets out place l) (no_bytes e)) ∙ so.same;
        }

    module _ (f : Fact) (rest' : List Fact) (one : rest ≡ f ∷ rest') where
      pub storing_fits : start + length (kept_bytes t whole) ≤ length out₀ → SmallFact f → true ≡ marked itself t whole 0 f → StoresFact out place f
      storing_fits room small k =
          let b = ap (λ (l : List ℕ). length l) (bytes_now f rest rest' one true k) ∙ length-append (fact_bytes f) (left_bytes rest') in
          record {
            formed = record { predicate = omega (arith, small.predicate); subject = omega (arith, small.subject); object = omega (arith, small.object) };
            room = omega (arith, b, so.ends, so.long);
          }

      pub storing_kept : true ≡ marked itself t whole 0 f → (place' : ℕ) (out' : List ℕ) → StoredFact out place f place' out' → Storing rest' start out₀ out' place'
      storing_kept k place' out' st =
          rw (st.place, st.memory)
          (record {
            same = sym (sets_append (fact_bytes f) (left_bytes rest') out place) ∙ sym (ap (λ (l : List ℕ). sets out place l) (bytes_now f rest rest' one true k)) ∙ so.same;
            ends = omega (arith, ap (λ (l : List ℕ). length l) (bytes_now f rest rest' one true k) ∙ length-append (fact_bytes f) (left_bytes rest'), so.ends);
            long = length-sets out place (fact_bytes f) ∙ so.long;
          })

      pub storing_dropped : false ≡ marked itself t whole 0 f → Storing rest' start out₀ out place
      storing_dropped k =
          record {
            same = sym (ap (λ (l : List ℕ). sets out place l) (bytes_now f rest rest' one false k)) ∙ so.same;
            ends = sym (ap (λ (l : List ℕ). place + length l) (bytes_now f rest rest' one false k)) ∙ so.ends;
            long = so.long;
          }
