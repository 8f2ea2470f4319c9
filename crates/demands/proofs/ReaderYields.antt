-- The reader, step by step as C calls it: its yields are the definition's, shown; on an accepted bundle these are the facts, and then that it is done.
use Prim.Native.Nat.{ℕ, zero, suc, ◌+◌, ◌≤◌}
use mathlib.Core.Path.{◌≡◌, refl, ap, ◌∙◌}
use mathlib.Core.List.{List, [], ◌∷◌, ◌++◌, map}
use lib.ListN.{length, take, replicate}
use native.Mathlib.Omega.{arith}
use Rattle.number.specs.Answer.{Answer}
use Rattle.std.specs.Prelude.{Option, Some, None, Ok}
use Rattle.number.proofs.Answers.{over_given}
use Rattle.site.specs.declared.fact.Fact.{Fact}
use Rattle.bundle.specs.Bundle.{facts_of, check_bundle, read_bundle}
use Rattle.records.specs.Reading.{reader_step, yields_from}
use Rattle.records.proofs.OfReader.{yielded, starts, yields_all}
use Rattle.rows.specs.declared.reader.Reader.{Reader}
use Rattle.shown.specs.Shown.{shown_found, shown_start, shown_yield}
use Rattle.shown.specs.declared.shapes.DzyStart.{DzyStart}
use Rattle.shown.specs.declared.shapes.DzyYield.{DzyYield}
use Rattle.dzyunagor.specs.Promises.{ReaderStart}
use Rattle.demands.specs.Demands.{BothRead, Walked, yields, ReaderYields}
use Rattle.demands.specs.Demands.Walked.{stop, step}

-- fewer steps yield the start of what more steps yield
fewer_steps : (bytes : List ℕ) (n k at : ℕ) → n ≤ k → yields_from bytes n at ≡ take n (yields_from bytes k at)
unfolding yields_from
fewer_steps bytes zero k at few = refl
fewer_steps bytes (suc n) zero at few = absurd (omega arith)
fewer_steps bytes (suc n) (suc k) at few =
    ap (λ (l : List (Answer (Option Fact))). (reader_step bytes at).yields ∷ l) (fewer_steps bytes n k (reader_step bytes at).next (omega arith))

take_map : {A B : Type 0} (f : A → B) (n : ℕ) (l : List A) → map f (take n l) ≡ take n (map f l)
take_map f zero l = refl
take_map f (suc n) [] = refl
take_map f (suc n) (x ∷ xs) = ap (λ rest. f x ∷ rest) (take_map f n xs)

-- what the steps yield is what the definition yields, from the same bytes and place
walked_yields : {first end : Reader} {ys : List DzyYield} → Walked first ys end → (bytes : List ℕ) (at : ℕ) → first.src.now ≡ bytes → first.at ≡ at → ys ≡ map shown_yield (yields_from bytes (length ys) at)
unfolding yields_from
walked_yields stop bytes at same there = refl
walked_yields (step {here = here} {next = next} {y = y} {ys = ys} p rest) bytes at same there =
    let is_y : y ≡ shown_yield (reader_step bytes at).yields = p.answer ∙ ap (λ (l : List ℕ). shown_yield (reader_step l here.at).yields) same ∙ ap (λ (n : ℕ). shown_yield (reader_step bytes n).yields) there in
    let on : next.at ≡ (reader_step bytes at).next = p.next ∙ ap (λ (l : List ℕ). (reader_step l here.at).next) same ∙ ap (λ (n : ℕ). (reader_step bytes n).next) there in
    let more = walked_yields rest bytes (reader_step bytes at).next (ap (λ x. x.now) p.bundle ∙ same) on in
    ap (λ (z : DzyYield). z ∷ ys) is_y ∙ ap (λ (l : List DzyYield). shown_yield (reader_step bytes at).yields ∷ l) more

-- the facts, and then that it is done, as C sees them
dones_shown : (k : ℕ) → map shown_yield (replicate k (Ok None)) ≡ replicate k (shown_found None)
dones_shown zero = refl
dones_shown (suc k) = ap (λ (l : List DzyYield). shown_found None ∷ l) (dones_shown k)

all_shown : (facts : List Fact) (k : ℕ) → map shown_yield (map yielded facts ++ replicate k (Ok None)) ≡ map (λ f. shown_found (Some f)) facts ++ replicate k (shown_found None)
all_shown [] k = dones_shown k
all_shown (f ∷ fs) k = ap (λ (l : List DzyYield). shown_found (Some f) ∷ l) (all_shown fs k)

-- so many steps on an accepted bundle
module _ {rules bundle : List ℕ} (a : BothRead rules bundle) (r : DzyStart) (p : ReaderStart rules bundle r) where
  steps_yield : (n : ℕ) → map shown_yield (yields_from bundle n r.at) ≡ take n (yields a.facts n)
  unfolding ReaderStart read_bundle
  steps_yield n =
      let b = over_given (facts_of bundle) (check_bundle a.head bundle) a.bundle_read in
      let start : r.at ≡ b.value.start = ap (λ (s : DzyStart). s.at) (p ∙ ap shown_start (starts rules bundle a.head b.value a.rules_read b.given)) in
      let all = yields_all rules bundle a.head b.value a.rules_read b.given n in
      ap (λ (k : ℕ). map shown_yield (yields_from bundle n k)) start
      ∙ ap (map shown_yield) (fewer_steps bundle n (b.value.count + n) b.value.start (omega arith) ∙ ap (take n) all)
      ∙ take_map shown_yield n (map yielded (facts_of bundle b.value) ++ replicate n (Ok None))
      ∙ ap (take n) (all_shown (facts_of bundle b.value) n ∙ ap (λ (facts : List Fact). yields facts n) b.told)

pub reader_yields : ReaderYields
reader_yields =
    record {
      in_order = λ a r p first end ys same there walked. walked_yields walked _ r.at same there ∙ steps_yield a r p (length ys);
    }
