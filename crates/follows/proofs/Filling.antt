-- One turn of the walk over the rules: what has been added so far, and the rules that are left, are all the rules.
use Prim.Native.Nat.{ℕ, ◌/◌, ◌^◌, ◌<◌}
use native.Mathlib.Nat.{div-eq_of_lt}
use lib.Pow.{pow_pos}
use mathlib.Core.Path.{◌≡◌, refl, sym, subst, ◌∙◌}
use mathlib.Core.Bool.{true, false, false≢true}
use mathlib.Core.Logic.{◌⊎◌, inl, inr}
use mathlib.Core.List.Memᴰ
use mathlib.Core.List.{List, [], ◌∷◌, ◌++◌, append-nil, append_assoc, Memᴰ}
use Rattle.site.specs.Kinds.{Rule}
use Rattle.site.specs.Kinds.Rule.{functional}
use Rattle.site.specs.Codes.{role_of}
use Rattle.site.specs.Lists.{each}
use Rattle.steps.specs.Tables.{Pair, arrows_of}
use Rattle.tables.specs.Bits.{bit_of}
use Rattle.follows.specs.Adding.{AddedAll, exclusions_of, CameFunctional, FunctionalAdded}
use Rattle.follows.specs.Adding.CameFunctional.{at_once, of_rule}
use Rattle.follows.specs.declared.filled.Tables.{Tables}
use Rattle.follows.specs.Tells.{AddedSoFar, FunctionalOf, FunctionalSoFar}
use Rattle.follows.proofs.Adds.{added_none, added_more, each_more}

split_on : {A : Type 0} (whole done : List A) (x : A) (rest : List A) → whole ≡ done ++ (x ∷ rest) → whole ≡ (done ++ (x ∷ [])) ++ rest
split_on whole done x rest e = e ∙ sym (append_assoc done (x ∷ []) rest)

-- pairs
module _ (f : Rule → List Pair) where
  pub so_far_start : (whole : List Rule) (t : List ℕ) → AddedSoFar f whole whole t t
  unfolding each
  so_far_start whole t = record { done = []; split = refl; all = added_none t }

  so_far_on : (whole rest : List Rule) (rule : Rule) (old t new : List ℕ) → AddedSoFar f whole (rule ∷ rest) old t → AddedAll (f rule) t new → AddedSoFar f whole rest old new
  so_far_on whole rest rule old t new p q =
      record {
        done = p.done ++ (rule ∷ []);
        split = split_on whole p.done rule rest p.split;
        all = rw (each_more f p.done rule) (added_more (each f p.done) (f rule) old t new p.all q);
      }

  so_far_end : (whole : List Rule) (old new : List ℕ) → AddedSoFar f whole [] old new → AddedAll (each f whole) old new
  so_far_end whole old new p =
      let e : whole ≡ p.done = p.split ∙ append-nil p.done in
      subst (λ l. AddedAll (each f l) old new) (sym e) p.all

-- functional roles
pub bit_of_none : (k : ℕ) → bit_of 0 k ≡ false
unfolding bit_of
bit_of_none k =
    let e : 0 / 2 ^ k ≡ 0 = div-eq_of_lt (pow_pos k) in
    rw e

pub functional_start : (whole : List Rule) → FunctionalSoFar whole whole 0
functional_start whole =
    record {
      done = [];
      split = refl;
      all = record { comes = λ k h m. absurd (Memᴰ.not-nil m); came = λ k b. absurd (false≢true (sym (bit_of_none k) ∙ b)) };
    }

functional_on : (whole rest : List Rule) (rule : Rule) (word new : ℕ) → FunctionalSoFar whole (rule ∷ rest) word → FunctionalAdded rule word new → FunctionalSoFar whole rest new
functional_on whole rest rule word new p q =
    record {
      done = p.done ++ (rule ∷ []);
      split = split_on whole p.done rule rest p.split;
      all = record { comes = λ k h m. into k h (Memᴰ.append_cases p.done m); came = λ k b. out k (q.came k b) };
    }
  where
    into : (k : ℕ) → k < 64 → Memᴰ (functional (role_of k)) p.done ⊎ Memᴰ (functional (role_of k)) (rule ∷ []) → bit_of new k ≡ true
    into k h (inl m) = q.stays k (p.all.comes k h m)
    into k h (inr m) = q.comes k h (sym (Memᴰ.eq_of_singleton m))

    out : (k : ℕ) → CameFunctional rule word k → Memᴰ (functional (role_of k)) (p.done ++ (rule ∷ []))
    out k (at_once b) = Memᴰ.append_left (rule ∷ []) (p.all.came k b)
    out k (of_rule e) = Memᴰ.append_right p.done (Memᴰ.head (sym e))

functional_end : (whole : List Rule) (word : ℕ) → FunctionalSoFar whole [] word → FunctionalOf whole word
functional_end whole word p =
    let e : whole ≡ p.done = p.split ∙ append-nil p.done in
    subst (λ l. FunctionalOf l word) (sym e) p.all

-- a turn of the walk, and its end
module _ (whole rest : List Rule) where
  module _ (rule : Rule) (rest' : List Rule) (one : rest ≡ rule ∷ rest') where
    pub pairs_on : (f : Rule → List Pair) (old t new : List ℕ) → AddedSoFar f whole rest old t → AddedAll (f rule) t new → AddedSoFar f whole rest' old new
    pairs_on f old t new p q = so_far_on f whole rest' rule old t new (subst (λ l. AddedSoFar f whole l old t) one p) q

    pub functionals_on : (word new : ℕ) → FunctionalSoFar whole rest word → FunctionalAdded rule word new → FunctionalSoFar whole rest' new
    functionals_on word new p q = functional_on whole rest' rule word new (subst (λ l. FunctionalSoFar whole l word) one p) q

  module _ (none : rest ≡ []) where
    pub pairs_end : (f : Rule → List Pair) (old new : List ℕ) → AddedSoFar f whole rest old new → AddedAll (each f whole) old new
    pairs_end f old new p = so_far_end f whole old new (subst (λ l. AddedSoFar f whole l old new) none p)

    pub functionals_end : (word : ℕ) → FunctionalSoFar whole rest word → FunctionalOf whole word
    functionals_end word p = functional_end whole word (subst (λ l. FunctionalSoFar whole l word) none p)

-- all tables together
pub record FilledSoFar (whole rest : List Rule) (t₀ : Tables) (on₀ : List ℕ) (t : Tables) (on : List ℕ) : Type 0 where
  pub arrows : AddedSoFar arrows_of whole rest t₀.included t.included
  pub onward : AddedSoFar arrows_of whole rest on₀ on
  pub exclusions : AddedSoFar exclusions_of whole rest t₀.excluded t.excluded
  pub functionals : FunctionalSoFar whole rest t.functional

pub filled_start : (whole : List Rule) (t : Tables) (on : List ℕ) → FilledSoFar whole whole t on (record { included = t.included; excluded = t.excluded; functional = 0 }) on
filled_start whole t on =
    record {
      arrows = so_far_start arrows_of whole t.included;
      onward = so_far_start arrows_of whole on;
      exclusions = so_far_start exclusions_of whole t.excluded;
      functionals = functional_start whole;
    }

module _ (whole rest : List Rule) (t₀ : Tables) (on₀ : List ℕ) (t : Tables) (on : List ℕ) (so : FilledSoFar whole rest t₀ on₀ t on) where
  pub filled_on : (rule : Rule) (rest' : List Rule) → rest ≡ rule ∷ rest' → (t' : Tables) (on' : List ℕ) → AddedAll (arrows_of rule) t.included t'.included
      → AddedAll (arrows_of rule) on on' → AddedAll (exclusions_of rule) t.excluded t'.excluded → FunctionalAdded rule t.functional t'.functional
      → FilledSoFar whole rest' t₀ on₀ t' on'
  filled_on rule rest' one t' on' a o x f =
      record {
        arrows = pairs_on whole rest rule rest' one arrows_of t₀.included t.included t'.included so.arrows a;
        onward = pairs_on whole rest rule rest' one arrows_of on₀ on on' so.onward o;
        exclusions = pairs_on whole rest rule rest' one exclusions_of t₀.excluded t.excluded t'.excluded so.exclusions x;
        functionals = functionals_on whole rest rule rest' one t.functional t'.functional so.functionals f;
      }
