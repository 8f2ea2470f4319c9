-- Measuring and storing the facts of a bundle one after the other: the count's bytes, then each fact's, come to the bundle's bytes.
use Prim.Native.Nat.{ℕ, ◌+◌, ◌*◌, ◌≤◌}
use mathlib.Core.Path.{◌≡◌, sym, ap, ◌∙◌}
use mathlib.Core.List.{List, [], ◌∷◌, ◌++◌}
use lib.ListN.{length, length-append}
use lib.Seq.{sets, length-sets}
use native.Mathlib.Omega.{arith}
use Rattle.std.specs.List.{All}
use Rattle.std.proofs.lemmas.List.Elements.{All-head, All-rest, All-same}
use Rattle.number.specs.Number.{bytes_of}
use Rattle.number.specs.Told.{Stores, Stored}
use Rattle.number.proofs.Laws.{at_most_three}
use Rattle.site.specs.declared.fact.Fact.{Fact}
use Rattle.site.specs.Limits.{most_facts}
use Rattle.site.specs.Lists.{each}
use Rattle.bundle.specs.Bundle.{fact_bytes, bundle_of}
use Rattle.writer.specs.Stored.{Formed, StoresFact, StoredFact, StoresFacts, StoredFacts}
use Rattle.writer.proofs.FactBytes.{at_most_nine, sets_append}

-- the bundle's bytes are the count's, then the facts'
pub bundle_size : (facts : List Fact) → length (bytes_of (length facts)) + length (each fact_bytes facts) ≡ length (bundle_of facts)
unfolding bundle_of
bundle_size facts = sym (length-append (bytes_of (length facts)) (each fact_bytes facts))

facts_small : (facts : List Fact) → length (each fact_bytes facts) ≤ 9 * length facts
unfolding each
facts_small [] = omega arith
facts_small (f ∷ fs) = omega (arith, length-append (fact_bytes f) (each fact_bytes fs), at_most_nine f, facts_small fs)

pub bundle_small : (facts : List Fact) → length facts ≤ most_facts → length (bundle_of facts) ≤ 36867
bundle_small facts few = omega (arith, bundle_size facts, facts_small facts, at_most_three (length facts))

-- what is left begins with a fact
module _ (left rest : List Fact) (f : Fact) (more : left ≡ f ∷ rest) where
  bytes_on : each fact_bytes left ≡ fact_bytes f ++ each fact_bytes rest
  unfolding each
  bytes_on = ap (each fact_bytes) more

  pub size_on : length (each fact_bytes left) ≡ length (fact_bytes f) + length (each fact_bytes rest)
  size_on = ap length bytes_on ∙ length-append (fact_bytes f) (each fact_bytes rest)

pub size_over : (left : List Fact) → left ≡ [] → length (each fact_bytes left) ≡ 0
unfolding each
size_over left none = ap (λ (l : List Fact). length (each fact_bytes l)) none

-- storing from here, at a place, what is left of some facts: their numbers have forms, and the memory then holds the bundle
pub record Laying (out₀ : List ℕ) (facts : List Fact) (out : List ℕ) (at : ℕ) (left : List Fact) : Type 0 where
  pub formed : All Formed left
  pub long : length out ≡ length out₀
  pub place : at + length (each fact_bytes left) ≡ length (bundle_of facts)
  pub memory : sets out at (each fact_bytes left) ≡ sets out₀ 0 (bundle_of facts)

module _ (out₀ : List ℕ) (facts : List Fact) (fits : StoresFacts out₀ facts) where
  pub count_fits : Stores out₀ 0 (length facts)
  count_fits = record { formed = omega (arith, fits.few); room = omega (arith, fits.room, bundle_size facts) }

  pub lay_starts : (at : ℕ) (out : List ℕ) → Stored out₀ 0 (length facts) at out → Laying out₀ facts out at facts
  unfolding bundle_of
  lay_starts at out st =
      let there : at ≡ 0 + length (bytes_of (length facts)) = st.place in
      record {
        formed = fits.formed;
        long = ap length st.memory ∙ length-sets out₀ 0 (bytes_of (length facts));
        place = omega (arith, there, bundle_size facts);
        memory = rw (st.memory, there) (sym (sets_append (bytes_of (length facts)) (each fact_bytes facts) out₀ 0));
      }

  module _ (out : List ℕ) (at : ℕ) (left : List Fact) (inv : Laying out₀ facts out at left) where
    pub lay_ends : left ≡ [] → StoredFacts out₀ facts at out
    unfolding each
    lay_ends none =
        record {
          size = omega (arith, inv.place, size_over left none);
          memory = ap (λ (l : List Fact). sets out at (each fact_bytes l)) (sym none) ∙ inv.memory;
        }

    module _ (f : Fact) (rest : List Fact) (more : left ≡ f ∷ rest) where
      pub lay_fits : StoresFact out at f
      lay_fits =
          record {
            formed = All-head Formed f rest (All-same Formed (f ∷ rest) left (sym more) inv.formed);
            room = omega (arith, size_on left rest f more, inv.place, inv.long, fits.room);
          }

      pub lay_on : (at' : ℕ) (out' : List ℕ) → StoredFact out at f at' out' → Laying out₀ facts out' at' rest
      lay_on at' out' st =
          record {
            formed = All-rest Formed f rest left more inv.formed;
            long = ap length st.memory ∙ length-sets out at (fact_bytes f) ∙ inv.long;
            place = omega (arith, size_on left rest f more, inv.place, st.place);
            memory = rw (st.memory, st.place) (sym (sets_append (fact_bytes f) (each fact_bytes rest) out at) ∙ ap (sets out at) (sym (bytes_on left rest f more)) ∙ inv.memory);
          }
