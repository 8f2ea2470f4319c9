-- Filling a row with the facts that are handed out, slot by slot: in the end they lie in it from its first slot on.
use Prim.Native.Nat.{ℕ, ◌+◌, ◌≤◌, ◌<◌}
use mathlib.Core.Path.{◌≡◌, refl, sym, ap, ◌∙◌}
use mathlib.Core.List.{List, [], ◌∷◌, map}
use lib.ListN.{length, set, length-set, length-map}
use lib.Seq.{sets}
use native.Mathlib.Numerals.{add-one}
use native.Mathlib.Omega.{arith}
use Rattle.std.specs.Prelude.{Ok, Err}
use Rattle.number.specs.declared.refusal.Refusal.{Refusal}
use Rattle.site.specs.declared.fact.Fact.{Fact}
use Rattle.site.specs.Limits.{most_facts}
use Rattle.bundle.specs.Bundle.{facts_of}
use Rattle.bundle.specs.declared.facts.Facts.{Facts}
use Rattle.bundle.proofs.Accepted.{accepted_lawful}
use Rattle.records.specs.Rows.{record_of, hand_out, hand_records, Hands}
use Rattle.records.specs.declared.record.Record.{Record}
use Rattle.records.proofs.HandedOut.{HandedOut, handed_out}

-- so many slots are filled: the facts that are left, laid from here on, make the row that all of them make
pub record Filling (facts : List Fact) (row₀ row : List Record) (i : ℕ) (left : List Fact) : Type 0 where
  pub all : i + length left ≡ length facts
  pub long : length row ≡ length row₀
  pub memory : sets row i (map record_of left) ≡ sets row₀ 0 (map record_of facts)

module _ (rules bundle : List ℕ) (row : List Record) where
  pub hands_nothing : (r : Refusal) → hand_out rules bundle (length row) ≡ Err r → Hands rules bundle row (Err r) row
  unfolding hand_records
  hands_nothing r refused = record { answer = rw refused; memory = rw refused }

  module _ (b : Facts) (given : hand_out rules bundle (length row) ≡ Ok b) where
    out : HandedOut rules bundle (length row) b
    out = handed_out rules bundle (length row) b given

    pub fill_starts : (i : ℕ) (left : List Fact) → i ≡ 0 → left ≡ facts_of bundle b → Filling (facts_of bundle b) row row i left
    fill_starts i left first whole = rw (first, whole) (record { all = omega arith; long = refl; memory = refl })

    module _ (row' : List Record) (i : ℕ) (left : List Fact) (inv : Filling (facts_of bundle b) row row' i left) where
      pub fill_small : i + length left ≤ most_facts
      fill_small = omega (arith, inv.all, (accepted_lawful out.head bundle b out.accepted.of_bundle).few)

      pub fill_ends : left ≡ [] → Hands rules bundle row (Ok b.count) row'
      unfolding hand_records
      fill_ends none =
          let many : length (map record_of (facts_of bundle b)) ≡ b.count = length-map (facts_of bundle b) record_of ∙ out.all in
          record {
            answer = rw (given, many);
            memory = rw given (ap (λ (l : List Fact). sets row' i (map record_of l)) (sym none) ∙ inv.memory);
          }

      module _ (f : Fact) (rest : List Fact) (more : left ≡ f ∷ rest) where
        pub fill_within : i < length row'
        fill_within = omega (arith, inv.all, inv.long, out.all, out.fits, ap length more)

        pub fill_on : (j : ℕ) (r : Record) → j ≡ i + 1 → r ≡ record_of f → Filling (facts_of bundle b) row (set row' i r) j rest
        fill_on j r next is-r =
            record {
              all = omega (arith, inv.all, ap length more);
              long = length-set row' i r ∙ inv.long;
              memory = rw (next, is-r, add-one) (ap (λ (l : List Fact). sets row' i (map record_of l)) (sym more) ∙ inv.memory);
            }
