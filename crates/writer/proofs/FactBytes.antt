-- A fact's bytes: their number, and that storing its numbers one after the other lays them.
use Prim.Native.Nat.{ℕ, suc, ◌+◌, ◌≤◌}
use mathlib.Core.Path.{◌≡◌, refl, sym, ap, ◌∙◌}
use mathlib.Core.Bool.{Bool, true, false, cond}
use mathlib.Core.List.{List, [], ◌∷◌, ◌++◌, append-nil}
use lib.ListN.{length, length-append}
use lib.Seq.{sets, length-sets}
use mir.Val.{Fits}
use mir.Syntax.{w64}
use native.Mathlib.Omega.{arith}
use borrow.Author.Tests.{le-leb}
use borrow.Author.Rules.{rules}
use Rattle.std.specs.Prelude.{Ok}
use Rattle.std.specs.Result.{result_unwrap_or}
use Rattle.number.specs.Answer.{Answer, over, laid}
use Rattle.number.specs.Number.{bytes_of, plan, three_bytes}
use Rattle.number.specs.Told.{Writes, Stores, Stored}
use Rattle.number.proofs.Laws.{at_most_three}
use Rattle.site.specs.declared.fact.Fact.{Fact}
use Rattle.site.specs.Kinds.{of_concept}
use Rattle.bundle.specs.Bundle.{fact_bytes}
use Rattle.writer.specs.Stored.{StoresFact, StoredFact}

-- the size of a fact
module _ (v w : ℕ) where
  pub two_fit : (a b : ℕ) → a ≡ length (bytes_of v) → b ≡ length (bytes_of w) → Fits w64 (a + b)
  two_fit a b is_a is_b = record { fits = omega (arith, at_most_three v, at_most_three w) }

  pub three_fit : (x a b c : ℕ) → a ≡ length (bytes_of v) → b ≡ length (bytes_of w) → c ≡ length (bytes_of x) → Fits w64 (a + b + c)
  three_fit x a b c is_a is_b is_c = record { fits = omega (arith, at_most_three v, at_most_three w, at_most_three x) }

module _ (f : Fact) where
  concept_bytes : of_concept f ≡ true → fact_bytes f ≡ bytes_of f.predicate ++ bytes_of f.subject
  unfolding fact_bytes
  concept_bytes h = rw (h, append-nil (bytes_of f.subject))

  role_bytes : of_concept f ≡ false → fact_bytes f ≡ bytes_of f.predicate ++ (bytes_of f.subject ++ bytes_of f.object)
  unfolding fact_bytes
  role_bytes h = rw h

  concept_length : of_concept f ≡ true → length (fact_bytes f) ≡ length (bytes_of f.predicate) + length (bytes_of f.subject)
  concept_length h = ap length (concept_bytes h) ∙ length-append (bytes_of f.predicate) (bytes_of f.subject)

  role_length : of_concept f ≡ false → length (fact_bytes f) ≡ length (bytes_of f.predicate) + length (bytes_of f.subject) + length (bytes_of f.object)
  role_length h =
      let whole = ap length (role_bytes h) in
      let first = length-append (bytes_of f.predicate) (bytes_of f.subject ++ bytes_of f.object) in
      let second = length-append (bytes_of f.subject) (bytes_of f.object) in
      omega arith

  module _ (t : Bool) (is-t : t ≡ of_concept f) (p a : ℕ) (is-p : p ≡ length (bytes_of f.predicate)) (is_a : a ≡ length (bytes_of f.subject)) where
    pub concept_size : t ≡ true → p + a ≡ length (fact_bytes f)
    concept_size h = omega (arith, concept_length (sym is-t ∙ h))

    pub role_size : (o : ℕ) → o ≡ length (bytes_of f.object) → t ≡ false → p + a + o ≡ length (fact_bytes f)
    role_size o is-o h = omega (arith, role_length (sym is-t ∙ h))

  -- three numbers of at most three bytes
  pub at_most_nine : length (fact_bytes f) ≤ 9
  at_most_nine = by_kind (of_concept f) refl
    where
      by_kind : (t : Bool) → of_concept f ≡ t → length (fact_bytes f) ≤ 9
      by_kind true e = omega (arith, concept_length e, at_most_three f.predicate, at_most_three f.subject)
      by_kind false e = omega (arith, role_length e, at_most_three f.predicate, at_most_three f.subject, at_most_three f.object)

-- a number that has room and a form is written
module _ (out : List ℕ) (at v : ℕ) (fits : Stores out at v) (r : Answer ℕ) (out' : List ℕ) (writes : Writes out at v three_bytes r out') where
  planned : plan (length out) at v three_bytes ≡ Ok (bytes_of v)
  unfolding plan
  planned = rw (le-leb v three_bytes fits.formed, le-leb (at + length (bytes_of v)) (length out) fits.room)

  pub put_stored : (n : ℕ) → n ≡ result_unwrap_or r at → Stored out at v n out'
  put_stored n is =
      let written : r ≡ Ok (at + length (bytes_of v)) = writes.answer ∙ ap (over (λ bytes. at + length bytes)) planned in
      record { place = is ∙ ap (λ (a : Answer ℕ). result_unwrap_or a at) written; memory = writes.memory ∙ ap (laid out at) planned }

-- stores one after the other
pub sets_append : (xs ys out : List ℕ) (at : ℕ) → sets out at (xs ++ ys) ≡ sets (sets out at xs) (at + length xs) ys
sets_append [] ys out at = let e : at + 0 ≡ at = omega arith in rw e
sets_append (x ∷ xs) ys out at =
    let e : suc at + length xs ≡ at + suc (length xs) = omega arith in
    sets_append xs ys (lib.ListN.set out at x) (suc at) ∙ ap (λ n. sets (sets (lib.ListN.set out at x) (suc at) xs) n ys) e

module _ (out : List ℕ) (at : ℕ) (f : Fact) (fits : StoresFact out at f) where
  size_of_fact : length (bytes_of f.predicate) + length (bytes_of f.subject) ≤ length (fact_bytes f)
  unfolding fact_bytes
  size_of_fact =
      let o : List ℕ = cond (of_concept f) [] (bytes_of f.object) in
      omega (arith, length-append (bytes_of f.predicate) (bytes_of f.subject ++ o), length-append (bytes_of f.subject) o)

  pub first_fits : Stores out at f.predicate
  first_fits = record { formed = fits.formed.predicate; room = omega (arith, fits.room, size_of_fact) }

  module _ (p : ℕ) (out₁ : List ℕ) (first : Stored out at f.predicate p out₁) where
    length_first : length out₁ ≡ length out
    length_first = ap length first.memory ∙ length-sets out at (bytes_of f.predicate)

    pub second_fits : Stores out₁ p f.subject
    second_fits = record { formed = fits.formed.subject; room = omega (arith, fits.room, size_of_fact, length_first, first.place) }

    module _ (q : ℕ) (out₂ : List ℕ) (second : Stored out₁ p f.subject q out₂) (t : Bool) (is-t : t ≡ of_concept f) where
      length_second : length out₂ ≡ length out
      length_second = ap length second.memory ∙ length-sets out₁ p (bytes_of f.subject) ∙ length_first

      both : out₂ ≡ sets (sets out at (bytes_of f.predicate)) (at + length (bytes_of f.predicate)) (bytes_of f.subject)
      both = rw (second.memory, first.memory, first.place)

      pub concept_stored : t ≡ true → StoredFact out at f q out₂
      concept_stored h =
          let concept = sym is-t ∙ h in
          record {
            place = omega (arith, first.place, second.place, concept_length f concept);
            memory = both ∙ sym (ap (sets out at) (concept_bytes f concept) ∙ sets_append (bytes_of f.predicate) (bytes_of f.subject) out at);
          }

      module _ (role : t ≡ false) where
        size_of_role : length (fact_bytes f) ≡ length (bytes_of f.predicate) + length (bytes_of f.subject) + length (bytes_of f.object)
        size_of_role = role_length f (sym is-t ∙ role)

        pub third_fits : Stores out₂ q f.object
        third_fits =
            record { formed = fits.formed.object; room = omega (arith, fits.room, size_of_role, length_second, first.place, second.place) }

        pub role_stored : (r : ℕ) (out₃ : List ℕ) → Stored out₂ q f.object r out₃ → StoredFact out at f r out₃
        role_stored r out₃ third =
            let a : List ℕ = bytes_of f.predicate in
            let b : List ℕ = bytes_of f.subject in
            let c : List ℕ = bytes_of f.object in
            let whole : sets out at (fact_bytes f) ≡ sets (sets (sets out at a) (at + length a) b) (at + length a + length b) c =
            ap (sets out at) (role_bytes f (sym is-t ∙ role)) ∙ sets_append a (b ++ c) out at ∙ sets_append b c (sets out at a) (at + length a) in
            let there : q ≡ at + length a + length b = omega (arith, first.place, second.place) in
            record {
              place = omega (arith, size_of_role, first.place, second.place, third.place);
              memory = third.memory ∙ ap (λ l. sets l q c) both ∙ ap (λ n. sets (sets (sets out at a) (at + length a) b) n c) there ∙ sym whole;
            }

pub ruleset storing = (two_fit, three_fit, concept_size, role_size, put_stored, first_fits, second_fits, concept_stored, third_fits, role_stored, rules)
