-- The search for the lowest clash: what its tests say of `clash`, and what it comes to.
use Prim.Native.Nat.{ℕ, ◌+◌, ◌≤◌, ◌<◌}
use mathlib.Core.Path.{◌≡◌, refl, sym, ◌∙◌}
use mathlib.Core.Bool.{Bool, true, false, cond, ◌&&◌, not, and_comm}
use mathlib.Core.List.{List, [], ◌∷◌}
use lib.ListN.{length}
use native.Mathlib.Omega.{arith}
use lib.Dec.{ltb}
use borrow.Author.Tests.{lt-ltb, le-ltb, ltb-true, ltb-false}
use Rattle.std.specs.Prelude.{Some, None}
use Rattle.std.specs.List.{position_from, position_or_len}
use Rattle.std.proofs.lemmas.Iterator.Adapters.{position_from-zero}
use Rattle.site.specs.declared.fact.Fact.{Fact}
use Rattle.site.specs.Limits.{most_facts, no_partner}
use Rattle.site.specs.Lists.{first}
use Rattle.bundle.specs.Bundle.{facts_of}
use Rattle.bundle.specs.declared.facts.Facts.{Facts}
use Rattle.bundle.proofs.Left.{facts_few}
use Rattle.steps.specs.Tables.{Follows}
use Rattle.clashes.specs.Types.{itself}
use Rattle.clashes.specs.Coded.{bits_follow, supports_coded, support_in}
use Rattle.clashes.specs.Marks.{alone, contradict, clash, partner, marked}
use Rattle.clashes.specs.declared.types.Typ.{Typ}
use Rattle.clean.specs.Cleaning.{below, lowest}

-- a number that was found
module _ (none n : ℕ) where
  pub below_found : n < none → Some n ≡ below none n
  below_found h = rw (lt-ltb n none h)

  pub below_none : none ≤ n → None ≡ below none n
  below_none h = rw (le-ltb n none h)

  pub record Found (k : ℕ) : Type 0 where
    pub is : k ≡ n
    pub less : n < none

  pub below_some : (k : ℕ) → below none n ≡ Some k → Found k
  below_some k e = by (ltb n none) refl e
    where
      by : (t : Bool) → ltb n none ≡ t → cond t (Some n) None ≡ Some k → Found k
      by true less e = record { is = cc; less = ltb-true n none less }
      by false less e = absurd cc

  pub below_over : below none n ≡ None → none ≤ n
  below_over e = by (ltb n none) refl e
    where
      by : (t : Bool) → ltb n none ≡ t → cond t (Some n) None ≡ None → none ≤ n
      by true less e = absurd cc
      by false over e = ltb-false n none over

-- a fact that is alone clashes with none
none_clashes : (p : Fact → Bool) → ((g : Fact) → p g ≡ false) → (k : ℕ) (l : List Fact) → first no_partner p k l ≡ no_partner
unfolding first
none_clashes p h k [] = refl
none_clashes p h k (g ∷ l) = rw (h g) (none_clashes p h (k + 1) l)

module _ (t : Follows) (f : Fact) (b : Bool) (is_b : b ≡ alone itself t f) where
  pub lowest_of_alone : b ≡ true → (facts : List Fact) → None ≡ lowest t facts f
  unfolding partner clash
  lowest_of_alone e facts =
      let none : first no_partner (clash itself t f) 0 facts ≡ no_partner = none_clashes (clash itself t f) (λ g. rw (← is_b, e)) 0 facts in
      rw none (below_none no_partner no_partner (omega arith))

  module _ (not_alone : b ≡ false) (g : Fact) (r : Bool) (is-r : r ≡ (contradict itself t f g && not (alone itself t g))) where
    pub clash_is : clash itself t f g ≡ r
    unfolding clash
    clash_is = rw (← is_b, not_alone) (and_comm (not (alone itself t g)) (contradict itself t f g) ∙ sym is-r)

-- the library's search for the first that passes, where the list ends before the number that says that there is none
below_first : (none : ℕ) (p : Fact → Bool) (k : ℕ) (l : List Fact) → k + length l ≤ none → position_from p k l ≡ below none (first none p k l)
unfolding first
below_first none p k [] fits = below_none none none (omega arith)
below_first none p k (g ∷ l) fits = by (p g) (below_first none p (k + 1) l (omega (arith, fits)))
  where
    by : (b : Bool) → position_from p (k + 1) l ≡ below none (first none p (k + 1) l) → cond b (Some k) (position_from p (k + 1) l) ≡ below none (cond b k (first none p (k + 1) l))
    by true rest = below_found none k (omega (arith, fits))
    by false rest = rest

module _ (none : ℕ) (p : Fact → Bool) (facts : List Fact) (fits : length facts ≤ none) where
  found_first : cond (ltb (position_or_len p facts) (length facts)) (Some (position_or_len p facts)) None ≡ below none (first none p 0 facts)
  found_first = position_from-zero p facts ∙ below_first none p 0 facts (omega (arith, fits))

-- the facts of a bundle are few
pub few_facts : (s : List ℕ) (facts : Facts) → facts.count ≤ most_facts → length (facts_of s facts) ≤ most_facts
few_facts s facts few = omega (arith, facts_few s facts.count facts.start, few)

-- the search for the lowest clash
pub lowest_found : (t : Follows) (f : Fact) (facts : List Fact) → length facts ≤ most_facts
    → cond (ltb (position_or_len (clash itself t f) facts) (length facts)) (Some (position_or_len (clash itself t f) facts)) None ≡ lowest t facts f
unfolding partner
lowest_found t f facts few = found_first no_partner (clash itself t f) facts (omega (arith, few))

-- the search for a kept fact that supports
module _ (included excluded : List ℕ) (functional : ℕ) (bundle : List ℕ) (facts : Facts) (asked : Typ) where
  abbrev pub supporting : Fact → Bool
  supporting f = marked itself (bits_follow [] excluded functional) (facts_of bundle facts) 0 f && supports_coded included asked f

  pub support_found : cond (ltb (position_or_len supporting (facts_of bundle facts)) (length (facts_of bundle facts))) (Some (position_or_len supporting (facts_of bundle facts))) None
      ≡ below facts.count (support_in included excluded functional bundle facts asked)
  unfolding support_in
  support_found = found_first facts.count supporting (facts_of bundle facts) (facts_few bundle facts.count facts.start)
