-- Rows and counts: what one turn of the loop that marks the facts leaves to the facts that are left.
use Prim.Native.Nat.{ℕ, suc, ◌+◌, ◌≤◌, ◌<◌}
use mathlib.Core.Path.{◌≡◌, refl, sym, ap, subst, ◌∙◌}
use mathlib.Core.Bool.{Bool, true, false, cond}
use mathlib.Core.List.{List, [], ◌∷◌, map}
use mathlib.Core.Logic.{⊎_elim}
use lib.ListN.{length, set, length-set}
use lib.Seq.{sets}
use lib.Dec.{eqb}
use mir.Val.{Fits}
use mir.Syntax.{w16}
use native.Mathlib.Nat.{zero-add, add-zero}
use native.Mathlib.Numerals.{add-one}
use native.Mathlib.Omega.{arith}
use Rattle.site.specs.declared.fact.Fact.{Fact}
use Rattle.site.specs.Limits.{most_facts, no_partner}
use Rattle.site.specs.Lists.{any, count, first}
use Rattle.site.proofs.Lists.{either, first_of, first_none}
use Rattle.steps.specs.Tables.{Follows}
use Rattle.clashes.specs.Types.{itself}
use Rattle.clashes.specs.Marks.{clash, mark, partner, marks, partners, marked, counts}
use Rattle.clashes.specs.Tally.{no_counts, one_if, tallied, Small, Marks}
use Rattle.clashes.specs.declared.answers.Counts.{Counts}
use Rattle.clashes.specs.declared.answers.Judged.{Judged}
use Rattle.clashes.specs.Judging.{mark_of, partner_of, judged}
use Rattle.clashes.proofs.OfJudged.{judged_mark, judged_partner}

-- the counts of facts that are left, upon counts so far
module _ (t : Follows) (whole : List Fact) where
  abbrev upon : Counts → List Fact → Counts
  upon c rest =
      record {
        facts = c.facts + length rest;
        kept = c.kept + count (marked itself t whole 0) rest;
        alone = c.alone + count (marked itself t whole 1) rest;
        disputed = c.disputed + count (marked itself t whole 2) rest;
      }

  upon_nothing : upon no_counts whole ≡ counts itself t whole
  unfolding counts
  upon_nothing = simp zero-add

  upon_end : (c : Counts) → upon c [] ≡ c
  unfolding count
  upon_end c = simp add-zero

  one_more : (k n : ℕ) (b : Bool) → k + cond b (suc n) n ≡ k + cond b 1 0 + n
  one_more k n true = omega arith
  one_more k n false = omega arith

  count_more : (k m : ℕ) (f : Fact) (rest : List Fact)
      → k + count (marked itself t whole m) (f ∷ rest) ≡ k + one_if (mark itself t whole f) m + count (marked itself t whole m) rest
  unfolding count marked one_if
  count_more k m f rest = one_more k (count (marked itself t whole m) rest) (eqb (mark itself t whole f) m)

  upon_more : (c : Counts) (f : Fact) (rest : List Fact) → upon c (f ∷ rest) ≡ upon (tallied c (mark itself t whole f)) rest
  upon_more c f rest =
      let longer : c.facts + suc (length rest) ≡ c.facts + 1 + length rest = omega arith in
      rw (longer, count_more c.kept 0 f rest, count_more c.alone 1 f rest, count_more c.disputed 2 f rest)

-- counting, as the facts are gone through
pub record Tallying (t : Follows) (whole rest : List Fact) (c : Counts) : Type 0 where
  pub same : upon t whole c rest ≡ counts itself t whole
  pub counted : c.facts + length rest ≡ length whole
  pub kept : c.kept ≤ c.facts
  pub alone : c.alone ≤ c.facts
  pub disputed : c.disputed ≤ c.facts

module _ (t : Follows) (whole : List Fact) where
  pub tally_start : (rest : List Fact) → rest ≡ whole → (c : Counts) → c ≡ no_counts → Tallying t whole rest c
  tally_start rest is c e =
      rw is
      (subst (λ (k : Counts). Tallying t whole whole k) (sym e)
      (record { same = upon_nothing t whole; counted = omega arith; kept = omega arith; alone = omega arith; disputed = omega arith }))

  module _ (rest : List Fact) (c : Counts) (so : Tallying t whole rest c) where
    pub tally_ends : rest ≡ [] → c ≡ counts itself t whole
    tally_ends e = sym (upon_end t whole c) ∙ sym (ap (λ (l : List Fact). upon t whole c l) e) ∙ so.same

    module _ (f : Fact) (rest' : List Fact) (one : rest ≡ f ∷ rest') where
      pub tally_small : length whole ≤ most_facts → Small c
      tally_small few = record { facts = omega (arith, so.counted, ap length one); kept = so.kept; alone = so.alone; disputed = so.disputed }

      pub tally_on : (j : Judged) → j ≡ judged itself t whole f → (c' : Counts) → c' ≡ tallied c (mark_of j) → Tallying t whole rest' c'
      unfolding one_if
      tally_on j is-j c' is_c =
          subst (λ (k : Counts). Tallying t whole rest' k) (sym (is_c ∙ ap (λ (i : Judged). tallied c (mark_of i)) is-j ∙ ap (tallied c) (judged_mark itself t whole f)))
          (record {
            same = sym (upon_more t whole c f rest') ∙ rw one at so.same;
            counted = omega (arith, so.counted, ap length one);
            kept = omega (arith, so.kept, at_most_one (eqb (mark itself t whole f) 0));
            alone = omega (arith, so.alone, at_most_one (eqb (mark itself t whole f) 1));
            disputed = omega (arith, so.disputed, at_most_one (eqb (mark itself t whole f) 2));
          })
        where
          at_most_one : (b : Bool) → cond b 1 0 ≤ 1
          at_most_one true = omega arith
          at_most_one false = omega arith

-- a partner is 16 bits
module _ (t : Follows) (whole : List Fact) (f : Fact) where
  partner_small : length whole ≤ no_partner → partner itself t whole f ≤ no_partner
  unfolding partner
  partner_small few = ⊎_elim found unfound (either (any (clash itself t f) whole))
    where
      found : any (clash itself t f) whole ≡ true → first no_partner (clash itself t f) 0 whole ≤ no_partner
      found e = let h = (first_of (clash itself t f) no_partner whole few).1 e in omega arith

      unfound : any (clash itself t f) whole ≡ false → first no_partner (clash itself t f) 0 whole ≤ no_partner
      unfound e = let h = first_none (clash itself t f) no_partner 0 whole e in omega arith

  module _ (j : Judged) (is : j ≡ judged itself t whole f) where
    partner_fits : length whole ≤ no_partner → Fits w16 (partner_of j)
    partner_fits few = record { fits = omega (arith, ap partner_of is, judged_partner itself t whole f, partner_small few) }

pub row_partner_fits : (t : Follows) (facts : List Fact) (f : Fact) (j : Judged) → length facts ≤ most_facts → j ≡ judged itself t facts f → Fits w16 (partner_of j)
row_partner_fits t facts f j few is = partner_fits t facts f j is (omega (arith, few))

-- marking, as the facts are gone through: the rows with what is left to be stored are the rows with everything stored
pub record Marking (t : Follows) (whole rest : List Fact) (row₀ pair₀ row pair : List ℕ) (i : ℕ) (c : Counts) : Type 0 where
  pub tally : Tallying t whole rest c
  pub place : c.facts ≡ i
  pub row_same : sets row i (map (mark itself t whole) rest) ≡ sets row₀ 0 (marks itself t whole)
  pub pair_same : sets pair i (map (partner itself t whole) rest) ≡ sets pair₀ 0 (partners itself t whole)
  pub row_long : length row ≡ length row₀
  pub pair_long : length pair ≡ length pair₀

module _ (t : Follows) (whole : List Fact) where
  pub marking_start : (rest : List Fact) → rest ≡ whole → (row pair : List ℕ) (c : Counts) → c ≡ no_counts → (i : ℕ) → i ≡ 0 → Marking t whole rest row pair row pair i c
  unfolding marks partners
  marking_start rest is row pair c e i z =
      record {
        tally = tally_start t whole rest is c e;
        place = ap (λ (k : Counts). k.facts) e ∙ sym z;
        row_same = rw (is, z);
        pair_same = rw (is, z);
        row_long = refl;
        pair_long = refl;
      }

  module _ (rest : List Fact) (row₀ pair₀ row pair : List ℕ) (i : ℕ) (c : Counts) (so : Marking t whole rest row₀ pair₀ row pair i c) where
    pub marking_ends : rest ≡ [] → Marks t whole row₀ pair₀ c row pair
    marking_ends e =
        record {
          counted = tally_ends t whole rest c so.tally e;
          marked = sym (ap (λ (l : List Fact). sets row i (map (mark itself t whole) l)) e) ∙ so.row_same;
          partnered = sym (ap (λ (l : List Fact). sets pair i (map (partner itself t whole) l)) e) ∙ so.pair_same;
        }

    module _ (f : Fact) (rest' : List Fact) (one : rest ≡ f ∷ rest') where
      pub marking_in_row : length whole ≤ length row₀ → i < length row
      marking_in_row room = omega (arith, so.row_long, so.place, so.tally.counted, ap length one)

      pub marking_in_pair : length whole ≤ length pair₀ → i < length pair
      marking_in_pair room = omega (arith, so.pair_long, so.place, so.tally.counted, ap length one)

      pub marking_on : (j : Judged) → j ≡ judged itself t whole f → (m p : ℕ) → m ≡ mark_of j → p ≡ partner_of j
          → (c' : Counts) → c' ≡ tallied c (mark_of j) → (i' : ℕ) → i' ≡ i + 1 → Marking t whole rest' row₀ pair₀ (set row i m) (set pair i p) i' c'
      marking_on j is-j m p is-m is-p c' is_c i' z =
          record {
            tally = tally_on t whole rest c so.tally f rest' one j is-j c' is_c;
            place = ap (λ (k : Counts). k.facts) is_c ∙ ap (λ (k : ℕ). k + 1) so.place ∙ sym z;
            row_same =
                rw (z, is-m, is-j, judged_mark itself t whole f, add-one) (sym (ap (λ (l : List Fact). sets row i (map (mark itself t whole) l)) one) ∙ so.row_same);
            pair_same =
                rw (z, is-p, is-j, judged_partner itself t whole f, add-one) (sym (ap (λ (l : List Fact). sets pair i (map (partner itself t whole) l)) one) ∙ so.pair_same);
            row_long = length-set row i m ∙ so.row_long;
            pair_long = length-set pair i p ∙ so.pair_long;
          }
