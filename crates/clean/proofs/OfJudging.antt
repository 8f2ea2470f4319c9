-- A mark and a partner from the lowest clash: there is one exactly if the search ended below 65,535.
use Prim.Native.Nat.{ℕ, ◌≤◌, ◌<◌}
use mathlib.Core.Path.{◌≡◌, sym, ◌∙◌}
use mathlib.Core.Bool.{Bool, true, false, cond, ◌&&◌, not}
use mathlib.Core.List.{List}
use lib.ListN.{length}
use native.Mathlib.Omega.{arith}
use borrow.Author.Tests.{not-true}
use Rattle.std.specs.Prelude.{Option, Some, None}
use Rattle.site.specs.declared.fact.Fact.{Fact}
use Rattle.site.specs.Limits.{most_facts, no_partner}
use Rattle.site.specs.Lists.{any, first}
use Rattle.site.proofs.Lists.{and_left, any_found, is_false, first_of}
use Rattle.steps.specs.Tables.{Follows}
use Rattle.clashes.specs.Types.{itself}
use Rattle.clashes.specs.Marks.{alone, contradict, clash, mark, partner}
use Rattle.clashes.specs.Judging.{judged}
use Rattle.clean.specs.Cleaning.{lowest}
use Rattle.clean.proofs.OfSearch.{below_some, below_over}
use Rattle.clashes.specs.declared.answers.Judged.TheVariants.{Kept, Alone, Disputed}

-- a fact that clashes with some fact is not alone
module _ (t : Follows) (facts : List Fact) (f : Fact) where
  clashing_alone : any (clash itself t f) facts ≡ true → alone itself t f ≡ false
  unfolding clash
  clashing_alone e =
      let found = any_found (clash itself t f) facts e in
      let g = found.one in
      not-true (alone itself t f)
      (and_left (not (alone itself t f)) (not (alone itself t g)) (and_left (not (alone itself t f) && not (alone itself t g)) (contradict itself t f g) found.passes))

  module _ (few : length facts ≤ no_partner) where
    found_mark : partner itself t facts f < no_partner → mark itself t facts f ≡ 2
    unfolding partner mark
    found_mark h =
        let some = (first_of (clash itself t f) no_partner facts few).0 h in
        rw (clashing_alone some, some)

    module _ (over : no_partner ≤ partner itself t facts f) where
      none_clashes : any (clash itself t f) facts ≡ false
      unfolding partner
      none_clashes = is_false (λ e. absurd (past ((first_of (clash itself t f) no_partner facts few).1 e)))
        where
          past : first no_partner (clash itself t f) 0 facts < no_partner → ⊥
          past h = omega (arith, over)

      unfound_mark : mark itself t facts f ≡ cond (alone itself t f) 1 0
      unfolding mark
      unfound_mark = rw none_clashes

module _ (t : Follows) (facts : List Fact) (few : length facts ≤ most_facts) (f : Fact) (r : Option ℕ) (is : r ≡ lowest t facts f) where
  few_enough : length facts ≤ no_partner
  few_enough = omega (arith, few)

  pub judged_disputed : (k : ℕ) → r ≡ Some k → Disputed k ≡ judged itself t facts f
  unfolding judged
  judged_disputed k e =
      let found = below_some no_partner (partner itself t facts f) k (sym is ∙ e) in
      rw (found_mark t facts f few_enough found.less, found.is)

  module _ (none : r ≡ None) (b : Bool) (is_b : b ≡ alone itself t f) where
    past : no_partner ≤ partner itself t facts f
    past = below_over no_partner (partner itself t facts f) (sym is ∙ none)

    pub judged_alone : b ≡ true → Alone ≡ judged itself t facts f
    unfolding judged
    judged_alone e = rw (unfound_mark t facts f few_enough past, ← is_b, e)

    pub judged_kept : b ≡ false → Kept ≡ judged itself t facts f
    unfolding judged
    judged_kept e = rw (unfound_mark t facts f few_enough past, ← is_b, e)
