-- Answers: the number that supports a question is below the count exactly if some kept fact supports it, and then it is the lowest such.
use Prim.Native.Nat.{ℕ, ◌<◌}
use mathlib.Core.Path.{◌≡◌, subst}
use mathlib.Core.Bool.{Bool, true, false, ◌&&◌}
use mathlib.Core.Logic.{◌↔◌}
use mathlib.Core.List.{List, Memᴰ}
use lib.ListN.{length, get_or}
use lib.Dec.{eqb}
use borrow.Author.Tests.{eqb-true, eq-eqb}
use native.Mathlib.Omega.{arith}
use Rattle.site.specs.declared.fact.Fact.{Fact}
use Rattle.site.specs.Lists.{first}
use Rattle.site.proofs.Lists.{any_found, any_of, and_left, and_right, and_both, is_false, true_not_false, FirstAt, first_found, first_of}
use Rattle.steps.specs.Tables.{Follows}
use Rattle.clashes.specs.Types.{Typ}
use Rattle.clashes.specs.Marks.{mark, marked, supports, support}

module _ (ρ : ℕ → ℕ) (t : Follows) (facts : List Fact) (asked : Typ) where
  -- a kept fact of the list that supports the question
  pub record Supporter : Type 0 where
    pub fact : Fact
    pub within : Memᴰ fact facts
    pub is_kept : mark ρ t facts fact ≡ 0
    pub supporting : supports ρ t asked fact ≡ true

  abbrev serves : Fact → Bool
  serves f = marked ρ t facts 0 f && supports ρ t asked f

  served : (f : Fact) → mark ρ t facts f ≡ 0 → supports ρ t asked f ≡ true → serves f ≡ true
  unfolding marked
  served f e h = and_both _ _ (eq-eqb _ 0 e) h

  serves_kept : (f : Fact) → serves f ≡ true → mark ρ t facts f ≡ 0
  unfolding marked
  serves_kept f h = eqb-true _ 0 (and_left (eqb (mark ρ t facts f) 0) _ h)

  serves_so : (f : Fact) → serves f ≡ true → supports ρ t asked f ≡ true
  serves_so f h = and_right (marked ρ t facts 0 f) _ h

  -- "yes" exactly if some kept fact supports the question
  pub supported : (support ρ t facts asked < length facts) ↔ Supporter
  unfolding support
  supported = (
    λ h.
        let p = any_found serves facts ((first_of serves (length facts) facts (omega arith)).0 h) in
        record { fact = p.one; within = p.within; is_kept = serves_kept p.one p.passes; supporting = serves_so p.one p.passes },
    λ r. (first_of serves (length facts) facts (omega arith)).1 (any_of serves r.within (served r.fact r.is_kept r.supporting)),
  )

  -- "the lowest-numbered kept fact"
  pub record SupportOf (n : ℕ) : Type 0 where
    pub inside : n < length facts
    pub is_kept : (d : Fact) → mark ρ t facts (get_or facts n d) ≡ 0
    pub supporting : (d : Fact) → supports ρ t asked (get_or facts n d) ≡ true
    pub lowest : (d : Fact) (k : ℕ) → k < n → mark ρ t facts (get_or facts k d) ≡ 0 → supports ρ t asked (get_or facts k d) ≡ false

  pub support_of : support ρ t facts asked < length facts → SupportOf (support ρ t facts asked)
  unfolding support
  support_of h =
      record {
        inside = l.inside;
        is_kept = λ d. serves_kept _ (l.passes d);
        supporting = λ d. serves_so _ (l.passes d);
        lowest = λ d k g e. is_false (λ z. true_not_false (served _ e z) (l.lowest d k g));
      }
    where
      l : FirstAt serves facts (first (length facts) serves 0 facts)
      l =
          let r = first_found serves (length facts) 0 facts ((first_of serves (length facts) facts (omega arith)).0 h) in
          let at_place : r.place ≡ first (length facts) serves 0 facts = let c = r.counted in omega arith in
          subst (FirstAt serves facts) at_place r.is_first
