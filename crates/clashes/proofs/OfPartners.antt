-- Partners: a disputed fact's is the lowest-numbered fact that clashes with it, another than itself and disputed too; kept and alone facts
-- have none.
use Prim.Native.Nat.{ℕ, ◌<◌, ◌≤◌}
use mathlib.Core.Path.{◌≡◌, ap, ◌∙◌, subst}
use mathlib.Core.Bool.{true, false}
use mathlib.Core.Logic.{◌↔◌}
use mathlib.Core.List.{List, Memᴰ}
use lib.ListN.{length, get_or}
use native.Mathlib.Omega.{arith}
use Rattle.site.specs.declared.fact.Fact.{Fact}
use Rattle.site.specs.Kinds.{Site}
use Rattle.site.specs.Limits.{most_facts, no_partner}
use Rattle.site.specs.Lists.{any, first}
use Rattle.site.proofs.Lists.{any_found, any_of, is_false, true_not_false, FirstAt, first_found, first_none, first_of}
use Rattle.rules.specs.Lawful.{Lawful}
use Rattle.steps.specs.Tables.{Follows, follows_of}
use Rattle.steps.specs.Decides.{Decides}
use Rattle.steps.proofs.Decided.{decides}
use Rattle.clashes.specs.Marks.{clash, mark, partner}
use Rattle.clashes.proofs.OfClash.{clash_symmetric, clash_irreflexive}
use Rattle.clashes.proofs.OfMarks.{mark_2, clash_disputes}

module _ (ρ : ℕ → ℕ) (t : Follows) (facts : List Fact) where
  some_clashes : (f : Fact) → mark ρ t facts f ≡ 2 → any (clash ρ t f) facts ≡ true
  some_clashes f e = let p = ((mark_2 ρ t facts f).0 e).clashing in any_of (clash ρ t f) p.within p.passes

  disputes : (f : Fact) → any (clash ρ t f) facts ≡ true → mark ρ t facts f ≡ 2
  disputes f h = let p = any_found (clash ρ t f) facts h in clash_disputes ρ t facts f p.within p.passes

  -- "or 65,535 for marks 0 and 1"
  pub no_partner_lem : (f : Fact) → mark ρ t facts f < 2 → partner ρ t facts f ≡ no_partner
  unfolding partner
  no_partner_lem f l = first_none (clash ρ t f) no_partner 0 facts (is_false (λ h. let e = disputes f h in omega arith))

  -- so many facts as a bundle holds: the partner says whether the fact is disputed
  pub partner_tells : length facts ≤ most_facts → (f : Fact) → (partner ρ t facts f < no_partner) ↔ (mark ρ t facts f ≡ 2)
  unfolding partner
  partner_tells few f =
      let e = first_of (clash ρ t f) no_partner facts (omega arith) in
      (λ h. disputes f (e.0 h), λ h. e.1 (some_clashes f h))

  -- the lowest-numbered fact that clashes with f
  pub lowest_clash : (f : Fact) → mark ρ t facts f ≡ 2 → FirstAt (clash ρ t f) facts (partner ρ t facts f)
  unfolding partner
  lowest_clash f e =
      let r = first_found (clash ρ t f) no_partner 0 facts (some_clashes f e) in
      let at_place : r.place ≡ first no_partner (clash ρ t f) 0 facts = let c = r.counted in omega arith in
      subst (FirstAt (clash ρ t f) facts) at_place r.is_first

-- what the partner of a disputed fact is
pub record PartnerOf (ρ : ℕ → ℕ) (t : Follows) (facts : List Fact) (f : Fact) (n : ℕ) : Type 0 where
  pub inside : n < length facts
  pub clashes : (d : Fact) → clash ρ t f (get_or facts n d) ≡ true
  pub lowest : (d : Fact) (k : ℕ) → k < n → clash ρ t f (get_or facts k d) ≡ false
  pub other : (d : Fact) (k : ℕ) → get_or facts k d ≡ f → n ≡ k → ⊥
  pub disputed_too : (d : Fact) → Memᴰ f facts → mark ρ t facts (get_or facts n d) ≡ 2

module _ (ρ : ℕ → ℕ) (s : Site) (t : Follows) (decided : Decides s t) (facts : List Fact) where
  -- "the lowest-numbered fact it clashes with"
  pub disputed_partner : (f : Fact) → mark ρ t facts f ≡ 2 → PartnerOf ρ t facts f (partner ρ t facts f)
  disputed_partner f e =
      record {
        inside = l.inside;
        clashes = l.passes;
        lowest = l.lowest;
        other = λ d k same own.
            true_not_false (l.passes d)
            (ap (λ (n : ℕ). clash ρ t f (get_or facts n d)) own ∙ ap (clash ρ t f) same ∙ clash_irreflexive ρ s t decided f);
        disputed_too = λ d m. clash_disputes ρ t facts (get_or facts (partner ρ t facts f) d) m (clash_symmetric ρ s t decided _ f ∙ l.passes d);
      }
    where
      l : FirstAt (clash ρ t f) facts (partner ρ t facts f)
      l = lowest_clash ρ t facts f e

-- the same by the tables of lawful rules
pub disputed_partner_of : (ρ : ℕ → ℕ) (s : Site) → Lawful s → (facts : List Fact) (f : Fact) → mark ρ (follows_of s) facts f ≡ 2
    → PartnerOf ρ (follows_of s) facts f (partner ρ (follows_of s) facts f)
disputed_partner_of ρ s law = disputed_partner ρ s (follows_of s) (decides s law)
