-- What is judged of a fact has its mark and its partner; the code's test for a kept one is mark 0.
use Prim.Native.Nat.{ℕ, ◌<◌}
use mathlib.Core.Path.{◌≡◌, refl, sym, ap, ◌∙◌}
use mathlib.Core.List.{List}
use lib.Dec.{eqb}
use native.Mathlib.Omega.{arith}
use Rattle.site.specs.declared.fact.Fact.{Fact}
use Rattle.site.specs.Limits.{no_partner}
use Rattle.steps.specs.Tables.{Follows}
use Rattle.clashes.specs.Marks.{mark, partner, marked}
use Rattle.clashes.specs.Judging.{mark_of, partner_of, judged_so, judged}
use Rattle.clashes.specs.contracts.answers.JudgedPartialEq.TheImpl.{eq-value}
use Rattle.clashes.specs.declared.answers.Judged.{Judged}
use Rattle.clashes.specs.declared.answers.Judged.TheVariants.{Kept, Alone, Disputed}
use Rattle.clashes.proofs.OfMarks.{MarkOf, mark_of as has_mark}
use Rattle.clashes.proofs.OfMarks.MarkOf.{is_kept, is_alone, is_disputed}
use Rattle.clashes.proofs.OfPartners.{no_partner_lem}

module _ (ρ : ℕ → ℕ) (t : Follows) (facts : List Fact) (f : Fact) where
  so_mark : {m : ℕ} (p : ℕ) → MarkOf ρ t facts f m → mark_of (judged_so m p) ≡ m
  so_mark p (is_kept e k) = refl
  so_mark p (is_alone e) = refl
  so_mark p (is_disputed e k) = refl

  pub judged_mark : mark_of (judged ρ t facts f) ≡ mark ρ t facts f
  unfolding judged
  judged_mark = so_mark (partner ρ t facts f) (has_mark ρ t facts f)

  so_partner : {m : ℕ} (p : ℕ) → MarkOf ρ t facts f m → (m < 2 → p ≡ no_partner) → partner_of (judged_so m p) ≡ p
  so_partner p (is_kept e k) none = sym (none (omega arith))
  so_partner p (is_alone e) none = sym (none (omega arith))
  so_partner p (is_disputed e k) none = refl

  pub judged_partner : partner_of (judged ρ t facts f) ≡ partner ρ t facts f
  unfolding judged
  judged_partner = so_partner (partner ρ t facts f) (has_mark ρ t facts f) (no_partner_lem ρ t facts f)

  is_kept_lem : (j : Judged) → eq-value.it j Kept ≡ eqb (mark_of j) 0
  is_kept_lem = elim [ Kept ↦ refl | Alone ↦ refl | Disputed n ↦ refl ]

  pub judged_kept : (j : Judged) → j ≡ judged ρ t facts f → eq-value.it j Kept ≡ marked ρ t facts 0 f
  unfolding marked
  judged_kept j is = is_kept_lem j ∙ ap (λ (i : Judged). eqb (mark_of i) 0) is ∙ ap (λ (m : ℕ). eqb m 0) judged_mark
