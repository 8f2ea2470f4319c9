-- The facts that are left of a walk over some records: that of the record here, and those after it, or none at the end.
use Prim.Native.Nat.{ℕ, ◌+◌, ◌≤◌, ◌<◌}
use mathlib.Core.Path.{◌≡◌, sym, ap, ◌∙◌}
use mathlib.Core.List.{List, [], ◌∷◌, map}
use lib.ListN.{length, get_or, drop}
use Rattle.std.proofs.lemmas.List.{at_drop_more, at_drop_all}
use Rattle.site.specs.declared.fact.Fact.{Fact}

module _ {R : Type 0} (of : R → Fact) (rs : List R) (i : ℕ) where
  pub facts_on : (r : R) (f : Fact) → r ≡ get_or rs i r → f ≡ of r → i < length rs → map of (drop i rs) ≡ f ∷ map of (drop (i + 1) rs)
  facts_on r f there is within =
      at_drop_more (map of) rs i r within ∙ ap (λ (x : Fact). x ∷ map of (drop (i + 1) rs)) (ap of (sym there) ∙ sym is)

  pub facts_over : length rs ≤ i → map of (drop i rs) ≡ []
  facts_over past = at_drop_all (map of) rs i past
