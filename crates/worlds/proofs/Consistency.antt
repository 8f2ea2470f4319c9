-- Facts are consistent exactly if no two of them contradict each other: by soundness, and by the canonical world. So it is decided, by
-- the tests of `clean`, whether facts are consistent; and fewer facts stay consistent.
use Prim.Native.Nat.{ℕ}
use mathlib.Core.Path.{◌≡◌}
use mathlib.Core.Bool.{true, false}
use mathlib.Core.Logic.{◌⊎◌, inl, inr}
use mathlib.Core.List.{List, Memᴰ}
use Rattle.site.specs.declared.fact.Fact.{Fact}
use Rattle.site.specs.Kinds.{Site}
use Rattle.site.specs.Lists.{any}
use Rattle.site.proofs.Lists.{any_found, any_of, either, true_not_false}
use Rattle.rules.specs.Lawful.{Lawful}
use Rattle.steps.specs.Tables.{Follows}
use Rattle.steps.specs.Decides.{Decides}
use Rattle.clashes.specs.Marks.{contradict}
use Rattle.clashes.proofs.OfTypes.{contradict_against, against_contradict}
use Rattle.worlds.specs.Worlds.{Consistent}
use Rattle.worlds.proofs.OfLists.{Within}
use Rattle.worlds.proofs.Sound.{Near, against_never}
use Rattle.worlds.proofs.Told.{Peaceful, Spoken}
use Rattle.worlds.proofs.Canonical.{canonical, canonical_world}

-- a fact of declared predicate about things within the limit
pub record Fit (s : Site) (f : Fact) : Type 0 where
  pub spoken : Spoken s f
  pub near : Near f

-- facts that a bundle under these rules may hold
abbrev pub AllFit : Site → List Fact → Type 0
AllFit s facts = (f : Fact) → Memᴰ f facts → Fit s f

module _ (ρ : ℕ → ℕ) (s : Site) (t : Follows) (law : Lawful s) (d : Decides s t) (facts : List Fact)
    (fit : (f : Fact) → Memᴰ f facts → Fit s f) where
  -- consistent exactly if no two contradict each other
  pub consistent_peaceful : (set : List Fact) → Within set facts → Consistent ρ s set → Peaceful ρ s set
  consistent_peaceful set within c f g m k =
      against_never c.0 s c.1.obeys c.1.names (fit f (within f m)).near (fit g (within g k)).near (c.1.holds f m) (c.1.holds g k)

  pub peaceful_consistent : (set : List Fact) → Within set facts → Peaceful ρ s set → Consistent ρ s set
  peaceful_consistent set within peace =
      (canonical ρ s t set, canonical_world ρ s t set law d (λ f m. (fit f (within f m)).spoken) peace)

  pub fewer_consistent : (xs ys : List Fact) → Within xs ys → Consistent ρ s ys → Consistent ρ s xs
  fewer_consistent xs ys i c = (c.0, record { names = c.1.names; obeys = c.1.obeys; holds = λ f m. c.1.holds f (i f m) })

  pub decide_consistent : (set : List Fact) → Within set facts → Dec (Consistent ρ s set)
  decide_consistent set within = go (either (any (λ f. any (contradict ρ t f) set) set))
    where
      go : (any (λ f. any (contradict ρ t f) set) set ≡ true) ⊎ (any (λ f. any (contradict ρ t f) set) set ≡ false) → Dec (Consistent ρ s set)
      go (inl e) =
          no
          (λ c.
          let k = any_found (λ f. any (contradict ρ t f) set) set e in
          let l = any_found (contradict ρ t k.one) set k.passes in
          consistent_peaceful set within c k.one l.one k.within l.within
          (contradict_against ρ s t d k.one l.one l.passes))
      go (inr e) =
          yes
          (peaceful_consistent set within
          (λ f g m k a.
          true_not_false
          (any_of (λ x. any (contradict ρ t x) set) m (any_of (contradict ρ t f) k (against_contradict ρ s t d a)))
          e))
