-- A question is answered yes exactly if the kept facts tell it: then it holds in every world of them, by soundness; and what holds in
-- their canonical world they tell.
use Prim.Native.Nat.{ℕ, ◌<◌}
use mathlib.Core.Path.{refl, subst}
use mathlib.Core.Bool.{◌&&◌}
use mathlib.Core.Logic.{◌↔◌}
use mathlib.Core.List.{List}
use lib.ListN.{length}
use lib.Dec.{eqb}
use borrow.Author.Tests.{eqb-true, eq-eqb}
use Rattle.site.specs.declared.fact.Fact.{Fact}
use Rattle.site.specs.Kinds.{BasicRole, BasicConcept, Node, Site}
use Rattle.site.specs.Kinds.Node.{concept, role}
use Rattle.site.proofs.Lists.{any_found, any_of, and_left, and_right, and_both}
use Rattle.rules.specs.Lawful.{Lawful}
use Rattle.steps.specs.Tables.{Follows}
use Rattle.steps.specs.Decides.{Decides}
use Rattle.clashes.specs.Types.{typ, types_of}
use Rattle.clashes.specs.Marks.{same_place, supports, kept, support}
use Rattle.clashes.proofs.OfTypes.{TypeOf, listed_of, of_listed}
use Rattle.clashes.proofs.OfAnswers.{supported}
use Rattle.clashes.proofs.OfKept.{kept_is}
use Rattle.worlds.specs.Worlds.{Is, Joins, WorldOf, Always}
use Rattle.worlds.proofs.Sound.{At, included_holds, type_shown, shown_at}
use Rattle.worlds.proofs.Told.{Told}
use Rattle.worlds.proofs.Canonical.{canonical, canonical_world, is_told, joins_told}
use Rattle.worlds.proofs.Consistency.{AllFit}
use Rattle.worlds.proofs.Dropped.{kept_within, kept_peaceful}

module _ (ρ : ℕ → ℕ) (s : Site) (t : Follows) (law : Lawful s) (d : Decides s t) (facts : List Fact) (fit : AllFit s facts) where
  -- yes exactly if the kept facts tell it
  told_support : {x : Node} {a b : ℕ} → Told ρ s (kept ρ t facts) x a b → support ρ t facts (typ x a b) < length facts
  unfolding supports
  told_support {x} {a} {b} r =
      let k = (kept_is ρ t facts r.fact).0 r.member in
      (supported ρ t facts (typ x a b)).1
      (record {
        fact = r.fact;
        within = k.within;
        is_kept = k.mark_0;
        supporting =
            any_of (λ y. same_place y (typ x a b) && t.is_included y.node x) (of_listed r.of)
            (and_both _ _ (and_both _ _ (eq-eqb a a refl) (eq-eqb b b refl)) ((d.included r.node x).1 r.below));
      })

  support_told : (x : Node) (a b : ℕ) → support ρ t facts (typ x a b) < length facts → Told ρ s (kept ρ t facts) x a b
  unfolding supports
  support_told x a b h =
      let k = (supported ρ t facts (typ x a b)).0 h in
      let f = k.fact in
      let l = any_found (λ y. same_place y (typ x a b) && t.is_included y.node x) (types_of ρ f) k.supporting in
      let y = l.one in
      let place = and_left (same_place y (typ x a b)) _ l.passes in
      record {
        fact = f;
        member = (kept_is ρ t facts f).1 (record { within = k.within; mark_0 = k.is_kept });
        node = y.node;
        of =
            subst (λ (n : ℕ). TypeOf ρ f y.node n b) (eqb-true _ _ (and_left (eqb y.from a) _ place))
            (subst (λ (n : ℕ). TypeOf ρ f y.node y.from n) (eqb-true _ _ (and_right (eqb y.from a) _ place)) (listed_of l.within));
        below = (d.included y.node x).0 (and_right (same_place y (typ x a b)) _ l.passes);
      }

  -- what is told holds in every world
  told_always : (x : Node) (a b : ℕ) → Told ρ s (kept ρ t facts) x (ρ a) (ρ b)
      → Always ρ s (kept ρ t facts) (λ w. At w x (w.thing a) (w.thing b))
  told_always x a b r w o =
      included_holds s w o.obeys r.below (w.thing a) (w.thing b)
      (shown_at w o.names (type_shown w (fit r.fact (kept_within ρ s t law d facts fit r.fact r.member)).near (o.holds r.fact r.member) r.of) a b refl refl)

  -- and in the canonical world nothing else does
  kept_world : WorldOf ρ s (kept ρ t facts) (canonical ρ s t (kept ρ t facts))
  kept_world =
      canonical_world ρ s t (kept ρ t facts) law d (λ f m. (fit f (kept_within ρ s t law d facts fit f m)).spoken)
      (kept_peaceful ρ s t law d facts fit)

  pub of_thing_always : (c : BasicConcept) (a : ℕ)
      → (support ρ t facts (typ (concept c) (ρ a) (ρ a)) < length facts) ↔ Always ρ s (kept ρ t facts) (λ w. Is w c (w.thing a))
  of_thing_always c a = (
    λ h. told_always (concept c) a a (support_told (concept c) (ρ a) (ρ a) h),
    λ h. told_support (is_told ρ s t (kept ρ t facts) law d c (ρ a) (h (canonical ρ s t (kept ρ t facts)) kept_world)),
  )

  pub of_pair_always : (q : BasicRole) (a b : ℕ)
      → (support ρ t facts (typ (role q) (ρ a) (ρ b)) < length facts)
      ↔ Always ρ s (kept ρ t facts) (λ w. Joins w q (w.thing a) (w.thing b))
  of_pair_always q a b = (
    λ h. told_always (role q) a b (support_told (role q) (ρ a) (ρ b) h),
    λ h. told_support (joins_told ρ s t (kept ρ t facts) law d q (ρ a) (ρ b) (h (canonical ρ s t (kept ρ t facts)) kept_world)),
  )
