-- Maximal good sets, over any property of lists that is decided within the facts and passes to what holds fewer: taking one fact after the
-- other, a good set grows to a maximal one. So a fact is left out by a maximal set exactly if it spoils some good set.
use mathlib.Core.Path.{refl, subst}
use mathlib.Core.List.{List, [], ◌∷◌, Memᴰ}
use Rattle.worlds.proofs.OfLists.{Within, within_cons, within_both}

module _ {A : Type 0} (Good : List A → Type 1) (facts : List A) where
  -- a maximal good set of the facts
  pub record Largest (set : List A) : Type 1 where
    pub within : Within set facts
    pub good : Good set
    pub full : (f : A) → Memᴰ f facts → Good (f ∷ set) → Memᴰ f set

  -- a good set of the facts that is no longer good with f
  pub record Spoils (f : A) : Type 1 where
    pub set : List A
    pub within : Within set facts
    pub good : Good set
    pub spoilt : Good (f ∷ set) → ⊥

  -- a good set that holds the start, and every fact of a list that it could take in
  record Grown (start from : List A) : Type 1 where
    set : List A
    holds : Within start set
    within : Within set facts
    good : Good set
    full : (f : A) → Memᴰ f from → Good (f ∷ set) → Memᴰ f set

  module _ (fewer : (xs ys : List A) → Within xs ys → Good ys → Good xs) (decide : (xs : List A) → Within xs facts → Dec (Good xs)) where
    grow : (from start : List A) → Within from facts → Within start facts → Good start → Grown start from
    grow [] start i w g = record { set = start; holds = λ x m. m; within = w; good = g; full = λ f m. elim m [ ] }
    grow (f ∷ fs) start i w g =
        take (decide (f ∷ start) wider) (λ k. grow fs (f ∷ start) later wider k) (grow fs start later w g)
      where
        later : Within fs facts
        later x m = i x (Memᴰ.tail m)

        wider : Within (f ∷ start) facts
        wider = within_cons (i f (Memᴰ.head refl)) w

        taken : Grown (f ∷ start) fs → Grown start (f ∷ fs)
        taken r = record { set = r.set; holds = λ x m. r.holds x (Memᴰ.tail m); within = r.within; good = r.good; full = full }
          where
            full : (x : A) → Memᴰ x (f ∷ fs) → Good (x ∷ r.set) → Memᴰ x r.set
            full x (Memᴰ.head e) k = r.holds x (Memᴰ.head e)
            full x (Memᴰ.tail m) k = r.full x m k

        passed : (Good (f ∷ start) → ⊥) → Grown start fs → Grown start (f ∷ fs)
        passed n r = record { set = r.set; holds = r.holds; within = r.within; good = r.good; full = full }
          where
            full : (x : A) → Memᴰ x (f ∷ fs) → Good (x ∷ r.set) → Memᴰ x r.set
            full x (Memᴰ.head e) k =
                absurd (n (subst (λ (y : A). Good (y ∷ start)) e (fewer (x ∷ start) (x ∷ r.set) (within_both r.holds) k)))
            full x (Memᴰ.tail m) k = r.full x m k

        take : Dec (Good (f ∷ start)) → (Good (f ∷ start) → Grown (f ∷ start) fs) → Grown start fs → Grown start (f ∷ fs)
        take (yes k) on off = taken (on k)
        take (no n) on off = passed n off

    pub spoils_left_out : (f : A) → Spoils f → (set : List A) × Largest set × (Memᴰ f set → ⊥)
    spoils_left_out f p =
        let r = grow facts p.set (λ x m. m) p.within p.good in (
          r.set,
          record { within = r.within; good = r.good; full = r.full },
          λ m. p.spoilt (fewer (f ∷ p.set) r.set (within_cons m r.holds) r.good),
        )

  pub left_out_spoils : (f : A) → Memᴰ f facts → (set : List A) (largest : Largest set) → (Memᴰ f set → ⊥) → Spoils f
  left_out_spoils f m set l n = record { set = set; within = l.within; good = l.good; spoilt = λ g. n (l.full f m g) }
