-- A table made of a relation on a list of nodes passes exactly for two nodes of the list that the relation holds of.
use mathlib.Core.Path.{◌≡◌, refl, sym, ap, subst, ◌∙◌}
use mathlib.Core.Bool.{Bool, true, false, false≢true, cond}
use mathlib.Core.Logic.{◌⊎◌, inl, inr}
use mathlib.Core.List.{List, [], ◌∷◌, map, Memᴰ}
use Rattle.site.specs.Kinds.{Node, same_node}
use Rattle.site.proofs.Same.{same_node_lem, same_node_refl}
use Rattle.steps.specs.Tables.{Relation, find, rows_of, looked}

-- two nodes of the list that a relation holds of
pub record On (nodes : List Node) (R : Relation) (x y : Node) : Type 0 where
  pub from : Memᴰ x nodes
  pub to : Memᴰ y nodes
  pub by : R x y ≡ true

module _ {A : Type 0} (none : A) where
  -- what is found is found at a node of the list
  pub found : (ns : List Node) (rows : List A) (x : Node) → Memᴰ x ns ⊎ (find none ns rows x ≡ none)
  unfolding find
  found [] rows x = inr refl
  found (n ∷ ns) [] x = inr refl
  found (n ∷ ns) (row ∷ rows) x = step (same_node n x) refl (found ns rows x)
    where
      step : (b : Bool) → same_node n x ≡ b → Memᴰ x ns ⊎ (find none ns rows x ≡ none) → Memᴰ x (n ∷ ns) ⊎ (cond b row (find none ns rows x) ≡ none)
      step true e rest = inl (Memᴰ.head (sym (same_node_lem n x e)))
      step false e (inl m) = inl (Memᴰ.tail m)
      step false e (inr r) = inr r

  -- at a node of the list stands what was put there
  pub stands : (f : Node → A) {x : Node} {ns : List Node} → Memᴰ x ns → find none ns (map f ns) x ≡ f x
  unfolding find
  stands f {x} (Memᴰ.head {x = n} {xs = ns} e) =
      subst (λ b. cond b (f n) (find none ns (map f ns) x) ≡ f x) (sym (subst (λ z. same_node n z ≡ true) (sym e) (same_node_refl n))) (ap f (sym e))
  stands f {x} (Memᴰ.tail {x = n} {xs = ns} m) = step (same_node n x) refl (stands f m)
    where
      step : (b : Bool) → same_node n x ≡ b → find none ns (map f ns) x ≡ f x → cond b (f n) (find none ns (map f ns) x) ≡ f x
      step true e rest = ap f (same_node_lem n x e)
      step false e rest = rest

none_in_none : (ns : List Node) (y : Node) → find false ns [] y ≡ false
unfolding find
none_in_none [] y = refl
none_in_none (n ∷ ns) y = refl

module _ (nodes : List Node) where
  module _ (rows : List (List Bool)) (x y : Node) (h : looked nodes rows x y ≡ true) where
    pub looked_from : Memᴰ x nodes
    unfolding looked
    looked_from = step (found [] nodes rows x)
      where
        step : Memᴰ x nodes ⊎ (find [] nodes rows x ≡ []) → Memᴰ x nodes
        step (inl m) = m
        step (inr e) = absurd (false≢true (sym (none_in_none nodes y) ∙ subst (λ row. find false nodes row y ≡ true) e h))

    pub looked_to : Memᴰ y nodes
    unfolding looked
    looked_to = step (found false nodes (find [] nodes rows x) y)
      where
        step : Memᴰ y nodes ⊎ (find false nodes (find [] nodes rows x) y ≡ false) → Memᴰ y nodes
        step (inl m) = m
        step (inr e) = absurd (false≢true (sym e ∙ h))

  module _ (R : Relation) where
    stands_both : {x y : Node} → Memᴰ x nodes → Memᴰ y nodes → looked nodes (rows_of nodes R) x y ≡ R x y
    unfolding looked rows_of
    stands_both {x} {y} m n =
        ap (λ row. find false nodes row y) (stands [] (λ z. map (λ w. R z w) nodes) m) ∙ stands false (λ w. R x w) n

    pub looked_in : {x y : Node} → On nodes R x y → looked nodes (rows_of nodes R) x y ≡ true
    looked_in o = stands_both o.from o.to ∙ o.by

    pub looked_out : {x y : Node} → looked nodes (rows_of nodes R) x y ≡ true → On nodes R x y
    looked_out {x} {y} h =
        let m = looked_from (rows_of nodes R) x y h in
        let n = looked_to (rows_of nodes R) x y h in
        record { from = m; to = n; by = sym (stands_both m n) ∙ h }
