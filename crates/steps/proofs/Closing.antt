-- Closing a table by going through one node after the other. No paths are needed: once a node has been gone through, two entries that meet
-- at it always have the entry that joins them, and later nodes keep that so. At the end this holds of every node.
use mathlib.Core.Path.{◌≡◌, sym, subst}
use mathlib.Core.Bool.{Bool, true, ◌&&◌, ◌||◌}
use mathlib.Core.Logic.{◌⊎◌, inl, inr}
use mathlib.Core.List.Memᴰ
use mathlib.Core.List.{List, [], ◌∷◌, Memᴰ}
use Rattle.site.specs.Kinds.{Node, same_node}
use Rattle.site.proofs.Lists.{or_cases, or_left, or_right, and_left, and_right, and_both}
use Rattle.site.proofs.Same.{same_node_lem, same_node_refl}
use Rattle.steps.specs.Tables.{Relation, rows_of, looked, through, closure}
use Rattle.steps.specs.Closed.{Closed}
use Rattle.steps.specs.Closed.Closed.{here, one, on}
use Rattle.steps.proofs.Rows.{On, looked_from, looked_to, looked_in, looked_out}

module _ (nodes : List Node) where
  -- what stands in a table
  abbrev Stands : List (List Bool) → Node → Node → Type 0
  Stands rows x y = looked nodes rows x y ≡ true

  -- two entries that meet at m have the entry that joins them
  Joins : List (List Bool) → Node → Type 0
  Joins rows m = (x y : Node) → Stands rows x m → Stands rows m y → Stands rows x y

  -- one turn
  unfoldable turn : List (List Bool) → Node → List (List Bool)
  turn rows m = rows_of nodes (λ x y. looked nodes rows x y || looked nodes rows x m && looked nodes rows m y)

  module _ (rows : List (List Bool)) (m : Node) where
    stays : (x y : Node) → Stands rows x y → Stands (turn rows m) x y
    unfolding turn
    stays x y h =
        looked_in nodes (λ x y. looked nodes rows x y || looked nodes rows x m && looked nodes rows m y)
        (record {
          from = looked_from nodes rows x y h;
          to = looked_to nodes rows x y h;
          by = or_left (looked nodes rows x y) (looked nodes rows x m && looked nodes rows m y) h;
        })

    comes : (x y : Node) → Stands rows x m → Stands rows m y → Stands (turn rows m) x y
    unfolding turn
    comes x y h k =
        looked_in nodes (λ x y. looked nodes rows x y || looked nodes rows x m && looked nodes rows m y)
        (record {
          from = looked_from nodes rows x m h;
          to = looked_to nodes rows m y k;
          by = or_right (looked nodes rows x y) (looked nodes rows x m && looked nodes rows m y) (and_both (looked nodes rows x m) (looked nodes rows m y) h k);
        })

    -- where an entry comes from
    data Came (x y : Node) : Type 0 where
      old : Stands rows x y → Came x y
      joined : Stands rows x m → Stands rows m y → Came x y

    came : (x y : Node) → Stands (turn rows m) x y → Came x y
    unfolding turn
    came x y h = step (or_cases (looked nodes rows x y) (looked nodes rows x m && looked nodes rows m y) (looked_out nodes (λ x y. looked nodes rows x y || looked nodes rows x m && looked nodes rows m y) h).by)
      where
        step : Stands rows x y ⊎ ((looked nodes rows x m && looked nodes rows m y) ≡ true) → Came x y
        step (inl e) = old e
        step (inr e) = joined (and_left (looked nodes rows x m) (looked nodes rows m y) e) (and_right (looked nodes rows x m) (looked nodes rows m y) e)

    -- entries to and from m itself are old
    to_m : {x : Node} → Came x m → Stands rows x m
    to_m (old h) = h
    to_m (joined h k) = h

    from_m : {y : Node} → Came m y → Stands rows m y
    from_m (old h) = h
    from_m (joined h k) = k

    joins_m : Joins (turn rows m) m
    unfolding Joins
    joins_m x y h k = comes x y (to_m (came x m h)) (from_m (came m y k))

    joins_still : (w : Node) → Joins rows w → Joins (turn rows m) w
    unfolding Joins
    joins_still w j x y h k = step (came x w h) (came w y k)
      where
        step : Came x w → Came w y → Stands (turn rows m) x y
        step (old a) (old b) = stays x y (j x y a b)
        step (old a) (joined b c) = comes x y (j x m a b) c
        step (joined a b) (old c) = comes x y a (j m y b c)
        step (joined a b) (joined c d) = comes x y a d

  -- all turns
  stays_through : (ms : List Node) (rows : List (List Bool)) (x y : Node) → Stands rows x y → Stands (through nodes ms rows) x y
  unfolding through turn
  stays_through [] rows x y h = h
  stays_through (m ∷ ms) rows x y h = stays_through ms (turn rows m) x y (stays rows m x y h)

  joins_through : (ms : List Node) (rows : List (List Bool)) (w : Node) → Joins rows w ⊎ Memᴰ w ms → Joins (through nodes ms rows) w
  unfolding through turn
  joins_through [] rows w (inl j) = j
  joins_through [] rows w (inr m) = absurd (Memᴰ.not-nil m)
  joins_through (m ∷ ms) rows w (inl j) = joins_through ms (turn rows m) w (inl (joins_still rows m w j))
  joins_through (m ∷ ms) rows w (inr i) = step (λ c. joins_through ms (turn rows m) w c) (Memᴰ.cases_cons i)
    where
      step : (Joins (turn rows m) w ⊎ Memᴰ w ms → Joins (through nodes ms (turn rows m)) w) → (w ≡ m) ⊎ Memᴰ w ms → Joins (through nodes ms (turn rows m)) w
      step rest (inl e) = rest (inl (subst (λ z. Joins (turn rows m) z) (sym e) (joins_m rows m)))
      step rest (inr k) = rest (inr k)

  module _ (R : Relation) where
    -- the smallest reflexive and transitive relation with R on the nodes
    abbrev pub Reaches : Node → Node → Type 0
    Reaches = Closed (λ x. Memᴰ x nodes) (On nodes R)

    sound_through : (ms : List Node) (rows : List (List Bool)) → ((x y : Node) → Stands rows x y → Reaches x y) → (x y : Node) → Stands (through nodes ms rows) x y → Reaches x y
    unfolding through turn
    sound_through [] rows f x y h = f x y h
    sound_through (m ∷ ms) rows f x y h = sound_through ms (turn rows m) (λ x y k. step x y (came rows m x y k)) x y h
      where
        step : (x y : Node) → Came rows m x y → Reaches x y
        step x y (old k) = f x y k
        step x y (joined k l) = on (f x m k) (f m y l)

    unfoldable starts : List (List Bool)
    starts = rows_of nodes (λ x y. same_node x y || R x y)

    starts_sound : (x y : Node) → Stands starts x y → Reaches x y
    unfolding starts
    starts_sound x y h = step (looked_out nodes (λ x y. same_node x y || R x y) h)
      where
        cases : Memᴰ x nodes → Memᴰ y nodes → (same_node x y ≡ true) ⊎ (R x y ≡ true) → Reaches x y
        cases m n (inl e) = subst (λ z. Reaches x z) (same_node_lem x y e) (here m)
        cases m n (inr e) = one (record { from = m; to = n; by = e })

        step : On nodes (λ x y. same_node x y || R x y) x y → Reaches x y
        step o = cases o.from o.to (or_cases (same_node x y) (R x y) o.by)

    starts_same : (x : Node) → Memᴰ x nodes → Stands starts x x
    unfolding starts
    starts_same x m = looked_in nodes (λ x y. same_node x y || R x y) (record { from = m; to = m; by = or_left (same_node x x) (R x x) (same_node_refl x) })

    starts_with : {x y : Node} → On nodes R x y → Stands starts x y
    unfolding starts
    starts_with {x} {y} o = looked_in nodes (λ x y. same_node x y || R x y) (record { from = o.from; to = o.to; by = or_right (same_node x y) (R x y) o.by })

    pub closure_sound : (x y : Node) → looked nodes (closure nodes R) x y ≡ true → Reaches x y
    unfolding closure starts
    closure_sound x y h = sound_through nodes starts starts_sound x y h

    pub closure_has : {x y : Node} → Reaches x y → looked nodes (closure nodes R) x y ≡ true
    unfolding closure starts Joins
    closure_has (here {x} m) = stays_through nodes starts x x (starts_same x m)
    closure_has (one {x} {y} o) = stays_through nodes starts x y (starts_with o)
    closure_has (on {x} {y} {z} p q) =
        let h = closure_has p in
        joins_through nodes starts y (inr (looked_to nodes (closure nodes R) x y h)) x z h (closure_has q)
