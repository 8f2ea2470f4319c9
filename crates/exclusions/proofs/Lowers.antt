-- What the exclusions come to: down both sides, the empty nodes, then down again; and the one ruleset of all the passes.
use Prim.Native.Nat.{ℕ}
use mathlib.Core.Path.{◌≡◌, sym, subst, ◌∙◌}
use mathlib.Core.Bool.{Bool, true, false, false≢true}
use mathlib.Core.Logic.{◌⊎◌, inl, inr}
use mathlib.Core.List.Memᴰ
use mathlib.Core.List.{List, [], ◌∷◌, ◌++◌, Memᴰ}
use borrow.Author.Rules.{rules}
use Rattle.tables.specs.Bits.{has, Has, Added, CameAdded}
use Rattle.tables.specs.Bits.CameAdded.{old_one, new_one}
use Rattle.tables.specs.Listed.{nodes_of, Listed}
use Rattle.tables.proofs.OfNodes.{in_nodes}
use Rattle.tables.proofs.Words.{in_row}
use Rattle.exclusions.specs.Lowering.{Transitive, Order, Even, Down, Widened, Either, Mirrored, Meets, Spreads, CameEmptied, EmptiedRow, Emptied, EmptiedBy, Shut, Shuts}
use Rattle.exclusions.specs.Lowering.Down.{at_once, below}
use Rattle.exclusions.specs.Lowering.Either.{this_way, other_way}
use Rattle.exclusions.specs.Lowering.CameEmptied.{at_once as was-there, leads as leads-there}
use Rattle.exclusions.specs.Lowering.Emptied.{at_once as was, leads}
use Rattle.exclusions.specs.Lowering.Shut.{apart, void}
use Rattle.exclusions.proofs.Mirroring.{given_start, given_on, mirrored_start, mirrored_on}
use Rattle.exclusions.proofs.Taking.{taken_start, taken_on, widened_start, widened_on}

-- down both sides
module _ (c r : ℕ) (by : List ℕ) where
  pub spread_both : (old mid back new : List ℕ) → Widened by (nodes_of c r) old mid → Mirrored (nodes_of c r) mid back → Widened by (nodes_of c r) back new → Spreads c r by old new
  spread_both old mid back new a m b = record { sound = sound_of; whole = whole_of }
    where
      -- what is in the table after the first time down
      first : Order c r by → Even c r old → (u v : ℕ) → Down by old u v → Meets by old u v
      first o s u v (at_once h) =
          record { left = u; right = v; down_left = o.same u (s.within.from u v h); down_right = o.same v (s.within.to u v h); met = h }
      first o s u v (below w h k) = record { left = w; right = v; down_left = h; down_right = o.same v (s.within.to w v k); met = k }

      turn_round : Order c r by → Even c r old → (u v : ℕ) → Meets by old u v → Meets by old v u
      turn_round o s u v h =
          record { left = h.right; right = h.left; down_left = h.down_right; down_right = h.down_left; met = s.symmetric h.left h.right h.met }

      second : Order c r by → Even c r old → (u v : ℕ) → Either mid u v → Meets by old u v
      second o s u v (this_way h) = first o s u v (a.came o.transitive u v h)
      second o s u v (other_way h) = turn_round o s v u (first o s v u (a.came o.transitive v u h))

      third : Order c r by → Even c r old → (u v : ℕ) → Down by back u v → Meets by old u v
      third o s u v (at_once h) = second o s u v (m.came u v h)
      third o s u v (below w h k) =
          let e = second o s w v (m.came w v k) in
          record { left = e.left; right = e.right; down_left = o.transitive u w e.left h e.down_left; down_right = e.down_right; met = e.met }

      sound_of : Order c r by → Even c r old → (x y : ℕ) → Has new x y → Meets by old x y
      sound_of o s x y h = third o s x y (b.came o.transitive x y h)

      goes_down : {from to : List ℕ} → Widened by (nodes_of c r) from to → Order c r by → (x u v : ℕ) → Has by x u → Has from u v → Has to x v
      goes_down w o x u v h k = w.comes x u v (in_nodes c r x (o.within.from x u h)) h k

      goes_round : (u v : ℕ) → Listed c r u → Has mid u v → Has back v u
      goes_round u v f h = m.comes u v (in_nodes c r u f) h

      whole_of : Order c r by → Even c r old → (x y : ℕ) → Meets by old x y → Has new x y
      whole_of o s x y e =
          let u = e.left in
          let v = e.right in
          let h = goes_down a o y v u e.down_right (s.symmetric u v e.met) in
          let k = goes_round y u (o.within.from y v e.down_right) h in
          goes_down b o x u y e.down_left k

-- the empty nodes
module _ (on : List ℕ) where
  pub row_start : (t : List ℕ) (w : ℕ) → EmptiedRow on [] t t w
  row_start t w = record { stays = λ u v h. h; comes = λ z n. absurd (Memᴰ.not-nil n); came = λ u v h. was-there h }

  module _ (zs old t : List ℕ) (z w : ℕ) (p : EmptiedRow on zs old t w) (b : Bool) (e : b ≡ has on z w) where
    pub row_over : b ≡ false → EmptiedRow on (zs ++ z ∷ []) old t w
    row_over f = record { stays = p.stays; comes = λ y n h. step y (Memᴰ.append_cases zs n) h; came = p.came }
      where
        step : (y : ℕ) → Memᴰ y zs ⊎ Memᴰ y (z ∷ []) → Has on y w → Has t y y
        step y (inl n) h = p.comes y n h
        step y (inr n) h = absurd (false≢true (sym f ∙ e ∙ subst (λ a. Has on a w) (Memᴰ.eq_of_singleton n) h))

    pub row_on : b ≡ true → (new : List ℕ) → Added t new z z → EmptiedRow on (zs ++ z ∷ []) old new w
    row_on f new q =
        record {
          stays = λ u v h. q.stays u v (p.stays u v h);
          comes = λ y n h. step y (Memᴰ.append_cases zs n) h;
          came = λ u v h. back u v (q.came u v h);
        }
      where
        there : Has on z w
        there = sym e ∙ f

        step : (y : ℕ) → Memᴰ y zs ⊎ Memᴰ y (z ∷ []) → Has on y w → Has new y y
        step y (inl n) h = q.stays y y (p.comes y n h)
        step y (inr n) h = subst (λ a. Has new a a) (sym (Memᴰ.eq_of_singleton n)) (q.comes (in_row on z w there) (in_row on z w there))

        back : (u v : ℕ) → CameAdded t z z u v → CameEmptied on old w u v
        back u v (old_one h) = p.came u v h
        back u v (new_one f g) = leads-there (f ∙ sym g) (subst (λ a. Has on a w) (sym f) there)

  module _ (zs : List ℕ) where
    pub emptied_start : (t : List ℕ) → EmptiedBy on zs [] t t
    emptied_start t = record { stays = λ u v h. h; comes = λ z w n m. absurd (Memᴰ.not-nil m); came = λ tr u v h. was h }

    module _ (ws old t : List ℕ) (w : ℕ) (p : EmptiedBy on zs ws old t) (b : Bool) (e : b ≡ has t w w) where
      pub emptied_over : b ≡ false → EmptiedBy on zs (ws ++ w ∷ []) old t
      emptied_over f = record { stays = p.stays; comes = λ z x n m h k. step z x n (Memᴰ.append_cases ws m) h k; came = p.came }
        where
          step : (z x : ℕ) → Memᴰ z zs → Memᴰ x ws ⊎ Memᴰ x (w ∷ []) → Has old x x → Has on z x → Has t z z
          step z x n (inl m) h k = p.comes z x n m h k
          step z x n (inr m) h k = absurd (false≢true (sym f ∙ e ∙ subst (λ y. Has t y y) (Memᴰ.eq_of_singleton m) (p.stays x x h)))

      pub emptied_on : b ≡ true → (new : List ℕ) → EmptiedRow on zs t new w → EmptiedBy on zs (ws ++ w ∷ []) old new
      emptied_on f new q =
          record {
            stays = λ u v h. q.stays u v (p.stays u v h);
            comes = λ z x n m h k. step z x n (Memᴰ.append_cases ws m) h k;
            came = λ tr u v h. back tr u v (q.came u v h);
          }
        where
          step : (z x : ℕ) → Memᴰ z zs → Memᴰ x ws ⊎ Memᴰ x (w ∷ []) → Has old x x → Has on z x → Has new z z
          step z x n (inl m) h k = q.stays z z (p.comes z x n m h k)
          step z x n (inr m) h k = q.comes z n (subst (Has on z) (Memᴰ.eq_of_singleton m) k)

          further : Transitive on → (u v : ℕ) → u ≡ v → Has on u w → Emptied on old w w → Emptied on old u v
          further tr u v g h (was k) = leads w g h k
          further tr u v g h (leads y i k l) = leads y g (tr u w y h k) l

          back : Transitive on → (u v : ℕ) → CameEmptied on t w u v → Emptied on old u v
          back tr u v (was-there h) = p.came tr u v h
          back tr u v (leads-there g h) = further tr u v g h (p.came tr w w (sym e ∙ f))

-- all exclusions
pub shuts : (c r : ℕ) (by on old mid full new : List ℕ) → Spreads c r by old mid → EmptiedBy on (nodes_of c r) (nodes_of c r) mid full → Spreads c r by full new → Shuts c r by on old new
shuts c r by on old mid full new a m b = record { sound = sound_of; whole = whole_of }
  where
    mid_even : Order c r by → Even c r old → Even c r mid
    mid_even o s =
        record {
          within =
              record {
                from = λ u v h. o.within.from u (a.sound o s u v h).left (a.sound o s u v h).down_left;
                to = λ u v h. o.within.from v (a.sound o s u v h).right (a.sound o s u v h).down_right;
              };
          symmetric = λ u v h.
              let e = a.sound o s u v h in
              a.whole o s v u
              (record { left = e.right; right = e.left; down_left = e.down_right; down_right = e.down_left; met = s.symmetric e.left e.right e.met });
        }

    from_full : Order c r on → Even c r mid → (u v : ℕ) → Emptied on mid u v → Listed c r u
    from_full p s u v (was h) = s.within.from u v h
    from_full p s u v (leads w f h k) = p.within.from u w h

    to_full : Order c r on → Even c r mid → (u v : ℕ) → Emptied on mid u v → Listed c r v
    to_full p s u v (was h) = s.within.to u v h
    to_full p s u v (leads w f h k) = subst (Listed c r) f (p.within.from u w h)

    round_full : Order c r on → Even c r mid → (u v : ℕ) → Has full u v → Emptied on mid u v → Has full v u
    round_full p s u v g (was h) = m.stays v u (s.symmetric u v h)
    round_full p s u v g (leads w f h k) = subst (λ y. Has full y u) f (subst (λ y. Has full u y) (sym f) g)

    full_even : Order c r on → Even c r mid → Even c r full
    full_even p s =
        record {
          within =
              record {
                from = λ u v h. from_full p s u v (m.came p.transitive u v h);
                to = λ u v h. to_full p s u v (m.came p.transitive u v h);
              };
          symmetric = λ u v h. round_full p s u v h (m.came p.transitive u v h);
        }

    opened : Order c r by → Even c r old → (x y : ℕ) (e : Meets by full x y) → Emptied on mid e.left e.right → Shut by on old x y
    opened o s x y e (was h) =
        let f = a.sound o s e.left e.right h in
        apart
        (record {
          left = f.left;
          right = f.right;
          down_left = o.transitive x e.left f.left e.down_left f.down_left;
          down_right = o.transitive y e.right f.right e.down_right f.down_right;
          met = f.met;
        })
    opened o s x y e (leads w f h k) =
        void e.left w e.down_left (subst (λ z. Has by y z) (sym f) e.down_right) h (a.sound o s w w k)

    sound_of : Order c r by → Order c r on → Even c r old → (x y : ℕ) → Has new x y → Shut by on old x y
    sound_of o p s x y h =
        let e = b.sound o (full_even p (mid_even o s)) x y h in
        opened o s x y e (m.came p.transitive e.left e.right e.met)

    whole_of : Order c r by → Order c r on → Even c r old → (x y : ℕ) → Shut by on old x y → Has new x y
    whole_of o p s x y (apart e) =
        b.whole o (full_even p (mid_even o s)) x y
        (record {
          left = x;
          right = y;
          down_left = o.same x (o.within.from x e.left e.down_left);
          down_right = o.same y (o.within.from y e.right e.down_right);
          met = m.stays x y (a.whole o s x y e);
        })
    whole_of o p s x y (void z w h k l e) =
        let f = p.within.from z w l in
        let g = p.within.to z w l in
        let at-z = m.comes z w (in_nodes c r z f) (in_nodes c r w g) (a.whole o s w w e) l in
        b.whole o (full_even p (mid_even o s)) x y (record { left = z; right = z; down_left = h; down_right = k; met = at-z })

pub ruleset lowers = (taken_start, taken_on, widened_start, widened_on, given_start, given_on, mirrored_start, mirrored_on, spread_both, row_start, row_over, row_on, emptied_start, emptied_over, emptied_on, shuts, rules)
