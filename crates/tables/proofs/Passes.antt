-- What each turn of the passes over a table does. Going through a node keeps the nodes before it gone through: of two entries that meet at one
-- of those, each was there or came by way of the new node.
use Prim.Native.Nat.{ℕ, ◌<◌}
use mathlib.Core.Path.{◌≡◌, sym, subst, ◌∙◌}
use mathlib.Core.Bool.{Bool, true, false, false≢true}
use mathlib.Core.Logic.{◌⊎◌, inl, inr}
use mathlib.Core.List.Memᴰ
use mathlib.Core.List.{List, [], ◌∷◌, ◌++◌, Memᴰ}
use borrow.Author.Rules.{rules}
use Rattle.steps.specs.Closed.Closed.{here, one, on}
use Rattle.tables.specs.Bits.{has, Has, Added, CameAdded, Joined, CameJoined}
use Rattle.tables.specs.Bits.CameAdded.{old_one, new_one}
use Rattle.tables.specs.Bits.CameJoined.{old_one as old-join, from_row}
use Rattle.tables.specs.Listed.{nodes_of, Listed}
use Rattle.tables.specs.Passes.{Through, Passed, CameReflected, Reflected, Within, Reach, Turned, Closes}
use Rattle.tables.specs.Passes.Through.{at_once, by_way}
use Rattle.tables.specs.Passes.CameReflected.{at_once as stood, itself}
use Rattle.tables.proofs.OfNodes.{in_nodes, of_nodes}
use Rattle.tables.proofs.Words.{in_row}

-- the rows that have m
to_way : {t : List ℕ} {m u : ℕ} → Through t m u m → Has t u m
to_way (at_once h) = h
to_way (by_way h k) = h

from_way : {t : List ℕ} {m v : ℕ} → Through t m m v → Has t m v
from_way (at_once h) = h
from_way (by_way h k) = k

pub passed_start : (t : List ℕ) (m : ℕ) → Passed [] t t m
passed_start t m = record { stays = λ u v h. h; comes = λ x v n. absurd (Memᴰ.not-nil n); came = λ u v h. at_once h }

module _ (xs old t : List ℕ) (m x : ℕ) (p : Passed xs old t m) (b : Bool) (e : b ≡ has t x m) where
  pub passed_over : b ≡ false → Passed (xs ++ x ∷ []) old t m
  passed_over f = record { stays = p.stays; comes = λ y v n h k. step y v (Memᴰ.append_cases xs n) h k; came = p.came }
    where
      step : (y v : ℕ) → Memᴰ y xs ⊎ Memᴰ y (x ∷ []) → Has old y m → Has old m v → Has t y v
      step y v (inl n) h k = p.comes y v n h k
      step y v (inr n) h k = absurd (false≢true (sym f ∙ e ∙ subst (λ z. Has t z m) (Memᴰ.eq_of_singleton n) (p.stays y m h)))

  pub passed_on : b ≡ true → (new : List ℕ) → Joined t new x m → Passed (xs ++ x ∷ []) old new m
  passed_on f new q =
      record {
        stays = λ u v h. q.stays u v (p.stays u v h);
        comes = λ y v n h k. step y v (Memᴰ.append_cases xs n) h k;
        came = λ u v h. back u v (q.came u v h);
      }
    where
      there : Has t x m
      there = sym e ∙ f

      step : (y v : ℕ) → Memᴰ y xs ⊎ Memᴰ y (x ∷ []) → Has old y m → Has old m v → Has new y v
      step y v (inl n) h k = q.stays y v (p.comes y v n h k)
      step y v (inr n) h k = subst (λ z. Has new z v) (sym (Memᴰ.eq_of_singleton n)) (q.comes (in_row t x m there) v (p.stays m v k))

      back : (u v : ℕ) → CameJoined t x m u v → Through old m u v
      back u v (old-join h) = p.came u v h
      back u v (from_row z h) = by_way (to_way (p.came u m (subst (λ w. Has t w m) (sym z) there))) (from_way (p.came m v h))

-- each node itself
pub reflected_start : (t : List ℕ) → Reflected [] t t
reflected_start t = record { stays = λ u v h. h; comes = λ x n. absurd (Memᴰ.not-nil n); came = λ u v h. stood h }

pub reflected_on : (xs old t new : List ℕ) (x : ℕ) → Reflected xs old t → Added t new x x → Reflected (xs ++ x ∷ []) old new
reflected_on xs old t new x p q =
    record {
      stays = λ u v h. q.stays u v (p.stays u v h);
      comes = λ y n s. step y (Memᴰ.append_cases xs n) s;
      came = λ u v h. back u v (q.came u v h);
    }
  where
    step : (y : ℕ) → Memᴰ y xs ⊎ Memᴰ y (x ∷ []) → y < 192 → Has new y y
    step y (inl n) s = q.stays y y (p.comes y n s)
    step y (inr n) s =
        let e = Memᴰ.eq_of_singleton n in
        subst (λ z. Has new z z) (sym e) (q.comes (subst (λ z. z < 192) e s) (subst (λ z. z < 192) e s))

    more : {u v : ℕ} → CameReflected xs old u v → CameReflected (xs ++ x ∷ []) old u v
    more (stood h) = stood h
    more (itself n e) = itself (Memᴰ.append_left (x ∷ []) n) e

    back : (u v : ℕ) → CameAdded t x x u v → CameReflected (xs ++ x ∷ []) old u v
    back u v (old_one h) = more (p.came u v h)
    back u v (new_one f a) = itself (Memᴰ.append_right xs (Memᴰ.head f)) (f ∙ sym a)

-- all nodes
module _ (c r : ℕ) where
  reach_from : {t : List ℕ} {u v : ℕ} → Within c r t → Reach c r t u v → Listed c r u
  reach_from w (here m) = m
  reach_from w (one {x} {y} h) = w.from x y h
  reach_from w (on p q) = reach_from w p

  reach_to : {t : List ℕ} {u v : ℕ} → Within c r t → Reach c r t u v → Listed c r v
  reach_to w (here m) = m
  reach_to w (one {x} {y} h) = w.to x y h
  reach_to w (on p q) = reach_to w q

  pub turned_start : (t : List ℕ) → Turned c r [] t t
  turned_start t = record { stays = λ u v h. h; sound = λ u v h. one h; joins = λ w x u v n. absurd (Memᴰ.not-nil n) }

  pub turned_on : (xs old t new : List ℕ) (m : ℕ) → Turned c r xs old t → Passed (nodes_of c r) t new m → Turned c r (xs ++ m ∷ []) old new
  turned_on xs old t new m p q =
      record {
        stays = λ u v h. q.stays u v (p.stays u v h);
        sound = λ u v h. back u v (q.came u v h);
        joins = λ w x u v n h k. step w x u v (Memᴰ.append_cases xs n) h k;
      }
    where
      back : (u v : ℕ) → Through t m u v → Reach c r old u v
      back u v (at_once h) = p.sound u v h
      back u v (by_way h j) = on (p.sound u m h) (p.sound m v j)

      way : Within c r old → (u v : ℕ) → Has t u m → Has t m v → Has new u v
      way w u v h j = q.comes u v (in_nodes c r u (reach_from w (p.sound u m h))) h j

      meet : Within c r old → (x u v : ℕ) → Memᴰ x xs → Through t m u x → Through t m x v → Has new u v
      meet w x u v n (at_once h) (at_once j) = q.stays u v (p.joins w x u v n h j)
      meet w x u v n (at_once h) (by_way j l) = way w u v (p.joins w x u m n h j) l
      meet w x u v n (by_way h j) (at_once l) = way w u v h (p.joins w x m v n j l)
      meet w x u v n (by_way h j) (by_way l k) = way w u v h k

      step : Within c r old → (x u v : ℕ) → Memᴰ x xs ⊎ Memᴰ x (m ∷ []) → Has new u x → Has new x v → Has new u v
      step w x u v (inl n) h j = meet w x u v n (q.came u x h) (q.came x v j)
      step w x u v (inr n) h j =
          let e = Memᴰ.eq_of_singleton n in
          way w u v (to_way (q.came u m (subst (Has new u) e h))) (from_way (q.came m v (subst (λ y. Has new y v) e j)))

  -- the closure
  pub closed : (old mid new : List ℕ) → Reflected (nodes_of c r) old mid → Turned c r (nodes_of c r) mid new → Closes c r old new
  closed old mid new f t = record { sound = λ u v h. widen (t.sound u v h); whole = λ w u v h. whole_of w h }
    where
      -- an entry of the table after step 1
      first : (u v : ℕ) → u < 192 → CameReflected (nodes_of c r) old u v → Reach c r old u v
      first u v s (stood h) = one h
      first u v s (itself n e) = subst (λ z. Reach c r old u z) e (here (of_nodes c r u n s))

      widen : {u v : ℕ} → Reach c r mid u v → Reach c r old u v
      widen (here m) = here m
      widen (one {x} {y} h) = first x y (in_row mid x y h) (f.came x y h)
      widen (on p q) = on (widen p) (widen q)

      still : Within c r old → Within c r mid
      still w =
          record {
            from = λ u v h. reach_from w (first u v (in_row mid u v h) (f.came u v h));
            to = λ u v h. reach_to w (first u v (in_row mid u v h) (f.came u v h));
          }

      whole_of : Within c r old → {u v : ℕ} → Reach c r old u v → Has new u v
      whole_of w (here {x} l) = t.stays x x (f.comes x (in_nodes c r x l) l.small)
      whole_of w (one {x} {y} h) = t.stays x y (f.stays x y h)
      whole_of w (on {x} {y} {z} p q) = t.joins (still w) y x z (in_nodes c r y (reach_to w p)) (whole_of w p) (whole_of w q)

pub ruleset passes = (passed_start, passed_over, passed_on, reflected_start, reflected_on, turned_start, turned_on, closed, rules)
