-- A walk over numbered items: what the whole comes to is what the items from this number on come to from here. Every loop that judges a file's items
-- has this invariant and takes its turn by these laws; the item's number is how many came before it, which `of_item_lem` says of every refusal.
use Prim.Native.Nat.{ℕ, zero, suc, ◌+◌, ◌-◌, ◌≤◌, ◌<◌}
use mathlib.Core.Path.{◌≡◌, refl, sym, ap, ◌∙◌}
use native.Mathlib.Omega.{arith}
use Rattle.number.specs.Answer.{Answer, of_item, about, ◌then◌}
use Rattle.std.specs.Prelude.{Ok, Err}
use Rattle.number.specs.declared.refusal.Refusal.{Refusal}
use Rattle.number.proofs.Answers.{never, same_refused, about_given}
use Rattle.number.proofs.Refusing.{Refuses, refuses_gives, refuses_about, refuses_then}
use Rattle.site.specs.Items.{items_from, OfItem}

pub record Walked {A : Type 0} (read : A → Answer A) (whole : Answer A) (all k : ℕ) (here : A) : Type 0 where
  pub same : whole ≡ items_from read k (all - k) here
  pub within : k ≤ all

module _ {A : Type 0} (read : A → Answer A) where
  pub walk_starts : (all : ℕ) (here : A) → Walked read (items_from read 0 all here) all 0 here
  walk_starts all here =
      let every : all ≡ all - 0 = omega arith in
      record { same = ap (λ (n : ℕ). items_from read 0 n here) every; within = omega arith }

  module _ (whole : Answer A) (all k : ℕ) (here : A) (so : Walked read whole all k here) where
    pub walk_ends : all ≤ k → whole ≡ Ok here
    unfolding items_from
    walk_ends over =
        let none : all - k ≡ 0 = omega arith in
        so.same ∙ ap (λ (n : ℕ). items_from read k n here) none

    module _ (more : k < all) where
      turn : whole ≡ (about k (read here) then λ there. items_from read (k + 1) (all - (k + 1)) there)
      unfolding items_from
      turn =
          let one : all - k ≡ suc (all - (k + 1)) = omega arith in
          so.same ∙ ap (λ (n : ℕ). items_from read k n here) one

      pub walk_refused : (r : Refusal) → about k (read here) ≡ Err r → whole ≡ Err r
      walk_refused r e = turn ∙ rw e

      pub walk_on : (there : A) → about k (read here) ≡ Ok there → Walked read whole all (k + 1) there
      walk_on there e = record { same = turn ∙ rw e; within = omega arith }

  -- a walk from any number on that was refused: after how many items, and by which one's refusal
  record Stops (k n : ℕ) (first : A) (r : Refusal) : Type 0 where
    many : ℕ
    due : many < n
    up_to : A
    before : items_from read k many first ≡ Ok up_to
    fault : Refusal
    refused : read up_to ≡ Err fault
    named : r ≡ of_item (k + many) fault

  stops : (k n : ℕ) (first : A) (r : Refusal) → items_from read k n first ≡ Err r → Stops k n first r
  unfolding items_from
  stops k zero first r e = absurd (never (sym e))
  stops k (suc n) first r e = from (λ there. stops (k + 1) n there r) (read first) refl e
    where
      from : ((there : A) → items_from read (k + 1) n there ≡ Err r → Stops (k + 1) n there r) → (a : Answer A) → read first ≡ a → (about k a then λ there. items_from read (k + 1) n there) ≡ Err r → Stops k (suc n) first r
      from rest (Err q) is e =
          let here : k ≡ k + 0 = omega arith in
          record { many = 0; due = omega arith; up_to = first; before = refl; fault = q; refused = is; named = sym (same_refused e) ∙ ap (λ (i : ℕ). of_item i q) here }
      from rest (Ok there) is e =
          let later = rest there e in
          let on : k + 1 + later.many ≡ k + suc later.many = omega arith in
          record {
            many = suc later.many;
            due = omega (arith, later.due);
            up_to = later.up_to;
            before = rw is later.before;
            fault = later.fault;
            refused = later.refused;
            named = later.named ∙ ap (λ (i : ℕ). of_item i later.fault) on;
          }

  -- the number in a refusal is that of the item there
  pub of_item_lem : (n : ℕ) (first : A) (r : Refusal) → items_from read 0 n first ≡ Err r → OfItem read n first r
  of_item_lem n first r e =
      let s = stops 0 n first r e in
      let same : 0 + s.many ≡ s.many = omega arith in
      record { item = s.many; due = s.due; up_to = s.up_to; before = s.before; fault = s.fault; refused = s.refused; named = s.named ∙ ap (λ (i : ℕ). of_item i s.fault) same }

  -- what holds of each item's refusal, whichever its number, holds of the walk's; `Here` is what is known of where an item is read from
  module _ (P : Refusal → Type 0) (any_item : (k : ℕ) (r : Refusal) → P r → P (of_item k r)) (Here : A → Type 0) (each : (x : A) → Here x → Refuses P (read x))
      (on : (x y : A) → Here x → read x ≡ Ok y → Here y) where
    pub items_refuse : (k n : ℕ) (x : A) → Here x → Refuses P (items_from read k n x)
    unfolding items_from
    items_refuse k zero x here = refuses_gives P x
    items_refuse k (suc n) x here =
        refuses_then P (about k (read x)) (λ y. items_from read (k + 1) n y) (refuses_about P any_item k (read x) (each x here))
        (λ y e. items_refuse (k + 1) n y (on x y here (about_given k (read x) e)))
