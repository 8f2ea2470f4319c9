-- What is handed out of a bundle: the facts of an accepted one, which are as many as its count says and fit the row.
use Prim.Native.Nat.{ℕ, ◌≤◌}
use mathlib.Core.Path.{◌≡◌}
use mathlib.Core.Bool.{cond}
use mathlib.Core.List.{List}
use lib.ListN.{length}
use lib.Dec.{leb}
use borrow.Author.Tests.{leb-true}
use Rattle.std.specs.Prelude.{Ok, Err}
use Rattle.number.specs.Answer.{refusal}
use Rattle.number.specs.declared.refusal.Fault.TheVariants.{Room}
use Rattle.number.specs.declared.refusal.Side.TheVariants.{Call}
use Rattle.number.proofs.Answers.{given_once as same-given, went, passed}
use Rattle.rule.specs.declared.head.Head.{Head}
use Rattle.bundle.specs.Bundle.{facts_of}
use Rattle.bundle.specs.Opened.{opening, Accepted}
use Rattle.bundle.specs.declared.facts.Facts.{Facts}
use Rattle.bundle.proofs.Accepted.{accepted_count}
use Rattle.bundle.proofs.OfOpened.{opening_accepted}
use Rattle.records.specs.Rows.{hand_out}

pub record HandedOut (rules bundle : List ℕ) (room : ℕ) (b : Facts) : Type 0 where
  pub head : Head
  pub accepted : Accepted rules bundle head b
  pub fits : b.count ≤ room
  pub all : length (facts_of bundle b) ≡ b.count

pub handed_out : (rules bundle : List ℕ) (room : ℕ) (b : Facts) → hand_out rules bundle room ≡ Ok b → HandedOut rules bundle room b
unfolding hand_out
handed_out rules bundle room b e =
    let w = went (opening rules bundle) (λ i. cond (leb i.facts.count room) (Ok i.facts) (Err (refusal Room Call 0))) e in
    let t = passed (leb w.value.facts.count room) (Ok w.value.facts) (refusal Room Call 0) w.rest in
    let same : w.value.facts ≡ b = same-given t.answer in
    let acc : Accepted rules bundle w.value.head b = rw same at (opening_accepted rules bundle w.value w.first) in
    let fits : w.value.facts.count ≤ room = leb-true w.value.facts.count room t.test in
    record {
      head = w.value.head;
      accepted = acc;
      fits = rw same at fits;
      all = accepted_count w.value.head bundle b acc.of_bundle;
    }
