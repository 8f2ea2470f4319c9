-- Demand 1, the refusals of files: both files are read, or reading them is refused; every operation asks the files first, so that it gives the refusal
-- that reading gives.
use Prim.Native.Nat.{ℕ}
use mathlib.Core.Path.{◌≡◌, refl, sym, ap, ◌∙◌}
use mathlib.Core.Logic.{inl, inr}
use mathlib.Core.List.{List}
use lib.ListN.{length}
use Rattle.number.specs.Answer.{Answer, ◌then◌, over}
use Rattle.std.specs.Prelude.{Ok, Err}
use Rattle.number.specs.declared.refusal.Refusal.{Refusal}
use Rattle.number.proofs.Answers.{Halts, halts, never, same_refused}
use Rattle.number.proofs.Answers.Halts.{at_first, at_rest}
use Rattle.site.specs.declared.fact.Fact.{Fact}
use Rattle.rules.specs.RuleFile.{check_rules, site_of}
use Rattle.rule.specs.declared.head.Head.{Head}
use Rattle.rules.proofs.OfFaults.{rules_fault}
use Rattle.bundle.specs.Bundle.{facts_of, check_bundle, read_bundle}
use Rattle.bundle.specs.Opened.{opening}
use Rattle.bundle.specs.declared.facts.Facts.{Facts}
use Rattle.bundle.specs.declared.open.Inputs.{Inputs}
use Rattle.bundle.proofs.OfFaults.{bundle_fault}
use Rattle.bundle.proofs.OfOpened.{opening_accepted}
use Rattle.records.specs.Reading.{reader_start}
use Rattle.records.specs.Rows.{hand_out, hand_records}
use Rattle.records.specs.declared.record.Record.{Record}
use Rattle.steps.specs.Tables.{Follows, follows_of}
use Rattle.clean.specs.Operations.{given, Marked, marking, counting, asking, having, joining, keeping}
use Rattle.dzyunagor.specs.Promises.{CheckBundle, Count, Ask, Has, Joins, ReaderStart}
use Rattle.shown.specs.Shown.{shown_counts, shown_asked, shown_answer, shown_length, shown_start}
use Rattle.shown.specs.declared.shapes.DzyCounts.{DzyCounts}
use Rattle.shown.specs.declared.shapes.DzyAsked.{DzyAsked}
use Rattle.shown.specs.declared.shapes.DzyAnswer.{DzyAnswer}
use Rattle.shown.specs.declared.shapes.DzyLength.{DzyLength}
use Rattle.shown.specs.declared.shapes.DzyStart.{DzyStart}
use Rattle.demands.specs.Demands.{RefusesFiles, ReadOrRefused, ItemThere}

module _ (rules bundle : List ℕ) (q : Refusal) (e : opening rules bundle ≡ Err q) where
  -- whatever is asked of the files, their refusal is the answer
  module _ {A : Type 0} (k : Head → Follows → List Fact → Answer A) where
    by_bundle : (h : Head) (c : Answer Facts) → ◌≡◌ {A = Answer Inputs} (c then λ b. Ok (record { head = h; facts = b })) (Err q)
        → (over (facts_of bundle) c then λ facts. k h (follows_of (site_of rules h)) facts) ≡ Err q
    by_bundle h (Ok b) z = absurd (never (sym z))
    by_bundle h (Err r) z = ap Err (same_refused z)

    by_rules : (c : Answer Head) → ◌≡◌ {A = Answer Inputs} (c then λ h. check_bundle h bundle then λ b. Ok (record { head = h; facts = b })) (Err q)
        → (c then λ h. over (facts_of bundle) (check_bundle h bundle) then λ facts. k h (follows_of (site_of rules h)) facts) ≡ Err q
    by_rules (Ok h) z = by_bundle h (check_bundle h bundle) z
    by_rules (Err r) z = ap Err (same_refused z)

    given_refused : given rules bundle k ≡ Err q
    unfolding given opening read_bundle
    given_refused = by_rules (check_rules rules) e

  hand_refused : (room : ℕ) → hand_records rules bundle room ≡ Err q
  unfolding hand_records hand_out
  hand_refused room = rw e

  start_refused : reader_start rules bundle ≡ Err q
  unfolding reader_start
  start_refused = rw e

  refuses_files : RefusesFiles rules bundle q
  unfolding CheckBundle Count Ask Has Joins ReaderStart marking counting asking having joining keeping
  refuses_files =
      record {
        check_bundle_lem = λ r p. ap (λ (x : DzyLength). x.refused) (p ∙ ap (λ (o : Answer Inputs). shown_length (over (λ i. i.facts.count) o)) e);
        mark = λ marks partners marks' partners' r p. ap (λ (x : DzyCounts). x.refused) (p.answer ∙ ap (λ (m : Answer Marked). shown_counts (over (λ x. x.counts) m)) (given_refused _));
        count = λ r p. ap (λ (x : DzyCounts). x.refused) (p ∙ ap shown_counts (given_refused _));
        ask = λ n r p. ap (λ (x : DzyAsked). x.refused) (p ∙ ap shown_asked (given_refused _));
        has = λ code thing r p. ap (λ (x : DzyAnswer). x.refused) (p ∙ ap shown_answer (given_refused _));
        joins = λ code from to r p. ap (λ (x : DzyAnswer). x.refused) (p ∙ ap shown_answer (given_refused _));
        write_kept = λ out out' r p. ap (λ (x : DzyLength). x.refused) (p.answer ∙ ap (λ (b : Answer (List ℕ)). shown_length (over length b)) (given_refused {A = List ℕ} _));
        records = λ row row' r p. ap (λ (x : DzyLength). x.refused) (p.answer ∙ ap (λ (b : Answer (List Record)). shown_length (over length b)) (hand_refused (length row)));
        reader_start_lem = λ r p. ap (λ (x : DzyStart). x.refused) (p ∙ ap shown_start start_refused);
      }

-- the refusal is about the item there
item_there : (rules bundle : List ℕ) (q : Refusal) → opening rules bundle ≡ Err q → ItemThere rules bundle q
unfolding opening
item_there rules bundle q e = of_files (halts (check_rules rules) _ q e)
  where
    of_bundle : (h : Head) → check_rules rules ≡ Ok h → Halts {B = Inputs} (check_bundle h bundle) (λ b. Ok (record { head = h; facts = b })) q → ItemThere rules bundle q
    of_bundle h accepted (at_first f) = inr (h, accepted, bundle_fault h bundle q f)
    of_bundle h accepted (at_rest b f g) = absurd (never (sym g))

    of_files : Halts {B = Inputs} (check_rules rules) (λ h. check_bundle h bundle then λ b. Ok (record { head = h; facts = b })) q → ItemThere rules bundle q
    of_files (at_first f) = inl (rules_fault rules q f)
    of_files (at_rest h f g) = of_bundle h f (halts (check_bundle h bundle) _ q g)

pub read_or_refused : (rules bundle : List ℕ) → ReadOrRefused rules bundle
unfolding read_bundle
read_or_refused rules bundle = go (opening rules bundle) refl
  where
    go : (o : Answer Inputs) → opening rules bundle ≡ o → ReadOrRefused rules bundle
    go (Ok i) e =
        let a = opening_accepted rules bundle i e in
        inl (record { head = i.head; facts = facts_of bundle i.facts; rules_read = a.of_rules; bundle_read = ap (over (facts_of bundle)) a.of_bundle })
    go (Err q) e = inr (q, e, refuses_files rules bundle q e, item_there rules bundle q e)
