-- Demand 3: from what C sees to worlds. What C sees is what the definitions compute for the files that were read (`Computed`); of these worlds decide
-- (`demand_3`).
use Prim.Native.Nat.{ℕ, ◌<◌}
use mathlib.Core.Path.{◌≡◌, refl, sym, ap, subst, subst⁻¹, subst₂, ◌∙◌}
use mathlib.Core.Bool.{Bool, true, false, cond}
use mathlib.Core.Logic.{◌↔◌}
use mathlib.Core.List.{List, Memᴰ}
use lib.Dec.{ltb}
use lib.ListN.{length, get_or, take}
use native.Mathlib.Omega.{arith}
use borrow.Author.Tests.{ltb-true, lt-ltb}
use Rattle.number.specs.Answer.{over}
use Rattle.std.specs.Prelude.{Some, None, Ok}
use Rattle.number.proofs.Laid.{laid_taken}
use Rattle.number.proofs.Answers.{over_given}
use Rattle.site.specs.Codes.{concept_of, role_of}
use Rattle.site.specs.declared.fact.Fact.{Fact}
use Rattle.site.proofs.Lists.{get_or_within}
use Rattle.bundle.specs.Bundle.{facts_of, check_bundle, read_bundle, bundle_of}
use Rattle.steps.specs.Tables.{Follows, follows_of}
use Rattle.clashes.specs.Types.{itself, Typ}
use Rattle.clashes.specs.Marks.{mark, partner, kept, support}
use Rattle.clean.specs.Operations.{reply_of}
use Rattle.operations.proofs.OfKeptAgain.{kept_reads}
use Rattle.worlds.specs.Worlds.{World, Is, Joins as Joined, Consistent, Always}
use Rattle.worlds.specs.Demand3.{SiteDecided}
use Rattle.worlds.proofs.Demand.{demand_3}
use Rattle.shown.specs.Shown.{shown_reply}
use Rattle.shown.specs.declared.shapes.DzyCounts.{DzyCounts}
use Rattle.shown.specs.declared.shapes.DzyAsked.{DzyAsked}
use Rattle.shown.specs.declared.shapes.DzyAnswer.{DzyAnswer}
use Rattle.shown.specs.declared.shapes.DzyLength.{DzyLength}
use Rattle.dzyunagor.specs.Promises.{Mark, Ask, Has, Joins, WriteKept}
use Rattle.demands.specs.Demands.{Done, BothRead, site, KeptFacts, FactByWorlds, WorldsDecide}
use Rattle.demands.specs.Said.{Numbered}
use Rattle.demands.proofs.BySteps.{get_or_any, those_once, kept_those}
use Rattle.demands.proofs.Computed.{tables, decided, ask_is, has_is, joins_is, mark_is, partner_is, write_kept_is}

-- yes is seen exactly if some kept fact supports the question
yes_seen : (b : Bool) (n : ℕ) → ((shown_reply (cond b (Some n) None)).yes ≡ 1) ↔ (b ≡ true)
yes_seen true n = (λ e. refl, λ e. refl)
yes_seen false n = (λ e. let z : ◌≡◌ {A = ℕ} 0 1 = e in absurd (omega arith), λ e. let z : ◌≡◌ {A = ℕ} 0 1 = cc in absurd (omega arith))

reply_seen : (t : Follows) (facts : List Fact) (asked : Typ) (r : DzyAnswer) → r ≡ shown_reply (reply_of t facts asked) → (r.yes ≡ 1) ↔ (support itself t facts asked < length facts)
unfolding reply_of
reply_seen t facts asked r e =
    let n : ℕ = support itself t facts asked in
    let s = yes_seen (ltb n (length facts)) n in
    let same : r.yes ≡ (shown_reply (cond (ltb n (length facts)) (Some n) None)).yes = ap (λ (x : DzyAnswer). x.yes) e in
    (λ h. ltb-true n (length facts) (s.0 (sym same ∙ h)), λ h. same ∙ s.1 (lt-ltb n (length facts) h))

through : {A B : Type 0} {C : Type 1} → A ↔ B → B ↔ C → A ↔ C
through f g = (λ x. g.0 (f.0 x), λ z. f.1 (g.1 z))

module _ {rules bundle : List ℕ} (a : BothRead rules bundle) where
  worlds : SiteDecided a.head (site a) a.facts
  worlds = demand_3 rules bundle a.head a.facts a.rules_read a.bundle_read

  -- the kept facts are those that the tables keep
  same_kept : (facts : List Fact) → KeptFacts a facts → kept itself (tables a) a.facts ≡ facts
  same_kept facts are = those_once (kept_those itself (site a) (tables a) (decided a) a.facts) are

  -- ---- marks and partners
  fact_decided : (k : ℕ) (f : Fact) → Numbered a.facts k f → FactByWorlds a f (mark itself (tables a) a.facts f) (partner itself (tables a) a.facts f)
  fact_decided k f n =
      let here = subst (λ (g : Fact). Memᴰ g a.facts) n.is (get_or_within a.facts k f n.inside) in
      record { dropped = worlds.dropped f here; alone = worlds.alone f here; disputed = worlds.partner_of f here }

  row_decided : (marks partners marks' partners' : List ℕ) (r : DzyCounts) → Mark rules bundle marks partners r marks' partners' → Done r.refused
      → (k : ℕ) (f : Fact) → Numbered a.facts k f → FactByWorlds a f (get_or marks' k 0) (get_or partners' k 0)
  row_decided marks partners marks' partners' r p done k f n =
      subst₂ (FactByWorlds a f) (sym (mark_is a marks partners marks' partners' r p done k f n)) (sym (partner_is a marks partners marks' partners' r p done k f n)) (fact_decided k f n)

  asked_decided : (k : ℕ) (r : DzyAsked) → Ask rules bundle k r → (f : Fact) → Numbered a.facts k f → FactByWorlds a f r.mark r.partner
  asked_decided k r p f n =
      subst⁻¹ (λ (x : DzyAsked). FactByWorlds a f x.mark x.partner) (ask_is a k r p f n (get_or_any a.facts k _ f n.inside ∙ n.is)) (fact_decided k f n)

  -- ---- questions
  always_same : (P : (w : World) → Type 0) (b : Type 0) (facts : List Fact) → KeptFacts a facts → b ↔ Always itself (site a) (kept itself (tables a) a.facts) P → b ↔ Always itself (site a) facts P
  always_same P b facts are h = subst (λ (l : List Fact). b ↔ Always itself (site a) l P) (same_kept facts are) h

  has_decided : (code thing : ℕ) (r : DzyAnswer) → Has rules bundle code thing r → Done r.refused
      → (facts : List Fact) → KeptFacts a facts → (r.yes ≡ 1) ↔ Always itself (site a) facts (λ w. Is w (concept_of code) (w.thing thing))
  has_decided code thing r p done facts are =
      let q = has_is a code thing r p done in
      always_same (λ w. Is w (concept_of code) (w.thing thing)) (r.yes ≡ 1) facts are
      (through (reply_seen (tables a) a.facts _ r q.seen) (worlds.of_thing code thing q.known q.from_within))

  joins_decided : (code from to : ℕ) (r : DzyAnswer) → Joins rules bundle code from to r → Done r.refused
      → (facts : List Fact) → KeptFacts a facts → (r.yes ≡ 1) ↔ Always itself (site a) facts (λ w. Joined w (role_of code) (w.thing from) (w.thing to))
  joins_decided code from to r p done facts are =
      let q = joins_is a code from to r p done in
      always_same (λ w. Joined w (role_of code) (w.thing from) (w.thing to)) (r.yes ≡ 1) facts are
      (through (reply_seen (tables a) a.facts _ r q.seen) (worlds.of_pair code from to q.known q.from_within q.to_within))

  -- ---- the kept facts: the bundle that was read, as facts from a place on
  kept_read : read_bundle a.head (bundle_of (kept itself (tables a) a.facts)) ≡ Ok (kept itself (tables a) a.facts)
  unfolding read_bundle
  kept_read =
      let b = over_given (facts_of bundle) (check_bundle a.head bundle) a.bundle_read in
      subst (λ (facts : List Fact). over (facts_of (bundle_of (kept itself (follows_of (site a)) facts))) (check_bundle a.head (bundle_of (kept itself (follows_of (site a)) facts))) ≡ Ok (kept itself (follows_of (site a)) facts))
      b.told (kept_reads rules bundle a.head b.value a.rules_read b.given)

  kept_written : (out out' : List ℕ) (r : DzyLength) → WriteKept rules bundle out r out' → Done r.refused
      → (facts : List Fact) → KeptFacts a facts → read_bundle a.head (take r.length out') ≡ Ok facts
  kept_written out out' r p done facts are =
      let bytes : List ℕ = bundle_of (kept itself (tables a) a.facts) in
      let w = write_kept_is a out out' r p done in
      let long : r.length ≡ length bytes = ap (λ (l : DzyLength). l.length) w.answer in
      let front : take r.length out' ≡ bytes = ap (λ (n : ℕ). take n out') long ∙ ap (take (length bytes)) w.memory ∙ laid_taken out bytes w.fits in
      ap (read_bundle a.head) front ∙ kept_read ∙ ap Ok (same_kept facts are)

  pub worlds_decide : WorldsDecide a
  worlds_decide =
      record {
        mark = row_decided;
        ask = asked_decided;
        kept = λ facts are. subst (Consistent itself (site a)) (same_kept facts are) worlds.consistent;
        kept_are = (kept itself (tables a) a.facts, kept_those itself (site a) (tables a) (decided a) a.facts);
        write_kept = kept_written;
        has = has_decided;
        joins = joins_decided;
      }
