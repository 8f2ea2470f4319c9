-- Demand 2, "as document 01 condenses it": what C sees is what the definitions compute for the files that were read (`Computed`), and by the tables of
-- accepted rules that is what document 01 says (`BySteps`).
use Prim.Native.Nat.{ℕ}
use mathlib.Core.Path.{◌≡◌, refl, sym, ap, ◌∙◌, subst⁻¹, subst₂}
use mathlib.Core.Bool.{Bool, true, false, cond}
use mathlib.Core.List.{List}
use lib.Dec.{ltb}
use lib.ListN.{length, get_or}
use borrow.Author.Tests.{ltb-true, lt-ltb}
use native.Mathlib.Omega.{arith}
use Rattle.number.specs.Answer.{laid}
use Rattle.std.specs.Prelude.{Some, None, Ok}
use Rattle.site.specs.declared.fact.Fact.{Fact}
use Rattle.site.proofs.Lists.{true_not_false}
use Rattle.bundle.specs.Bundle.{bundle_of}
use Rattle.clashes.specs.Types.{itself, Typ}
use Rattle.clashes.specs.Marks.{mark, partner, counts, kept, support}
use Rattle.clashes.proofs.OfMarks.{marks_add_up}
use Rattle.clean.specs.Operations.{reply_of}
use Rattle.shown.specs.Shown.{shown_counts, shown_reply, shown_length}
use Rattle.shown.specs.declared.shapes.DzyCounts.{DzyCounts}
use Rattle.shown.specs.declared.shapes.DzyAsked.{DzyAsked}
use Rattle.shown.specs.declared.shapes.DzyAnswer.{DzyAnswer}
use Rattle.shown.specs.declared.shapes.DzyLength.{DzyLength}
use Rattle.dzyunagor.specs.Promises.{Mark, Ask, WriteKept}
use Rattle.demands.specs.Demands.{Done, BothRead, site, FactAsSaid, CountsAsSaid, KeptFacts, AsDocument01}
use Rattle.demands.specs.Said.{Numbered, LowestSupport, AnswerIs}
use Rattle.demands.specs.Said.AnswerIs.{yes_by, no_fact_lem}
use Rattle.demands.proofs.BySteps.{get_or_any, those_once, mark_said, partner_said, kept_those, kept_many, alone_many, disputed_many, support_said, no_support}
use Rattle.demands.proofs.Computed.{tables, decided, count_is, ask_is, Replied, has_is, joins_is, mark_counts_is, mark_is, partner_is, write_kept_is}

module _ {rules bundle : List ℕ} (a : BothRead rules bundle) where
  -- a fact's mark and partner by the tables
  fact_said : (f : Fact) → FactAsSaid a f (mark itself (tables a) a.facts f) (partner itself (tables a) a.facts f)
  fact_said f =
      record {
        mark_is = mark_said itself (site a) (tables a) (decided a) a.facts f;
        partner_is = partner_said itself (site a) (tables a) (decided a) a.facts f;
      }

  row_said : (marks partners marks' partners' : List ℕ) (r : DzyCounts) → Mark rules bundle marks partners r marks' partners' → Done r.refused
      → (k : ℕ) (f : Fact) → Numbered a.facts k f → FactAsSaid a f (get_or marks' k 0) (get_or partners' k 0)
  row_said marks partners marks' partners' r p done k f n =
      subst₂ (FactAsSaid a f) (sym (mark_is a marks partners marks' partners' r p done k f n)) (sym (partner_is a marks partners marks' partners' r p done k f n)) (fact_said f)

  counts_said : (r : DzyCounts) → r ≡ shown_counts (Ok (counts itself (tables a) a.facts)) → CountsAsSaid a r
  unfolding counts
  counts_said r e =
      subst⁻¹ (CountsAsSaid a) e
      (record {
        all = refl;
        kept = kept_many itself (site a) (tables a) (decided a) a.facts;
        alone = alone_many itself (site a) (tables a) (decided a) a.facts;
        disputed = disputed_many itself (site a) (tables a) (decided a) a.facts;
        sum = marks_add_up itself (tables a) a.facts;
      })

  asked_said : (k : ℕ) (r : DzyAsked) → Ask rules bundle k r → (f : Fact) → Numbered a.facts k f → Done r.refused × FactAsSaid a f r.mark r.partner
  asked_said k r p f n =
      let e = ask_is a k r p f n (get_or_any a.facts k _ f n.inside ∙ n.is) in
      subst⁻¹ (λ (x : DzyAsked). Done x.refused × FactAsSaid a f x.mark x.partner) e (refl, fact_said f)

  -- an answer: yes by the lowest support, or no
  answer_said : (asked : Typ) (declared : Type 0) (r : DzyAnswer) → Replied a declared asked r → AnswerIs itself (site a) a.facts asked r.yes r.fact
  unfolding reply_of
  answer_said asked declared r q =
      let n : ℕ = support itself (tables a) a.facts asked in
      subst⁻¹ (λ (x : DzyAnswer). AnswerIs itself (site a) a.facts asked x.yes x.fact) q.seen (go n refl (ltb n (length a.facts)) refl)
    where
      go : (n : ℕ) → n ≡ support itself (tables a) a.facts asked → (b : Bool) → ltb n (length a.facts) ≡ b
          → AnswerIs itself (site a) a.facts asked (shown_reply (cond b (Some n) None)).yes (shown_reply (cond b (Some n) None)).fact
      go n same true e =
          yes_by
          (subst⁻¹ (λ (m : ℕ). LowestSupport itself (site a) a.facts asked m) same
          (support_said itself (site a) (tables a) (decided a) a.facts asked (omega (arith, ltb-true n (length a.facts) e))))
      go n same false e =
          no_fact_lem
          (no_support itself (site a) (tables a) (decided a) a.facts asked
          (λ less. true_not_false (lt-ltb n (length a.facts) (omega arith)) e))

  kept_said : (out out' : List ℕ) (r : DzyLength) → WriteKept rules bundle out r out' → Done r.refused
      → (facts : List Fact) → KeptFacts a facts → (r ≡ shown_length (Ok (length (bundle_of facts)))) × (out' ≡ laid out 0 (Ok (bundle_of facts)))
  kept_said out out' r p done facts are =
      let w = write_kept_is a out out' r p done in
      let same : kept itself (tables a) a.facts ≡ facts = those_once (kept_those itself (site a) (tables a) (decided a) a.facts) are in
      (w.answer ∙ ap (λ (l : List Fact). shown_length (Ok (length (bundle_of l)))) same, w.memory ∙ ap (λ (l : List Fact). laid out 0 (Ok (bundle_of l))) same)

  pub as_document_01 : AsDocument01 a
  as_document_01 =
      record {
        mark = row_said;
        mark_counts = λ marks partners marks' partners' r p done. counts_said r (mark_counts_is a marks partners marks' partners' r p done);
        count = λ r p. counts_said r (count_is a r p);
        ask = asked_said;
        has = λ code thing r p done. answer_said _ _ r (has_is a code thing r p done);
        joins = λ code from to r p done. answer_said _ _ r (joins_is a code from to r p done);
        write_kept = kept_said;
      }
