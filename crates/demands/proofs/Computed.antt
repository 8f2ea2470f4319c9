-- What each promise comes to for files that were read: the answers and the rows are those of the definitions over their rules and facts. An answer
-- that is no refusal is one that was given (`..-tells`), and what is given about files is given about what was read from them (`given_is`).
use Prim.Native.Nat.{ℕ, zero, suc, ◌≤◌, ◌<◌}
use mathlib.Core.Path.{◌≡◌, refl, sym, ap, ◌∙◌}
use mathlib.Core.Bool.{true, cond, ◌&&◌}
use mathlib.Core.List.{List, [], ◌∷◌, map}
use lib.Dec.{leb, ltb}
use lib.ListN.{length, length-map, get_or}
use native.Mathlib.Omega.{arith}
use borrow.Author.Tests.{leb-true, lt-ltb}
use Rattle.number.specs.Answer.{Answer, refusal, ◌then◌, over, laid}
use Rattle.number.specs.declared.refusal.Fault.TheVariants.{Over, Unknown, Room, NoFact}
use Rattle.number.specs.declared.refusal.Side.TheVariants.{Call}
use Rattle.std.specs.Prelude.{Option, Ok, Err}
use Rattle.number.proofs.Laid.{laid_at}
use Rattle.number.proofs.Answers.{went, passed, given_once}
use Rattle.site.specs.Codes.{concept_of, role_of, concept_declared, role_declared}
use Rattle.site.specs.Kinds.Node.{concept, role}
use Rattle.site.specs.Limits.{most_thing}
use Rattle.site.specs.declared.fact.Fact.{Fact}
use Rattle.site.proofs.Lists.{and_left, and_right}
use Rattle.rule.specs.declared.head.Head.{Head}
use Rattle.rules.proofs.AcceptedFile.{accepted_lawful}
use Rattle.bundle.specs.Bundle.{bundle_of}
use Rattle.writer.specs.Records.{room_for}
use Rattle.steps.specs.Decides.{Decides}
use Rattle.steps.specs.Tables.{Follows, follows_of}
use Rattle.steps.proofs.Decided.{decides}
use Rattle.clashes.specs.Types.{itself, Typ, typ}
use Rattle.clashes.specs.Marks.{mark, marks, partner, partners, counts, kept}
use Rattle.clashes.specs.Judging.{judged}
use Rattle.clashes.specs.declared.answers.Judged.{Judged}
use Rattle.clashes.proofs.OfJudged.{judged_mark, judged_partner}
use Rattle.clean.specs.Operations.{given, room_for_marks, Marked, marking, counting, asking, reply_of, thing_known, having, joining, keeping}
use Rattle.shown.specs.Shown.{not_refused, shown_counts, shown_asked, shown_reply, shown_answer, shown_length}
use Rattle.shown.specs.declared.shapes.DzyCounts.{DzyCounts}
use Rattle.shown.specs.declared.shapes.DzyAsked.{DzyAsked}
use Rattle.shown.specs.declared.shapes.DzyAnswer.{DzyAnswer}
use Rattle.shown.specs.declared.shapes.DzyLength.{DzyLength}
use Rattle.dzyunagor.specs.Promises.{Mark, Count, Ask, Has, Joins, WriteKept}
use Rattle.promises.proofs.NeverZero.{mark_tells, has_tells, joins_tells, write_kept_tells}
use Rattle.demands.specs.Demands.{Done, BothRead, site}
use Rattle.demands.specs.Said.{Numbered}

-- a row of what each fact has, at a fact that is there, whatever stands for one that is not
row_at : (f : Fact → ℕ) (l : List Fact) (k : ℕ) (d : Fact) → k < length l → get_or (map f l) k 0 ≡ f (get_or l k d)
row_at f [] k d less = absurd (omega arith)
row_at f (x ∷ xs) zero d less = refl
row_at f (x ∷ xs) (suc k) d less = row_at f xs k d (omega arith)

module _ {rules bundle : List ℕ} (a : BothRead rules bundle) where
  abbrev pub tables : Follows
  tables = follows_of (site a)

  -- the tables of accepted rules decide what follows from them
  pub decided : Decides (site a) tables
  decided = decides (site a) (accepted_lawful rules a.head a.rules_read)

  -- what is asked of the files is asked of what was read
  pub given_is : {A : Type 0} (k : Head → Follows → List Fact → Answer A) → given rules bundle k ≡ k a.head tables a.facts
  unfolding given
  given_is k = rw (a.rules_read, a.bundle_read)

  -- ---- counting
  pub count_is : (r : DzyCounts) → Count rules bundle r → r ≡ shown_counts (Ok (counts itself tables a.facts))
  unfolding Count counting
  count_is r p = p ∙ ap shown_counts (given_is (λ h t facts. Ok (counts itself t facts)))

  -- ---- one fact
  abbrev pub judged_of : Fact → Judged
  judged_of = judged itself tables a.facts

  -- its mark and its partner, as C sees them
  abbrev pub asked_of : Fact → DzyAsked
  asked_of f = record { refused = not_refused; mark = mark itself tables a.facts f; partner = partner itself tables a.facts f }

  shown_judged : (f : Fact) → shown_asked (Ok (judged_of f)) ≡ asked_of f
  shown_judged f i =
      record { refused = not_refused; mark = judged_mark itself tables a.facts f i; partner = judged_partner itself tables a.facts f i }

  abbrev pub nowhere : Fact
  nowhere = record { predicate = 0; subject = 0; object = 0 }

  abbrev pub asks_fact : ℕ → Head → Follows → List Fact → Answer Judged
  asks_fact n h t facts =
      cond (ltb n (length facts))
      (Ok (judged itself t facts (get_or facts n nowhere)))
      (Err (refusal NoFact Call 0))

  module _ (k : ℕ) (r : DzyAsked) (p : Ask rules bundle k r) where
    pub asked_so : r ≡ shown_asked (asks_fact k a.head tables a.facts)
    unfolding Ask asking
    asked_so = p ∙ ap shown_asked (given_is (asks_fact k))

    pub ask_is : (f : Fact) → Numbered a.facts k f → get_or a.facts k nowhere ≡ f → r ≡ asked_of f
    ask_is f n same =
        asked_so ∙ ap (λ b. shown_asked (cond b (Ok (judged_of (get_or a.facts k nowhere))) (Err (refusal NoFact Call 0)))) (lt-ltb k (length a.facts) n.inside)
        ∙ ap (λ (g : Fact). shown_asked (Ok (judged_of g))) same
        ∙ shown_judged f

  -- ---- questions: the code was declared, the things within the limit, and the answer is the definition's
  pub record Replied (declared : Type 0) (asked : Typ) (r : DzyAnswer) : Type 0 where
    pub known : declared
    pub from_within : asked.from ≤ most_thing
    pub to_within : asked.to ≤ most_thing
    pub seen : r ≡ shown_reply (reply_of tables a.facts asked)

  -- a thing that was asked for is within the limit
  thing_within : (thing known : ℕ) → thing_known thing ≡ Ok known → (thing ≤ most_thing) × (known ≡ thing)
  thing_within thing known e =
      let t = passed (leb thing most_thing) (Ok thing) (refusal Over Call 0) e in
      (leb-true thing most_thing t.test, sym (given_once t.answer))

  module _ (code thing : ℕ) where
    abbrev pub asks : Head → Follows → List Fact → Answer (Option ℕ)
    asks h t facts =
        cond (concept_declared h.concepts h.roles code) (Ok code) (Err (refusal Unknown Call 0)) then λ _.
        thing_known thing then λ x.
        Ok (reply_of t facts (typ (concept (concept_of code)) x x))

    pub asks_is : having rules bundle code thing ≡ asks a.head tables a.facts
    unfolding having
    asks_is = given_is asks

    pub has_is : (r : DzyAnswer) → Has rules bundle code thing r → Done r.refused
        → Replied (concept_declared a.head.concepts a.head.roles code ≡ true) (typ (concept (concept_of code)) thing thing) r
    unfolding Has
    has_is r p done =
        let g = (has_tells rules bundle code thing r p).given done in
        let w = went (cond (concept_declared a.head.concepts a.head.roles code) (Ok code) (Err (refusal Unknown Call 0))) _ (sym asks_is ∙ g.is) in
        let v = went (thing_known thing) _ w.rest in
        let known = thing_within thing v.value v.first in
        let asked : ℕ → Typ = λ x. typ (concept (concept_of code)) x x in
        let reply : g.value ≡ reply_of tables a.facts (asked thing) = sym (given_once v.rest) ∙ ap (λ (x : ℕ). reply_of tables a.facts (asked x)) known.1 in
        record {
          known = (passed (concept_declared a.head.concepts a.head.roles code) (Ok code) (refusal Unknown Call 0) w.first).test;
          from_within = known.0;
          to_within = known.0;
          seen = p ∙ ap shown_answer g.is ∙ ap shown_reply reply;
        }

  module _ (code from to : ℕ) where
    abbrev pub asks_pair : Head → Follows → List Fact → Answer (Option ℕ)
    asks_pair h t facts =
        cond (role_declared h.roles code) (Ok code) (Err (refusal Unknown Call 0)) then λ _.
        thing_known from then λ x.
        thing_known to then λ y.
        Ok (reply_of t facts (typ (role (role_of code)) x y))

    pub asks_pair_is : joining rules bundle code from to ≡ asks_pair a.head tables a.facts
    unfolding joining
    asks_pair_is = given_is asks_pair

    pub joins_is : (r : DzyAnswer) → Joins rules bundle code from to r → Done r.refused
        → Replied (role_declared a.head.roles code ≡ true) (typ (role (role_of code)) from to) r
    unfolding Joins
    joins_is r p done =
        let g = (joins_tells rules bundle code from to r p).given done in
        let w = went (cond (role_declared a.head.roles code) (Ok code) (Err (refusal Unknown Call 0))) _ (sym asks_pair_is ∙ g.is) in
        let v = went (thing_known from) _ w.rest in
        let u = went (thing_known to) _ v.rest in
        let first = thing_within from v.value v.first in
        let second = thing_within to u.value u.first in
        let asked : ℕ → ℕ → Typ = λ x y. typ (role (role_of code)) x y in
        let reply : g.value ≡ reply_of tables a.facts (asked from to) =
        sym (given_once u.rest) ∙ ap (λ (x : ℕ). reply_of tables a.facts (asked x u.value)) first.1 ∙ ap (λ (y : ℕ). reply_of tables a.facts (asked from y)) second.1 in
        record {
          known = (passed (role_declared a.head.roles code) (Ok code) (refusal Unknown Call 0) w.first).test;
          from_within = first.0;
          to_within = second.0;
          seen = p ∙ ap shown_answer g.is ∙ ap shown_reply reply;
        }

  -- ---- marking
  module _ (row pair : List ℕ) where
    abbrev pub marking_of : Head → Follows → List Fact → Answer Marked
    marking_of h t facts = room_for_marks (length row) (length pair) facts then λ _. Ok (record { counts = counts itself t facts; marks = marks itself t facts; partners = partners itself t facts })

    pub marking_is : marking rules bundle (length row) (length pair) ≡ marking_of a.head tables a.facts
    unfolding marking
    marking_is = given_is marking_of

    abbrev pub all_marked : Marked
    all_marked = record { counts = counts itself tables a.facts; marks = marks itself tables a.facts; partners = partners itself tables a.facts }

    -- what an answer that is no refusal says of the rows
    record Roomy : Type 0 where
      is : marking rules bundle (length row) (length pair) ≡ Ok all_marked
      long : length a.facts ≤ length row
      wide : length a.facts ≤ length pair

    module _ (row' pair' : List ℕ) (r : DzyCounts) (p : Mark rules bundle row pair r row' pair') (done : Done r.refused) where
      roomy : Roomy
      unfolding room_for_marks
      roomy =
          let g = (mark_tells rules bundle row pair row' pair' r p).given done in
          let w = went (room_for_marks (length row) (length pair) a.facts) _ (sym marking_is ∙ g.is) in
          let room = (passed (leb (length a.facts) (length row) && leb (length a.facts) (length pair)) (Ok a.facts) (refusal Room Call 0) w.first).test in
          record {
            is = g.is ∙ sym w.rest;
            long = leb-true (length a.facts) (length row) (and_left (leb (length a.facts) (length row)) _ room);
            wide = leb-true (length a.facts) (length pair) (and_right (leb (length a.facts) (length row)) _ room);
          }

      pub mark_counts_is : r ≡ shown_counts (Ok (counts itself tables a.facts))
      mark_counts_is = p.answer ∙ ap (λ (m : Answer Marked). shown_counts (over (λ x. x.counts) m)) roomy.is

      -- what was laid into a row for a fact
      laid_row : (out : List ℕ) (f : Fact → ℕ) → length a.facts ≤ length out → (k : ℕ) (d : Fact) → k < length a.facts → get_or (laid out 0 (Ok (map f a.facts))) k 0 ≡ f (get_or a.facts k d)
      laid_row out f fits k d less =
          laid_at out (map f a.facts) (omega (arith, length-map a.facts f)) k 0 (omega (arith, length-map a.facts f)) ∙ row_at f a.facts k d less

      module _ (k : ℕ) (f : Fact) (n : Numbered a.facts k f) where
        pub mark_is : get_or row' k 0 ≡ mark itself tables a.facts f
        unfolding marks
        mark_is =
            ap (λ (l : List ℕ). get_or l k 0) (p.marks ∙ ap (λ (m : Answer Marked). laid row 0 (over (λ x. x.marks) m)) roomy.is)
            ∙ laid_row row (mark itself tables a.facts) roomy.long k f n.inside
            ∙ ap (mark itself tables a.facts) n.is

        pub partner_is : get_or pair' k 0 ≡ partner itself tables a.facts f
        unfolding partners
        partner_is =
            ap (λ (l : List ℕ). get_or l k 0) (p.partners ∙ ap (λ (m : Answer Marked). laid pair 0 (over (λ x. x.partners) m)) roomy.is)
            ∙ laid_row pair (partner itself tables a.facts) roomy.wide k f n.inside
            ∙ ap (partner itself tables a.facts) n.is

  -- ---- the kept facts: their bundle has room, and is written
  abbrev pub kept_bundle : List ℕ
  kept_bundle = bundle_of (kept itself tables a.facts)

  pub keeping_is : (room : ℕ) → keeping rules bundle room ≡ room_for room kept_bundle
  unfolding keeping
  keeping_is room = given_is (λ h t facts. room_for room (bundle_of (kept itself t facts)))

  module _ (out out' : List ℕ) (r : DzyLength) (p : WriteKept rules bundle out r out') (done : Done r.refused) where
    pub record WroteKept : Type 0 where
      pub fits : length kept_bundle ≤ length out
      pub answer : r ≡ shown_length (Ok (length kept_bundle))
      pub memory : out' ≡ laid out 0 (Ok kept_bundle)

    pub write_kept_is : WroteKept
    unfolding room_for
    write_kept_is =
        let g = (write_kept_tells rules bundle out out' r p).given done in
        let t = passed (leb (length kept_bundle) (length out)) (Ok kept_bundle) (refusal Room Call 0) (sym (keeping_is (length out)) ∙ g.is) in
        let is : keeping rules bundle (length out) ≡ Ok kept_bundle = g.is ∙ sym t.answer in
        record {
          fits = leb-true (length kept_bundle) (length out) t.test;
          answer = p.answer ∙ ap (λ (b : Answer (List ℕ)). shown_length (over length b)) is;
          memory = p.memory ∙ ap (laid out 0) is;
        }
