-- Demand 1, the refusals of arguments and room: for files that were read, each operation's definition is a row of tests on the call's own arguments and on
-- the lengths of what was lent, and each test's outcome gives its answer.
use Prim.Native.Nat.{ℕ, ◌≤◌, ◌<◌}
use mathlib.Core.Path.{◌≡◌, refl, sym, ap, ◌∙◌}
use mathlib.Core.Bool.{Bool, true, false, cond, ◌&&◌, and-false}
use mathlib.Core.Logic.{◌⊎◌, inl, inr}
use mathlib.Core.List.{List, map}
use lib.Dec.{leb, ltb}
use lib.ListN.{length, get_or}
use borrow.Author.Tests.{le-leb, lt-leb, lt-ltb, le-ltb}
use Rattle.number.specs.Answer.{Answer, refusal, ◌then◌, over}
use Rattle.number.specs.declared.refusal.Fault.TheVariants.{Over, Unknown, Room, NoFact}
use Rattle.number.specs.declared.refusal.Side.TheVariants.{Call}
use Rattle.std.specs.Prelude.{Option, Some, None, Ok, Err}
use Rattle.number.proofs.Answers.{over_given}
use Rattle.site.specs.Codes.{concept_of, role_of, concept_declared, role_declared}
use Rattle.site.specs.Kinds.Node.{concept, role}
use Rattle.site.specs.Limits.{most_thing}
use Rattle.site.specs.declared.fact.Fact.{Fact}
use Rattle.bundle.specs.Bundle.{facts_of, check_bundle, read_bundle, bundle_of}
use Rattle.bundle.specs.Opened.{opening}
use Rattle.bundle.specs.declared.facts.Facts.{Facts}
use Rattle.bundle.proofs.Accepted.{accepted_count}
use Rattle.writer.specs.Records.{room_for}
use Rattle.records.specs.Rows.{record_of, hand_out, hand_records}
use Rattle.records.specs.declared.record.Record.{Record}
use Rattle.records.proofs.OfReader.{starts}
use Rattle.clashes.specs.Types.{itself, typ}
use Rattle.clashes.specs.Marks.{kept}
use Rattle.clean.specs.Operations.{room_for_marks, Marked, thing_known, reply_of}
use Rattle.shown.specs.Shown.{refused, shown_counts, shown_asked, shown_reply, shown_answer, shown_length, shown_start}
use Rattle.shown.specs.declared.shapes.DzyCounts.{DzyCounts}
use Rattle.shown.specs.declared.shapes.DzyAsked.{DzyAsked}
use Rattle.shown.specs.declared.shapes.DzyAnswer.{DzyAnswer}
use Rattle.shown.specs.declared.shapes.DzyLength.{DzyLength}
use Rattle.shown.specs.declared.shapes.DzyStart.{DzyStart}
use Rattle.dzyunagor.specs.Promises.{Mark, Ask, Has, Joins, WriteKept, Records, ReaderStart}
use Rattle.demands.specs.Demands.{Done, BothRead, site, KeptFacts, RefusesExactly}
use Rattle.demands.proofs.BySteps.{those_once, kept_those}
use Rattle.demands.proofs.Computed.{tables, decided, count_is, asked_so, judged_of, nowhere, asks, asks_is, asks_pair, asks_pair_is, all_marked, marking_is, keeping_is}

-- what C sees of an answer's refusal
reply_done : (reply : Option ℕ) → Done (shown_reply reply).refused
reply_done (Some n) = refl
reply_done None = refl

module _ {rules bundle : List ℕ} (a : BothRead rules bundle) where
  -- ---- marks and partners
  module _ (marks partners marks' partners' : List ℕ) (r : DzyCounts) (p : Mark rules bundle marks partners r marks' partners') where
    abbrev roomy : Bool
    roomy = leb (length a.facts) (length marks) && leb (length a.facts) (length partners)

    abbrev marked_by : Bool → Answer Marked
    marked_by b = cond b (Ok a.facts) (Err (refusal Room Call 0)) then λ _. Ok (all_marked a marks partners)

    mark_by : (b : Bool) → roomy ≡ b → r ≡ shown_counts (over (λ m. m.counts) (marked_by b))
    unfolding room_for_marks
    mark_by b e = p.answer ∙ ap (λ (m : Answer Marked). shown_counts (over (λ x. x.counts) m)) (marking_is a marks partners ∙ ap marked_by e)

    mark_done : length a.facts ≤ length marks → length a.facts ≤ length partners → Done r.refused
    mark_done long wide = ap (λ (x : DzyCounts). x.refused.number) (mark_by true (rw (le-leb _ _ long, le-leb _ _ wide)))

    mark_short : (length marks < length a.facts) ⊎ (length partners < length a.facts) → r.refused ≡ refused (refusal Room Call 0)
    mark_short (inl short) = ap (λ (x : DzyCounts). x.refused) (mark_by false (rw (lt-leb _ _ short)))
    mark_short (inr short) =
        ap (λ (x : DzyCounts). x.refused) (mark_by false (rw (lt-leb (length a.facts) (length partners) short) (and-false (leb (length a.facts) (length marks)))))

  -- ---- the kept facts
  module _ (out out' : List ℕ) (r : DzyLength) (p : WriteKept rules bundle out r out') (facts : List Fact) (are : KeptFacts a facts) where
    kept_by : (b : Bool) → leb (length (bundle_of facts)) (length out) ≡ b → r ≡ shown_length (over length (cond b (Ok (bundle_of facts)) (Err (refusal Room Call 0))))
    unfolding room_for
    kept_by b e =
        let same : kept itself (tables a) a.facts ≡ facts = those_once (kept_those itself (site a) (tables a) (decided a) a.facts) are in
        p.answer
        ∙ ap (λ (x : Answer (List ℕ)). shown_length (over length x)) (keeping_is a (length out) ∙ ap (λ (l : List Fact). room_for (length out) (bundle_of l)) same)
        ∙ ap (λ (c : Bool). shown_length (over length (cond c (Ok (bundle_of facts)) (Err (refusal Room Call 0))))) e

    kept_done : length (bundle_of facts) ≤ length out → Done r.refused
    kept_done fits = ap (λ (x : DzyLength). x.refused.number) (kept_by true (le-leb _ _ fits))

    kept_short : length out < length (bundle_of facts) → r.refused ≡ refused (refusal Room Call 0)
    kept_short short = ap (λ (x : DzyLength). x.refused) (kept_by false (lt-leb _ _ short))

  -- ---- records
  hand_is : (room : ℕ) → hand_records rules bundle room ≡ cond (leb (length a.facts) room) (Ok (map record_of a.facts)) (Err (refusal Room Call 0))
  unfolding hand_records hand_out opening read_bundle
  hand_is room =
      let b = over_given (facts_of bundle) (check_bundle a.head bundle) a.bundle_read in
      let many : b.value.count ≡ length a.facts = sym (accepted_count a.head bundle b.value b.given) ∙ ap length b.told in
      rw (a.rules_read, b.given, many) (by_room (leb (length a.facts) room) b.value b.told)
    where
      by_room : (t : Bool) (b : Facts) → facts_of bundle b ≡ a.facts
          → over (λ f. map record_of (facts_of bundle f)) (cond t (Ok b) (Err (refusal Room Call 0))) ≡ cond t (Ok (map record_of a.facts)) (Err (refusal Room Call 0))
      by_room true b e = rw e
      by_room false b e = refl

  module _ (row row' : List Record) (r : DzyLength) (p : Records rules bundle row r row') where
    records_by : (b : Bool) → leb (length a.facts) (length row) ≡ b → r ≡ shown_length (over length (cond b (Ok (map record_of a.facts)) (Err (refusal Room Call 0))))
    records_by b e =
        p.answer ∙ ap (λ (x : Answer (List Record)). shown_length (over length x)) (hand_is (length row) ∙ ap (λ (c : Bool). cond c (Ok (map record_of a.facts)) (Err (refusal Room Call 0))) e)

    records_done : length a.facts ≤ length row → Done r.refused
    records_done fits = ap (λ (x : DzyLength). x.refused.number) (records_by true (le-leb _ _ fits))

    records_short : length row < length a.facts → r.refused ≡ refused (refusal Room Call 0)
    records_short short = ap (λ (x : DzyLength). x.refused) (records_by false (lt-leb _ _ short))

  -- ---- one fact
  module _ (k : ℕ) (r : DzyAsked) (p : Ask rules bundle k r) where
    ask_by : (b : Bool) → ltb k (length a.facts) ≡ b → r ≡ shown_asked (cond b (Ok (judged_of a (get_or a.facts k (nowhere a)))) (Err (refusal NoFact Call 0)))
    ask_by b e = asked_so a k r p ∙ ap (λ (c : Bool). shown_asked (cond c (Ok (judged_of a (get_or a.facts k (nowhere a)))) (Err (refusal NoFact Call 0)))) e

    ask_done : k < length a.facts → Done r.refused
    ask_done less = ap (λ (x : DzyAsked). x.refused.number) (ask_by true (lt-ltb _ _ less))

    ask_over : length a.facts ≤ k → r.refused ≡ refused (refusal NoFact Call 0)
    ask_over over = ap (λ (x : DzyAsked). x.refused) (ask_by false (le-ltb _ _ over))

  -- ---- questions: a question about things that are within the limit is replied to, and one about others is not
  module _ (code thing : ℕ) (r : DzyAnswer) (p : Has rules bundle code thing r) where
    has_so : r ≡ shown_answer (asks a code thing a.head (tables a) a.facts)
    unfolding Has
    has_so = p ∙ ap shown_answer (asks_is a code thing)

    has_done : concept_declared a.head.concepts a.head.roles code ≡ true → thing ≤ most_thing → Done r.refused
    has_done known within = rw (has_so, known, le-leb thing most_thing within) (reply_done (reply_of (tables a) a.facts (typ (concept (concept_of code)) thing thing)))

    has_undeclared : concept_declared a.head.concepts a.head.roles code ≡ false → r.refused ≡ refused (refusal Unknown Call 0)
    has_undeclared unknown = rw (has_so, unknown)

    has_over : concept_declared a.head.concepts a.head.roles code ≡ true → most_thing < thing → r.refused ≡ refused (refusal Over Call 0)
    has_over known over = rw (has_so, known, lt-leb thing most_thing over)

  module _ (code from to : ℕ) (r : DzyAnswer) (p : Joins rules bundle code from to r) where
    joins_so : r ≡ shown_answer (asks_pair a code from to a.head (tables a) a.facts)
    unfolding Joins
    joins_so = p ∙ ap shown_answer (asks_pair_is a code from to)

    joins_done : role_declared a.head.roles code ≡ true → from ≤ most_thing → to ≤ most_thing → Done r.refused
    joins_done known first second = rw (joins_so, known, le-leb from most_thing first, le-leb to most_thing second) (reply_done (reply_of (tables a) a.facts (typ (role (role_of code)) from to)))

    joins_undeclared : role_declared a.head.roles code ≡ false → r.refused ≡ refused (refusal Unknown Call 0)
    joins_undeclared unknown = rw (joins_so, unknown)

    joins_over : role_declared a.head.roles code ≡ true → (most_thing < from) ⊎ (most_thing < to) → r.refused ≡ refused (refusal Over Call 0)
    joins_over known (inl over) = rw (joins_so, known, lt-leb from most_thing over)
    joins_over known (inr over) = rw (joins_so, known) (second_over (leb from most_thing))
      where
        second_over : (b : Bool) → (shown_answer (cond b (Ok from) (Err (refusal Over Call 0)) then λ x. thing_known to then λ y. Ok (reply_of (tables a) a.facts (typ (role (role_of code)) x y)))).refused ≡ refused (refusal Over Call 0)
        second_over true = rw (lt-leb to most_thing over)
        second_over false = refl

  -- ---- nothing else is refused
  start_done : (r : DzyStart) → ReaderStart rules bundle r → Done r.refused
  unfolding ReaderStart read_bundle
  start_done r p =
      let b = over_given (facts_of bundle) (check_bundle a.head bundle) a.bundle_read in
      ap (λ (x : DzyStart). x.refused.number) (p ∙ ap shown_start (starts rules bundle a.head b.value a.rules_read b.given))

  pub refuses_exactly : RefusesExactly a
  refuses_exactly =
      record {
        mark = mark_done;
        mark_short = mark_short;
        write_kept = kept_done;
        write_kept_short = kept_short;
        records = records_done;
        records_short = records_short;
        ask = ask_done;
        ask_over = ask_over;
        has = has_done;
        has_undeclared = has_undeclared;
        has_over = has_over;
        joins = joins_done;
        joins_undeclared = joins_undeclared;
        joins_over = joins_over;
        count = λ r p. ap (λ (x : DzyCounts). x.refused.number) (count_is a r p);
        reader_start_lem = start_done;
      }
