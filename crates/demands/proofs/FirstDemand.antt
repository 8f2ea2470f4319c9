-- Demand 1: the one_answer statements put together; that a refusal leaves lent memory as it was; and that what is over a limit is refused. What C sees
-- tells whether an answer is a refusal (`Tells`); where it is one, the promise's memory computes to what was lent.
use Prim.Native.Nat.{ℕ, ◌≤◌, ◌<◌}
use mathlib.Core.Path.{◌≡◌, sym, ap, subst, ◌∙◌}
use mathlib.Core.List.{List}
use lib.ListN.{length}
use borrow.Author.Tests.{lt-leb}
use Rattle.number.specs.Answer.{Answer, refusal, over as over_answer, laid}
use Rattle.std.specs.Prelude.{Ok, Err}
use Rattle.number.specs.Number.{number_at}
use Rattle.number.specs.declared.refusal.Refusal.{Refusal}
use Rattle.number.specs.declared.read.Read.{Read}
use Rattle.number.specs.declared.refusal.Fault.TheVariants.{Count}
use Rattle.number.specs.declared.refusal.Side.TheVariants.{Rules, Bundle}
use Rattle.number.proofs.Answers.{went, given_once, over_given}
use Rattle.site.specs.Items.{count_at, tested_at, at_most}
use Rattle.site.specs.Limits.{most_concepts, most_roles, most_rules, most_facts, most_number}
use Rattle.site.proofs.There.{count_there}
use Rattle.rule.specs.OneRule.{head_of}
use Rattle.rules.specs.RuleFile.{check_rules}
use Rattle.rule.specs.declared.head.Head.{Head}
use Rattle.rules.proofs.AcceptedFile.{accepted_rules}
use Rattle.bundle.specs.Bundle.{facts_of, check_bundle, read_bundle}
use Rattle.bundle.specs.Lawful.{LawfulFacts}
use Rattle.bundle.specs.Opened.{opening}
use Rattle.bundle.specs.declared.facts.Facts.{Facts}
use Rattle.bundle.specs.declared.open.Inputs.{Inputs}
use Rattle.bundle.proofs.Accepted.{accepted_lawful, accepted_count}
use Rattle.records.specs.Rows.{hand_records, write_row}
use Rattle.records.specs.declared.record.Record.{Record}
use Rattle.records.proofs.OfReader.{refused_stays}
use Rattle.rows.specs.declared.reader.Reader.{Reader}
use Rattle.clean.specs.Operations.{Marked, marking, keeping}
use Rattle.shown.specs.Shown.{refused, shown_length}
use Rattle.shown.specs.declared.shapes.DzyCounts.{DzyCounts}
use Rattle.shown.specs.declared.shapes.DzyLength.{DzyLength}
use Rattle.shown.specs.declared.shapes.DzyYield.{DzyYield}
use Rattle.dzyunagor.specs.Promises.{CheckBundle, Mark, WriteKept, Records, WriteRecords, ReaderNext}
use Rattle.promises.proofs.OneAnswer.{one_check_rules, one_check_bundle, one_mark, one_count, one_ask, one_has, one_joins, one_write_kept, one_records, one_write_records, one_reader_start, one_reader_next}
use Rattle.promises.proofs.NeverZero.{check_bundle_tells, mark_tells, write_kept_tells, records_tells, write_records_tells, reader_next_tells}
use Rattle.demands.specs.Demands.{Done, Refused, BothRead, OneAnswer, WritesNothing, OverLimits}

pub one_answer : (rules bundle : List ℕ) → OneAnswer rules bundle
one_answer rules bundle =
    record {
      check_rules_lem = λ x y p q. one_check_rules rules p q;
      check_bundle_lem = λ x y p q. one_check_bundle rules bundle p q;
      mark = λ marks partners x y p q. let s = one_mark rules bundle marks partners p q in λ i. (s.answer i, (s.marks i, s.partners i));
      count = λ x y p q. one_count rules bundle p q;
      ask = λ k x y p q. one_ask rules bundle k p q;
      has = λ code thing x y p q. one_has rules bundle code thing p q;
      joins = λ code from to x y p q. one_joins rules bundle code from to p q;
      write_kept = λ out x y p q. let s = one_write_kept rules bundle out p q in λ i. (s.answer i, s.memory i);
      records = λ row x y p q. let s = one_records rules bundle row p q in λ i. (s.answer i, s.memory i);
      write_records = λ row out x y p q. let s = one_write_records rules row out p q in λ i. (s.answer i, s.memory i);
      reader_start_lem = λ x y p q. one_reader_start rules bundle p q;
      reader_next = λ before x y p q. let s = one_reader_next before p q in λ i. (s.answer i, s.reader i);
    }

-- what a refusal lays into lent memory is nothing
module _ {A : Type 0} (a : Answer A) (q : Refusal) (stopped : a ≡ Err q) where
  nothing_laid : {B : Type 0} (f : A → List B) (out : List B) → laid out 0 (over_answer f a) ≡ out
  nothing_laid f out = rw stopped

no_bytes : {B : Type 0} (a : Answer (List B)) (q : Refusal) (out : List B) → a ≡ Err q → laid out 0 a ≡ out
no_bytes a q out stopped = rw stopped

module _ (rules bundle : List ℕ) where
  mark_writes : (marks partners marks' partners' : List ℕ) (r : DzyCounts) → Mark rules bundle marks partners r marks' partners' → Refused r.refused → (marks' ≡ marks) × (partners' ≡ partners)
  mark_writes marks partners marks' partners' r p low =
      let a : Answer Marked = marking rules bundle (length marks) (length partners) in
      let stopped = (mark_tells rules bundle marks partners marks' partners' r p).refused low in
      (p.marks ∙ nothing_laid a stopped.refusal stopped.is (λ m. m.marks) marks, p.partners ∙ nothing_laid a stopped.refusal stopped.is (λ m. m.partners) partners)

  kept_writes : (out out' : List ℕ) (r : DzyLength) → WriteKept rules bundle out r out' → Refused r.refused → out' ≡ out
  kept_writes out out' r p low = p.memory ∙ no_bytes (keeping rules bundle (length out)) _ out ((write_kept_tells rules bundle out out' r p).refused low).is

  records_write : (row row' : List Record) (r : DzyLength) → Records rules bundle row r row' → Refused r.refused → row' ≡ row
  records_write row row' r p low = p.memory ∙ no_bytes (hand_records rules bundle (length row)) _ row ((records_tells rules bundle row row' r p).refused low).is

  row_writes : (row : List Record) (out out' : List ℕ) (r : DzyLength) → WriteRecords rules row out r out' → Refused r.refused → out' ≡ out
  row_writes row out out' r p low = p.memory ∙ no_bytes (write_row rules (length out) row) _ out ((write_records_tells rules row out out' r p).refused low).is

reader_writes : (before left : Reader) (r : DzyYield) → ReaderNext before r left → Refused r.refused → left ≡ before
reader_writes before left r p low =
    let src : left.src ≡ before.src = p.bundle in
    let at : left.at ≡ before.at = p.next ∙ refused_stays before.src.now before.at _ ((reader_next_tells before left r p).refused low).is in
    λ i. record { src = src i; at = at i }

pub writes_nothing : (rules bundle : List ℕ) → WritesNothing rules bundle
writes_nothing rules bundle =
    record {
      mark = mark_writes rules bundle;
      write_kept = kept_writes rules bundle;
      records = records_write rules bundle;
      write_records = row_writes rules bundle;
      reader_next = reader_writes;
    }

-- ---- a bundle over a limit
module _ (rules bundle : List ℕ) where
  stopped_at_count : (h : Head) (n : Read ℕ) → check_rules rules ≡ Ok h → number_at bundle 0 most_number Bundle ≡ Ok n → most_facts < n.value → opening rules bundle ≡ Err (refusal Count Bundle 0)
  unfolding opening check_bundle tested_at at_most
  stopped_at_count h n accepted counted over = rw (accepted, counted, lt-leb n.value most_facts over)

  too_many : (h : Head) (n : Read ℕ) (r : DzyLength) → check_rules rules ≡ Ok h → number_at bundle 0 most_number Bundle ≡ Ok n → most_facts < n.value
      → CheckBundle rules bundle r → r.refused ≡ refused (refusal Count Bundle 0)
  unfolding CheckBundle
  too_many h n r accepted counted over p =
      ap (λ (x : DzyLength). x.refused) (p ∙ ap (λ (o : Answer Inputs). shown_length (over_answer (λ i. i.facts.count) o)) (stopped_at_count h n accepted counted over))

  few_rules : (a : BothRead rules bundle) → (a.head.concepts ≤ most_concepts) × (a.head.roles ≤ most_roles) × (a.head.rules ≤ most_rules)
  unfolding head_of
  few_rules a =
      let c = went (count_at rules 0 most_concepts Rules) _ (accepted_rules rules a.head a.rules_read).head in
      let q = went (count_at rules c.value.next most_roles Rules) _ c.rest in
      let n = went (count_at rules q.value.next most_rules Rules) _ q.rest in
      subst (λ (h : Head). (h.concepts ≤ most_concepts) × (h.roles ≤ most_roles) × (h.rules ≤ most_rules)) (given_once n.rest)
      ((count_there rules 0 most_concepts Rules c.value c.first).within, (count_there rules c.value.next most_roles Rules q.value q.first).within, (count_there rules q.value.next most_rules Rules n.value n.first).within)

  lawful_facts : (a : BothRead rules bundle) → LawfulFacts a.head a.facts
  unfolding read_bundle
  lawful_facts a =
      let b = over_given (facts_of bundle) (check_bundle a.head bundle) a.bundle_read in
      subst (LawfulFacts a.head) b.told (accepted_lawful a.head bundle b.value b.given)

  -- an answer that was given about files was given about files that were read
  both_read : (r : DzyLength) → CheckBundle rules bundle r → Done r.refused → BothRead rules bundle
  unfolding opening read_bundle
  both_read r p done =
      let g = (check_bundle_tells rules bundle r p).given done in
      let w = went (check_rules rules) _ g.is in
      let v = went (check_bundle w.value bundle) _ w.rest in
      record { head = w.value; facts = facts_of bundle v.value; rules_read = w.first; bundle_read = ap (over_answer (facts_of bundle)) v.first }

  opened : (h : Head) (b : Facts) → check_rules rules ≡ Ok h → check_bundle h bundle ≡ Ok b → opening rules bundle ≡ Ok (record { head = h; facts = b })
  unfolding opening
  opened h b accepted read = rw (accepted, read)

  all_counted : (a : BothRead rules bundle) (r : DzyLength) → CheckBundle rules bundle r → r ≡ shown_length (Ok (length a.facts))
  unfolding CheckBundle read_bundle
  all_counted a r p =
      let b = over_given (facts_of bundle) (check_bundle a.head bundle) a.bundle_read in
      let many : b.value.count ≡ length a.facts = sym (accepted_count a.head bundle b.value b.given) ∙ ap length b.told in
      p ∙ ap (λ (o : Answer Inputs). shown_length (over_answer (λ i. i.facts.count) o)) (opened a.head b.value a.rules_read b.given) ∙ ap (λ (n : ℕ). shown_length (Ok n)) many

  pub over_limits : OverLimits rules bundle
  over_limits = record { too_many = too_many; few_rules = few_rules; lawful_facts = lawful_facts; read = both_read; counted = all_counted }
