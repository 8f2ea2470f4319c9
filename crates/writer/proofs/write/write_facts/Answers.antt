use Rattle.std.proofs.Common.{sym, ◌∙◌, arith}
use Rattle.std.proofs.lemmas.List.{length-map}
use Rattle.std.proofs.lemmas.Result.{err_from_is_err_and}
use Rattle.writer.proofs.TwoPasses.{two_passes_of_records, both_fit}
use Rattle.writer.proofs.TwoPasses.Comes.{beyond, faulty, short, written}
use Rattle.writer.proofs.write.write_facts.Goals as goal

pub returns-then-records-gt-MOST : goal.returns-then-records-gt-MOST
returns-then-records-gt-MOST g c =
    let many = length-map c.args.records.now g.R.HasFact.fact_of in
    rw c.of_call.ensures (two_passes_of_records _ _ _ (beyond (omega (arith, many, c.if-records-gt-MOST.true))))

pub returns-in_err-judge_records : goal.returns-in_err-judge_records
returns-in_err-judge_records g c =
    let many = length-map c.args.records.now g.R.HasFact.fact_of in
    let p = err_from_is_err_and c.from_residual.result c.from_residual.ensures.1 in
    rw (p.1, p.2) (two_passes_of_records _ _ _ (faulty (omega (arith, many, c.if-records-gt-MOST.false)) _ (sym c.judge_records.ensures ∙ c.in_err-judge_records.was)))

pub returns-then-out-size : goal.returns-then-out-size
returns-then-out-size g c =
    let many = length-map c.args.records.now g.R.HasFact.fact_of in
    let less = rw c.bundle_size-size.ensures at c.if-out-size.true in
    rw c.of_call-then-out-size.ensures
    (two_passes_of_records _ _ _ (short (omega (arith, many, c.if-records-gt-MOST.false)) _ (sym c.judge_records.ensures ∙ c.in_ok-judge_records.was) less))

pub store_facts-requires : goal.store_facts-requires
store_facts-requires g c =
    let many = length-map c.args.records.now g.R.HasFact.fact_of in
    let room = rw c.bundle_size-size.ensures at c.if-out-size.false in
    both_fit _ _ _ _ (omega (arith, many, c.if-records-gt-MOST.false)) (sym c.judge_records.ensures ∙ c.in_ok-judge_records.was) room

pub returns : goal.returns
returns g c =
    let many = length-map c.args.records.now g.R.HasFact.fact_of in
    let room = rw c.bundle_size-size.ensures at c.if-out-size.false in
    two_passes_of_records _ _ _ (written (omega (arith, many, c.if-records-gt-MOST.false)) _ (sym c.judge_records.ensures ∙ c.in_ok-judge_records.was) room _ _ c.store_facts.ensures)
