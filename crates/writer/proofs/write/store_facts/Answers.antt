use Rattle.std.proofs.lemmas.List.{length-map}
use Rattle.writer.proofs.Left.{facts_on, facts_over}
use Rattle.writer.proofs.Laying.{count_fits, lay_starts, lay_fits, lay_on, lay_ends}
use Rattle.writer.proofs.write.store_facts.Goals as goal

pub put_number-at-requires : goal.put_number-at-requires
put_number-at-requires g c = rw (← (length-map c.args.records.now g.R.HasFact.fact_of)) (count_fits _ _ c.requires)

pub loop-record-init : goal.loop-record-init
loop-record-init g c = lay_starts _ _ c.requires _ _ (rw (length-map c.args.records.now g.R.HasFact.fact_of) c.put_number-at.ensures)

pub write_fact-at-requires : goal.write_fact-at-requires
write_fact-at-requires g c =
    let more = facts_on g.R.HasFact.fact_of _ _ _ _ c.record-item.is c.fact-fact.ensures c.loop-record-test.true in
    lay_fits _ _ c.requires _ _ _ c.loop-record.invariant _ _ more

pub loop-record-preserved : goal.loop-record-preserved
loop-record-preserved g c =
    let more = facts_on g.R.HasFact.fact_of _ _ _ _ c.record-item.is c.fact-fact.ensures c.loop-record-test.true in
    lay_on _ _ c.requires _ _ _ c.loop-record.invariant _ _ more _ _ c.write_fact-at.ensures

pub returns : goal.returns
returns g c = lay_ends _ _ c.requires _ _ _ c.loop-record.invariant (facts_over g.R.HasFact.fact_of _ _ c.loop-record-test.false)
