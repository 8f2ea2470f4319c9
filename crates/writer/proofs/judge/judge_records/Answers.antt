use Rattle.std.proofs.Common.{refl, arith}
use Rattle.writer.proofs.Left.{facts_on, facts_over}
use Rattle.writer.proofs.Judging.{judged_all, judged_faulty, judged_on}
use Rattle.writer.proofs.judge.judge_records.Goals as goal

pub loop-i-init : goal.loop-i-init
loop-i-init g c = refl

pub returns-in-Some : goal.returns-in-Some
returns-in-Some g c =
    let more = facts_on g.R.HasFact.fact_of _ _ _ _ c.index-records-i.is c.fact-fact.ensures c.loop-i-test.true in
    judged_faulty _ _ _ _ _ c.loop-i.invariant _ _ more _ c.fault_of.ensures _ c.in-Some.is _ c.new.ensures

pub loop-i-preserved : goal.loop-i-preserved
loop-i-preserved g c =
    let more = facts_on g.R.HasFact.fact_of _ _ _ _ c.index-records-i.is c.fact-fact.ensures c.loop-i-test.true in
    judged_on _ _ _ _ _ c.loop-i.invariant _ _ more _ c.fault_of.ensures c.in_default.is

pub returns : goal.returns
returns g c = judged_all _ _ _ _ _ c.loop-i.invariant (facts_over g.R.HasFact.fact_of _ _ c.loop-i-test.false) _ (omega (arith, c.loop-i-test.false, c.loop-i.auto.i-end))
