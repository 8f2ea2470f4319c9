use Rattle.clean.proofs.OfSearch.{few_facts}
use Rattle.clean.proofs.OfJudging.{judged_disputed, judged_alone, judged_kept}
use Rattle.clean.proofs.cleaning.Cleaning.judge.Goals as goal

pub returns-in-Some : goal.returns-in-Some
returns-in-Some c =
    judged_disputed _ _ (few_facts c.args.self.now.bundle.now c.args.self.now.facts c.args.self.now.few) _ _ c.lowest_clash.ensures _ c.in-Some.is

pub returns-in-None : goal.returns-in-None
returns-in-None c =
    judged_alone _ _ (few_facts c.args.self.now.bundle.now c.args.self.now.facts c.args.self.now.few) _ _ c.lowest_clash.ensures c.in-None.is _ c.is_alone.ensures
    c.if-is_alone.true

pub returns-in-None-2 : goal.returns-in-None-2
returns-in-None-2 c =
    judged_kept _ _ (few_facts c.args.self.now.bundle.now c.args.self.now.facts c.args.self.now.few) _ _ c.lowest_clash.ensures c.in-None.is _ c.is_alone.ensures
    c.if-is_alone.false
