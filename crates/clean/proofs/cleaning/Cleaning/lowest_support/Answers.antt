use Rattle.std.proofs.Common.{rules, tests, inl, ap, ◌∙◌, arith, length, List}
use Rattle.std.proofs.lemmas.Iterator.Consumers.{YieldsList-from_first}
use Rattle.std.proofs.lemmas.Iterator.Search.{position_from_yields_List}
use Rattle.site.specs.declared.fact.Fact.{Fact}
use Rattle.bundle.specs.Told.{facts_left}
use Rattle.clean.specs.Cleaning.{the_facts}
use Rattle.clean.proofs.OfSearch.{few_facts, supporting, support_found}
use Rattle.clean.proofs.cleaning.Cleaning.lowest_support.Goals as goal

pub position-requires-clause-fits : goal.position-requires-clause-fits
position-requires-clause-fits c =
    let few = few_facts c.args.self.now.bundle.now c.args.self.now.facts c.args.self.now.few in
    inl (omega (arith, few, ap (λ (l : List Fact). length l) c.facts.ensures))

pub returns : goal.returns
returns c =
    position_from_yields_List
    (supporting c.args.included.now c.args.self.now.by.excluded.now c.args.self.now.by.functional c.args.self.now.bundle.now c.args.self.now.facts c.args.asked)
    c.position.new.self _ _ c.position.ensures.ran
    (YieldsList-from_first (λ (g : Fact). g) facts_left (the_facts c.args.self.now) c.facts.ensures)
    (λ g b q k. search (rules, tests))
    ∙ support_found _ _ _ _ _ _
