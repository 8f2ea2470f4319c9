use Rattle.std.proofs.Common.{rules, tests, inl, ap, sym, ◌∙◌, arith, length, List}
use Rattle.std.proofs.lemmas.Iterator.Consumers.{YieldsList-from_first}
use Rattle.std.proofs.lemmas.Iterator.Search.{position_from_yields_List}
use Rattle.site.specs.declared.fact.Fact.{Fact}
use Rattle.bundle.specs.Told.{facts_left}
use Rattle.clashes.specs.Types.{itself}
use Rattle.clashes.specs.Marks.{clash}
use Rattle.clean.specs.Cleaning.{the_facts, follows}
use Rattle.clean.proofs.OfSearch.{few_facts, lowest_of_alone, clash_is, lowest_found}
use Rattle.clean.proofs.cleaning.Cleaning.lowest_clash.Goals as goal

pub returns-then-is_alone : goal.returns-then-is_alone
returns-then-is_alone c = lowest_of_alone _ _ _ c.is_alone.ensures c.if-is_alone.true _

pub position-requires-clause-fits : goal.position-requires-clause-fits
position-requires-clause-fits c =
    let few = few_facts c.args.self.now.bundle.now c.args.self.now.facts c.args.self.now.few in
    inl (omega (arith, few, ap (λ (l : List Fact). length l) c.facts.ensures))

pub returns : goal.returns
returns c =
    position_from_yields_List (clash itself (follows c.args.self.now) c.args.f) c.position.new.self _ _ c.position.ensures.ran
    (YieldsList-from_first (λ (g : Fact). g) facts_left (the_facts c.args.self.now) c.facts.ensures)
    (λ g b q k. (search (rules, tests), sym (clash_is _ _ _ c.is_alone.ensures c.if-is_alone.false g b (search (rules, tests)))))
    ∙ lowest_found _ _ _ (few_facts c.args.self.now.bundle.now c.args.self.now.facts c.args.self.now.few)
