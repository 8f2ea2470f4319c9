-- Demand 3, with nothing assumed: accepted rules are lawful, their tables decide, accepted facts are lawful, and worlds decide of all such.
use mathlib.Core.Path.{refl, subst}
use mathlib.Core.List.{List}
use Rattle.number.proofs.Answers.{over_given}
use Rattle.site.specs.declared.fact.Fact.{Fact}
use Rattle.rules.specs.RuleFile.{site_of}
use Rattle.rules.proofs.AcceptedFile.{accepted_lawful as lawful-rules}
use Rattle.bundle.specs.Bundle.{facts_of, check_bundle, read_bundle}
use Rattle.bundle.proofs.Accepted.{accepted_lawful as lawful_facts}
use Rattle.steps.proofs.Decided.{decides}
use Rattle.worlds.specs.Demand3.{SiteDecided, Demand3}
use Rattle.worlds.proofs.SiteDecided.{site_decided}

pub demand_3 : Demand3
unfolding read_bundle site_of
demand_3 rules bundle h facts accepted read =
    let b = over_given (facts_of bundle) (check_bundle h bundle) read in
    let site = lawful-rules rules h accepted in
    subst (λ (fs : List Fact). SiteDecided h (site_of rules h) fs) b.told
    (site_decided h (site_of rules h) (facts_of bundle b.value) refl refl site (decides (site_of rules h) site) (lawful_facts h bundle b.value b.given))
