use Rattle.std.proofs.Common.{rules, ◌≡◌, ap, ◌∙◌}
use Rattle.std.specs.Prelude.{ℕ}
use Rattle.clashes.specs.Tally.{no_counts, tallied}
use Rattle.clean.proofs.OfSearch.{few_facts}
use Rattle.clean.proofs.OfRows.{tally_start, tally_small, tally_on, tally_ends}
use Rattle.clean.proofs.cleaning.Cleaning.count.Goals as goal

pub loop-f-init : goal.loop-f-init
loop-f-init c =
    let none : c.default-tally.result ≡ no_counts = search rules in
    rw c.into_iter-f-iterator.ensures.into_iter_gives (tally_start _ _ _ c.facts-f-items.ensures _ none)

pub with-tally-requires : goal.with-tally-requires
with-tally-requires c = tally_small _ _ _ _ c.loop-f.invariant _ _ c.in-Some.ensures.steps (few_facts c.args.self.now.bundle.now c.args.self.now.facts c.args.self.now.few)

pub loop-f-preserved : goal.loop-f-preserved
loop-f-preserved c = tally_on _ _ _ _ c.loop-f.invariant _ _ c.in-Some.ensures.steps _ c.judge.ensures _ (c.with-tally.ensures ∙ ap (λ (m : ℕ). tallied c.loop-f.tally m) c.mark.ensures)

pub returns : goal.returns
returns c = tally_ends _ _ _ _ c.loop-f.invariant c.in-None.ensures.steps.0
