use Rattle.std.proofs.Common.{rules, ◌≡◌, inl, ap, ◌∙◌, arith}
use Rattle.std.specs.Prelude.{ℕ}
use Rattle.bundle.specs.Told.{facts_left}
use Rattle.bundle.specs.declared.facts.FactsOf.{FactsOf}
use Rattle.bundle.proofs.Left.{facts_few}
use Rattle.clashes.specs.Tally.{no_counts, tallied}
use Rattle.clean.proofs.OfSearch.{few_facts}
use Rattle.clean.proofs.OfRows.{tally_small, row_partner_fits, marking_start, marking_in_row, marking_in_pair, marking_on, marking_ends}
use Rattle.clean.proofs.cleaning.Cleaning.mark.Goals as goal

pub loop-i-init : goal.loop-i-init
loop-i-init c =
    let none : c.default-tally.result ≡ no_counts = search rules in
    let start =
    marking_start _ _ _ (ap (λ (w : FactsOf). facts_left w) c.enumerate-i-items.ensures.source ∙ c.facts.ensures) c.args.marks.now c.args.partners.now _ none _
    c.enumerate-i-items.ensures.count in
    let few = few_facts c.args.self.now.bundle.now c.args.self.now.facts c.args.self.now.few in
    rw c.into_iter-i-iterator.ensures.into_iter_gives ((tt, tt, inl (omega (arith, few, start.tally.counted, start.place))), tt, start)

pub bounds-marks-i : goal.bounds-marks-i
bounds-marks-i c =
    let steps = c.in-Some.ensures.steps in
    let few = facts_few c.args.self.now.bundle.now c.args.self.now.facts.count c.args.self.now.facts.start in
    rw steps.1 (marking_in_row _ _ _ _ _ _ _ _ _ c.loop-i.invariant.2 _ _ steps.0 (omega (arith, few, c.requires.marks)))

pub overflow_cast-partners : goal.overflow_cast-partners
overflow_cast-partners c =
    rw c.partner.ensures (row_partner_fits _ _ _ _ (few_facts c.args.self.now.bundle.now c.args.self.now.facts c.args.self.now.few) c.judge-judged.ensures)

pub offset_bounds-partners-i : goal.offset_bounds-partners-i
offset_bounds-partners-i c =
    let steps = c.in-Some.ensures.steps in
    let so = c.loop-i.invariant.2 in
    let few = few_facts c.args.self.now.bundle.now c.args.self.now.facts c.args.self.now.few in
    record { fits = omega (arith, steps.1, so.place, so.tally.counted, few) }

pub bounds-partners-i : goal.bounds-partners-i
bounds-partners-i c =
    let steps = c.in-Some.ensures.steps in
    let few = facts_few c.args.self.now.bundle.now c.args.self.now.facts.count c.args.self.now.facts.start in
    rw steps.1 (marking_in_pair _ _ _ _ _ _ _ _ _ c.loop-i.invariant.2 _ _ steps.0 (omega (arith, few, c.requires.partners)))

pub with-tally-requires : goal.with-tally-requires
with-tally-requires c = tally_small _ _ _ _ c.loop-i.invariant.2.tally _ _ c.in-Some.ensures.steps.0 (few_facts c.args.self.now.bundle.now c.args.self.now.facts c.args.self.now.few)

pub loop-i-preserved : goal.loop-i-preserved
loop-i-preserved c =
    let steps = c.in-Some.ensures.steps in
    let on = marking_on _ _ _ _ _ _ _ _ _ c.loop-i.invariant.2 _ _ steps.0 _ c.judge-judged.ensures _ _ c.mark.ensures c.partner.ensures _ (c.with-tally.ensures ∙ ap (λ (m : ℕ). tallied c.loop-i.tally m) c.mark-in-loop-i.ensures) _ steps.2 in
    let few = few_facts c.args.self.now.bundle.now c.args.self.now.facts c.args.self.now.few in
    ((tt, tt, inl (omega (arith, few, on.tally.counted, on.place))), tt, rw steps.1 on)

pub returns : goal.returns
returns c = marking_ends _ _ _ _ _ _ _ _ _ c.loop-i.invariant.2 c.in-None.ensures.steps.0.0
