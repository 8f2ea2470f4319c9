use Rattle.std.proofs.Common.{◌∙◌, arith, ◌≡◌}
use Rattle.std.specs.Prelude.{None, Some}
use Rattle.std.proofs.lemmas.Result.{err_from_is_err_and}
use Rattle.std.proofs.lemmas.Iterator.Consumers.{nth_from_yields_List, YieldsList-from_first}
use Rattle.site.specs.declared.fact.Fact.{Fact}
use Rattle.bundle.specs.Bundle.{facts_of}
use Rattle.bundle.specs.Told.{facts_left}
use Rattle.operations.proofs.OfOperations.{none_at, some_at, ask_over, ask_past, ask_done}
use Rattle.operations.proofs.files.Files.ask.Goals as goal

pub returns-then-number-self : goal.returns-then-number-self
returns-then-number-self c = rw c.of_call.ensures (ask_past _ _ _ _ c.args.self.now.accepted _ c.if-number-self.true)

pub returns-in_err-fact : goal.returns-in_err-fact
returns-in_err-fact c =
    let p = err_from_is_err_and c.from_residual.result c.from_residual.ensures.1 in
    let got =
    nth_from_yields_List c.nth.result c.nth.new.self c.args.number c.nth.ensures.ran
    (YieldsList-from_first (λ (f : Fact). f) facts_left (facts_of c.args.self.now.bundle.now c.args.self.now.inputs.facts) c.new.ensures) in
    let is : c.nth.result ≡ None = grind arith in
    let of : c.in_err-fact.field-0.0 ≡ c.of_call-2.result = grind arith in
    rw (p.1, p.2, of, c.of_call-2.ensures) (ask_over _ _ _ _ c.args.self.now.accepted _ (none_at _ _ _ got is))

pub returns : goal.returns
returns c =
    let got =
    nth_from_yields_List c.nth.result c.nth.new.self c.args.number c.nth.ensures.ran
    (YieldsList-from_first (λ (f : Fact). f) facts_left (facts_of c.args.self.now.bundle.now c.args.self.now.inputs.facts) c.new.ensures) in
    let is : c.nth.result ≡ Some c.in_ok-fact.fact = grind arith in
    let there = some_at _ _ _ got _ is in
    let e = c.cleaning.ensures in
    ask_done _ _ _ _ c.args.self.now.accepted _ _ _ c.fill.ensures _ there.inside _ there.is _ (c.judge.ensures ∙ rw (e.bundle, e.facts, e.excluded, e.functional))
