-- Reading both files: what the answer says of the rules and of the bundle.
use Prim.Native.Nat.{ℕ}
use mathlib.Core.Path.{◌≡◌, subst}
use mathlib.Core.List.{List}
use Rattle.number.specs.Answer.{Answer, ◌then◌}
use Rattle.std.specs.Prelude.{Ok}
use Rattle.number.proofs.Answers.{given_once as same-given, went}
use Rattle.rules.specs.RuleFile.{check_rules}
use Rattle.rule.specs.declared.head.Head.{Head}
use Rattle.bundle.specs.Bundle.{check_bundle}
use Rattle.bundle.specs.Opened.{opening, Accepted}
use Rattle.bundle.specs.declared.facts.Facts.{Facts}
use Rattle.bundle.specs.declared.open.Inputs.{Inputs}

-- what accepted files give, and that files which give something were accepted
pub opening_given : (rules bundle : List ℕ) (h : Head) (b : Facts) → Accepted rules bundle h b → opening rules bundle ≡ Ok (record { head = h; facts = b })
unfolding opening
opening_given rules bundle h b acc = rw (acc.of_rules, acc.of_bundle)

pub opening_accepted : (rules bundle : List ℕ) (i : Inputs) → opening rules bundle ≡ Ok i → Accepted rules bundle i.head i.facts
unfolding opening
opening_accepted rules bundle i e =
    let k : Head → Facts → Answer Inputs = λ h b. Ok (record { head = h; facts = b }) in
    let w = went (check_rules rules) (λ h. check_bundle h bundle then k h) e in
    let v = went (check_bundle w.value bundle) (k w.value) w.rest in
    let same : record { head = w.value; facts = v.value } ≡ i = same-given v.rest in
    let accepted : Accepted rules bundle w.value v.value = record { of_rules = w.first; of_bundle = v.first } in
    subst (λ (j : Inputs). Accepted rules bundle j.head j.facts) same accepted
