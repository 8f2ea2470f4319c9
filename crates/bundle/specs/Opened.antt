-- Reading both files: the rules, then the bundle under them.
use Rattle.std.specs.Prelude.{ℕ, ◌≡◌, List}
use Rattle.number.specs.Answer.{Answer, ◌then◌}
use Rattle.std.specs.Prelude.{Ok}
use Rattle.rules.specs.RuleFile.{check_rules}
use Rattle.rule.specs.declared.head.Head.{Head}
use Rattle.bundle.specs.Bundle.{check_bundle}
use Rattle.bundle.specs.declared.facts.Facts.{Facts}
use Rattle.bundle.specs.declared.open.Inputs.{Inputs}

-- "rules, then bundle": what both give, or the first refusal
unfoldable pub opening : List ℕ → List ℕ → Answer Inputs
opening rules bundle = check_rules rules then λ h. check_bundle h bundle then λ b. Ok (record { head = h; facts = b })

-- accepted rules and an accepted bundle
pub record Accepted (rules bundle : List ℕ) (h : Head) (b : Facts) : Type 0 where
  pub of_rules : check_rules rules ≡ Ok h
  pub of_bundle : check_bundle h bundle ≡ Ok b
