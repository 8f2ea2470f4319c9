-- What the code's answers about a rule say.
use Rattle.std.specs.Prelude.{ℕ}
use Rattle.number.specs.Answer.{Answer, over}
use Rattle.number.specs.declared.read.Read.{Read}
use Rattle.site.specs.Kinds.{Rule as SaidRule}
use Rattle.site.specs.Told.{kind_number, rule_told}
use Rattle.site.specs.declared.rule.Kind.{Kind}
use Rattle.site.specs.declared.rule.Rule.{Rule}

-- a kind by its number, with the place after it, or the refusal
abbrev pub kind_read : Answer (Read Kind) → Answer (Read ℕ)
kind_read = over (λ k. record { value = kind_number k.value; next = k.next })

-- a rule with the place after it, or the refusal
abbrev pub rule_read : Answer (Read Rule) → Answer (Read SaidRule)
rule_read = over (λ r. record { value = rule_told r.value; next = r.next })
