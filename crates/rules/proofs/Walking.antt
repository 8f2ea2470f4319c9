-- What one call of `next` leaves of the rules of a file.
use Prim.Native.Nat.{ℕ, suc, ◌-◌, ◌<◌}
use mathlib.Core.Path.{◌≡◌, ap, ◌∙◌}
use mathlib.Core.List.{List, [], ◌∷◌}
use lib.ListN.{length}
use native.Mathlib.Omega.{arith}
use borrow.Author.Rules.{rules}
use Rattle.std.specs.Prelude.{Ok, Err}
use Rattle.number.specs.Answer.{Answer}
use Rattle.number.specs.declared.refusal.Refusal.{Refusal}
use Rattle.number.specs.declared.read.Read.{Read}
use Rattle.site.specs.Items.{onward}
use Rattle.site.specs.Told.{rule_told}
use Rattle.site.specs.declared.rule.Rule.{Rule}
use Rattle.rule.specs.OneRule.{rule_at}
use Rattle.rule.specs.Told.{rule_read}
use Rattle.rule.specs.declared.head.Head.{Head}
use Rattle.rules.specs.RuleFile.{rules_in}

module _ (h : Head) (s : List ℕ) (left at : ℕ) where
  pub none_left : left ≡ 0 → rules_in h s left at ≡ []
  unfolding rules_in
  none_left e = rw e

  module _ (more : left ≡ 0 → ⊥) where
    turn : rules_in h s left at ≡ onward (rule_at h s at) (λ r. r.value ∷ rules_in h s (left - 1) r.next)
    unfolding rules_in
    turn = let counted : left ≡ suc (left - 1) = omega arith in ap (λ (k : ℕ). rules_in h s k at) counted

    module _ (a : Answer (Read Rule)) (is : rule_read a ≡ rule_at h s at) where
      pub none_read : (r : Refusal) → a ≡ Err r → rules_in h s left at ≡ []
      none_read r e = turn ∙ rw (← is, e)

      module _ (n : Read Rule) (e : a ≡ Ok n) where
        pub one_read : rules_in h s left at ≡ rule_told n.value ∷ rules_in h s (left - 1) n.next
        one_read = turn ∙ rw (← is, e)

        pub fewer_left : length (rules_in h s (left - 1) n.next) < length (rules_in h s left at)
        fewer_left = rw one_read (omega arith)

pub ruleset walking = (none_left, none_read, one_read, fewer_left, rules)
