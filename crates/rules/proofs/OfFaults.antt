-- The item of a rule file's refusal is that of the rule there, and none in the header and after the last rule.
use Prim.Native.Nat.{ℕ}
use mathlib.Core.Path.{◌≡◌, sym}
use mathlib.Core.List.{List}
use Rattle.number.specs.Answer.{◌then◌}
use Rattle.std.specs.Prelude.{Ok, Err}
use Rattle.number.specs.declared.refusal.Refusal.{Refusal}
use Rattle.number.specs.declared.refusal.Fault.TheVariants.{Count}
use Rattle.number.specs.declared.refusal.Side.TheVariants.{Rules}
use Rattle.number.proofs.Answers.{Halts, halts, never}
use Rattle.number.proofs.Answers.Halts.{at_first, at_rest}
use Rattle.number.proofs.Refusing.{Refuses, refuses_gives, refuses_then}
use Rattle.site.specs.Items.{at_most, count_at, end_at}
use Rattle.site.specs.Limits.{most_concepts, most_roles, most_rules}
use Rattle.site.proofs.InFile.{OfNone, tested_of_none, end_of_none}
use Rattle.site.proofs.Numbered.{of_item_lem}
use Rattle.rules.specs.Faults.{RulesFault}
use Rattle.rules.specs.Faults.RulesFault.{in_header, in_rule, after_last, of_functional}
use Rattle.rule.specs.OneRule.{head_of}
use Rattle.rules.specs.RuleFile.{next_rule, rules_from, rules_in, next_unbroken, unbroken, after_rules, check_rules}
use Rattle.rule.specs.declared.head.Head.{Head}

module _ (s : List ℕ) where
  head_of_none : Refuses OfNone (head_of s)
  unfolding head_of
  head_of_none =
      refuses_then _ (count_at s 0 most_concepts Rules) _ (tested_of_none s 0 (at_most most_concepts) Count Rules)
      (λ c e.
      refuses_then _ (count_at s c.next most_roles Rules) _ (tested_of_none s c.next (at_most most_roles) Count Rules)
      (λ q f.
      refuses_then _ (count_at s q.next most_rules Rules) _ (tested_of_none s q.next (at_most most_rules) Count Rules) (λ n g. refuses_gives _ _)))

  module _ (r : Refusal) where
    module _ (h : Head) (is-head : head_of s ≡ Ok h) where
      module _ (end : ℕ) (read : rules_from h s h.rules h.start ≡ Ok end) where
        functional : Halts (unbroken h s (rules_in h s h.rules h.start) h.rules h.start) (λ last. Ok h) r → RulesFault s r
        functional (at_first e) = of_functional h end is-head read (of_item_lem (next_unbroken h s (rules_in h s h.rules h.start)) h.rules h.start r e)
        functional (at_rest last f e) = absurd (never (sym e))

        ends : Halts (end_at s end Rules) (λ at. unbroken h s (rules_in h s h.rules h.start) h.rules h.start then λ last. Ok h) r → RulesFault s r
        ends (at_first e) = after_last h end is-head read e (end_of_none s end Rules r e)
        ends (at_rest at f e) = functional (halts _ _ r e)

        after : after_rules s h end ≡ Err r → RulesFault s r
        unfolding after_rules
        after e = ends (halts _ _ r e)

      rules : Halts (rules_from h s h.rules h.start) (after_rules s h) r → RulesFault s r
      rules (at_first e) = in_rule h is-head (of_item_lem (next_rule h s) h.rules h.start r e)
      rules (at_rest end f e) = after end f e

    head : Halts (head_of s) (λ h. rules_from h s h.rules h.start then λ end. after_rules s h end) r → RulesFault s r
    head (at_first e) = in_header e (head_of_none r e)
    head (at_rest h f e) = rules h f (halts _ _ r e)

    pub rules_fault : check_rules s ≡ Err r → RulesFault s r
    unfolding check_rules
    rules_fault e = head (halts _ _ r e)
