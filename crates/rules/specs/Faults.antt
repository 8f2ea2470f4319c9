-- Where the fault of a rule file stands, and which item it is about: "the number of the item there (rule or fact; 65,535 in the header and after the
-- last item)".
use Rattle.std.specs.Prelude.{ℕ, ◌≡◌, List}
use Rattle.std.specs.Prelude.{Ok, Err, None}
use Rattle.number.specs.declared.refusal.Refusal.{Refusal}
use Rattle.number.specs.declared.refusal.Side.TheVariants.{Rules}
use Rattle.site.specs.Items.{OfItem, end_at}
use Rattle.rule.specs.OneRule.{head_of}
use Rattle.rules.specs.RuleFile.{next_rule, rules_from, rules_in, next_unbroken}
use Rattle.rule.specs.declared.head.Head.{Head}

pub data RulesFault (s : List ℕ) (r : Refusal) : Type 0 where
  -- "65,535 in the header"
  in_header : head_of s ≡ Err r → r.item ≡ None → RulesFault s r
  -- the number of a rule: those before it were read, and it was not
  in_rule : (h : Head) → head_of s ≡ Ok h → OfItem (next_rule h s) h.rules h.start r → RulesFault s r
  -- 65,535 "after the last item"
  after_last : (h : Head) (end : ℕ) → head_of s ≡ Ok h → rules_from h s h.rules h.start ≡ Ok end → end_at s end Rules ≡ Err r → r.item ≡ None
      → RulesFault s r
  -- the number of "the first functional rule so broken": no rule before it is
  of_functional : (h : Head) (end : ℕ) → head_of s ≡ Ok h → rules_from h s h.rules h.start ≡ Ok end
      → OfItem (next_unbroken h s (rules_in h s h.rules h.start)) h.rules h.start r → RulesFault s r
