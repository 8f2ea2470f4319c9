-- The rule file: its rules, or its refusal, as a function of its bytes.
use Rattle.std.specs.Prelude.{ℕ, zero, suc, Bool, false, cond, List, [], ◌∷◌, eqb}
use Rattle.number.specs.Answer.{Answer, refusal, over, ◌then◌}
use Rattle.number.specs.declared.refusal.Fault.TheVariants.{Broken}
use Rattle.number.specs.declared.refusal.Side.TheVariants.{Rules}
use Rattle.std.specs.Prelude.{Ok, Err}
use Rattle.site.specs.Kinds.{Rule, Site, role_in}
use Rattle.site.specs.Kinds.Rule.{included, disjoint, role_included, role_disjoint, functional}
use Rattle.site.specs.Lists.{any}
use Rattle.site.specs.Items.{items_from, end_at, onward}
use Rattle.rule.specs.OneRule.{head_of, rule_at}
use Rattle.rule.specs.declared.head.Head.{Head}

-- the place after a rule
unfoldable pub next_rule : Head → List ℕ → ℕ → Answer ℕ
next_rule h s at = over (λ r. r.next) (rule_at h s at)

-- so many rules from a place on, numbered from 0: the place after them
abbrev pub rules_from : Head → List ℕ → ℕ → ℕ → Answer ℕ
rules_from h s n at = items_from (next_rule h s) 0 n at

-- so many rules from a place on, as far as they can be read
unfoldable pub rules_in : Head → List ℕ → ℕ → ℕ → List Rule
rules_in h s zero at = []
rules_in h s (suc n) at = onward (rule_at h s at) (λ r. r.value ∷ rules_in h s n r.next)

-- "If q or its inverse is functional, neither may stand on the right of a kind 2 rule, its own inclusion in itself counted"
abbrev pub on_right : ℕ → Rule → Bool
on_right j (role_included p q) = eqb (role_in q) j
on_right j (included b c) = false
on_right j (disjoint b c) = false
on_right j (role_disjoint p q) = false
on_right j (functional q) = false

-- a functional rule whose role stands on the right of some rule
abbrev pub broken : List Rule → Rule → Bool
broken rules (functional q) = any (on_right (role_in q)) rules
broken rules (included b c) = false
broken rules (disjoint b c) = false
broken rules (role_included p q) = false
broken rules (role_disjoint p q) = false

-- refusal 6: "a functional role stands on the right of a kind 2 rule", at "the kind of the first functional rule so broken"
unfoldable pub next_unbroken : Head → List ℕ → List Rule → ℕ → Answer ℕ
next_unbroken h s rules at = rule_at h s at then λ r. cond (broken rules r.value) (Err (refusal Broken Rules at)) (Ok r.next)

-- so many rules from a place on, none of them broken
abbrev pub unbroken : Head → List ℕ → List Rule → ℕ → ℕ → Answer ℕ
unbroken h s rules n at = items_from (next_unbroken h s rules) 0 n at

-- "After the last item 7, then 6."
unfoldable pub after_rules : List ℕ → Head → ℕ → Answer Head
after_rules s h end =
    end_at s end Rules then λ _.
    unbroken h s (rules_in h s h.rules h.start) h.rules h.start then λ _.
    Ok h

-- the whole reading
unfoldable pub check_rules : List ℕ → Answer Head
check_rules s =
    head_of s then λ h.
    rules_from h s h.rules h.start then λ end.
    after_rules s h end

-- the rules that a file's head and bytes say
unfoldable pub site_of : List ℕ → Head → Site
site_of s h = record { concepts = h.concepts; roles = h.roles; rules = rules_in h s h.rules h.start }
