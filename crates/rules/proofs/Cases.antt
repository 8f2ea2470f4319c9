-- Document 01's rule files, and the smallest ones, as one statement over one list: each is some bytes, with the head or the refusal that is expected.
use Prim.Native.Nat.{ℕ}
use mathlib.Core.Path.{◌≡◌, refl}
use mathlib.Core.List.{List, [], ◌∷◌, map}
use Rattle.number.specs.Answer.{Answer, refusal, of_item, fault_of}
use Rattle.std.specs.Prelude.{Ok, Err}
use Rattle.number.specs.Number.{third, second, form_of, number_at}
use Rattle.number.specs.declared.refusal.Side.TheVariants.{Rules}
use Rattle.site.specs.Codes.{role_of, concept_of, concept_declared}
use Rattle.site.specs.Items.{tested_at, at_most, items_from, end_at}
use Rattle.site.specs.Lists.{any}
use Rattle.rule.specs.OneRule.{head_of, code_declared, rule_at}
use Rattle.rules.specs.RuleFile.{next_rule, rules_in, next_unbroken, after_rules, check_rules}
use Rattle.rule.specs.declared.head.Head.{Head}

pub record Case : Type 0 where
  pub bytes : List ℕ
  pub expected : Answer Head

abbrev pub is : List ℕ → ℕ → ℕ → ℕ → ℕ → Case
is bytes concepts roles rules start = record { bytes = bytes; expected = Ok (record { concepts = concepts; roles = roles; rules = rules; start = start }) }

-- refused in the header or after the last rule
abbrev pub refused : List ℕ → ℕ → ℕ → Case
refused bytes number place = record { bytes = bytes; expected = Err (refusal (fault_of number) Rules place) }

-- refused in a rule
abbrev pub refused_in : ℕ → List ℕ → ℕ → ℕ → Case
refused_in rule bytes number place = record { bytes = bytes; expected = Err (of_item rule (refusal (fault_of number) Rules place)) }

abbrev pub cases : List Case
cases =
    -- the worked site's rule file R
    is (0x02 ∷ 0x01 ∷ 0x05 ∷ 0x01 ∷ 0x00 ∷ 0x01 ∷ 0x00 ∷ 0x01 ∷ 0x40 ∷ 0x00 ∷ 0x41 ∷ 0x00 ∷ 0x04 ∷ 0x00 ∷ 0x03 ∷ 0x00 ∷ 0x01 ∷ []) 2 1 5 3
    -- "uplink is empty"
    ∷ is (0x02 ∷ 0x01 ∷ 0x04 ∷ 0x01 ∷ 0x00 ∷ 0x01 ∷ 0x00 ∷ 0x01 ∷ 0x40 ∷ 0x00 ∷ 0x41 ∷ 0x00 ∷ 0x00 ∷ 0x41 ∷ 0x01 ∷ []) 2 1 4 3
    ∷ is (0x00 ∷ 0x00 ∷ 0x00 ∷ []) 0 0 0 3
    -- "refusal 6 at 3"
    ∷ refused_in 0 (0x00 ∷ 0x01 ∷ 0x02 ∷ 0x04 ∷ 0x00 ∷ 0x02 ∷ 0x01 ∷ 0x01 ∷ []) 6 3
    -- 7 is judged before 6
    ∷ refused (0x00 ∷ 0x01 ∷ 0x02 ∷ 0x04 ∷ 0x00 ∷ 0x02 ∷ 0x01 ∷ 0x01 ∷ 0x00 ∷ []) 7 8
    -- a file of no bytes
    ∷ refused [] 1 0
    ∷ []

pub rule_files : map (λ c. check_rules c.bytes) cases ≡ map (λ c. c.expected) cases
unfolding number_at form_of second third tested_at at_most items_from end_at role_of concept_of concept_declared any head_of code_declared rule_at next_rule rules_in next_unbroken after_rules check_rules
rule_files = refl
