-- The two numbers of Longest are exact: a rule file of 1,540 bytes is accepted, and two longer ones that agree on 1,541 bytes get two answers.
-- Both are made of rules `00 00 00`, by which concept 0 is included in itself; a walk over these goes three bytes on each.
use Prim.Native.Nat.{ℕ, zero, suc, ◌+◌, ◌*◌}
use mathlib.Core.Path.{◌≡◌, refl, sym, ap, ap₂, ◌∙◌}
use mathlib.Core.Bool.{Bool, true}
use mathlib.Core.List.{List, [], ◌∷◌}
use lib.ListN.{length, take, drop}
use lib.Seq.{drop-drop}
use native.Mathlib.Omega.{arith}
use Rattle.number.specs.Answer.{Answer, refusal, of_item}
use Rattle.std.specs.Prelude.{Ok, Err}
use Rattle.number.specs.Number.{third, second, form_of, number_at}
use Rattle.number.specs.Number.Form.{fault}
use Rattle.number.specs.declared.refusal.Fault.{Fault}
use Rattle.number.specs.declared.refusal.Fault.TheVariants.{Long, Over, Unknown, Kind}
use Rattle.number.specs.declared.refusal.Side.TheVariants.{Rules}
use Rattle.site.specs.Codes.{concept_declared, rule_of}
use Rattle.site.specs.Kinds.{Rule}
use Rattle.site.specs.Items.{tested_at, at_most, items_from, end_at}
use Rattle.site.specs.Limits.{last_kind}
use Rattle.rule.specs.OneRule.{head_of, code_declared, rule_at}
use Rattle.rules.specs.RuleFile.{next_rule, rules_in, next_unbroken, after_rules, check_rules}
use Rattle.rule.specs.declared.head.Head.{Head}
use Rattle.rules.proofs.Longest.{longest}

-- so many rules, and what follows them
abbrev pub rules_before : ℕ → List ℕ → List ℕ
rules_before zero last = last
rules_before (suc m) last = 0x00 ∷ 0x00 ∷ 0x00 ∷ rules_before m last

-- one concept, no role, 512 rules
abbrev pub file : List ℕ → List ℕ
file rules = 0x01 ∷ 0x00 ∷ 0x80 ∷ 0x04 ∷ rules

abbrev pub head : Head
head = record { concepts = 1; roles = 0; rules = 512; start = 4 }

kind_0 : at_most last_kind 0 ≡ true
unfolding at_most
kind_0 = refl

code_0 : code_declared head 0 0 ≡ true
unfolding code_declared concept_declared
code_0 = refl

the_head : (rules : List ℕ) → head_of (file rules) ≡ Ok head
unfolding head_of tested_at at_most number_at form_of second
the_head rules = refl

-- the walks over such rules
module _ (s : List ℕ) where
  further : (at : ℕ) (l : List ℕ) → drop at s ≡ 0x00 ∷ l → drop (at + 1) s ≡ l
  further at l e = sym (drop-drop 1 at s) ∙ ap (drop 1) e

  zero_there : (test : ℕ → Bool) (unless : Fault) → test 0 ≡ true → (at : ℕ) (l : List ℕ) → drop at s ≡ 0x00 ∷ l → tested_at s at test unless Rules ≡ Ok (record { value = 0; next = at + 1 })
  unfolding tested_at number_at form_of
  zero_there test unless k at l e = rw (e, k)

  code_faulty : (known : ℕ → Bool) (number : Fault) (at : ℕ) → form_of (drop at s) ≡ fault number → tested_at s at known Unknown Rules ≡ Err (refusal number Rules at)
  unfolding tested_at number_at
  code_faulty known number at e = rw e

  rule_there : (at : ℕ) (l : List ℕ) → drop at s ≡ 0x00 ∷ 0x00 ∷ 0x00 ∷ l → rule_at head s at ≡ Ok (record { value = rule_of 0 0 0; next = at + 1 + 1 + 1 })
  unfolding rule_at
  rule_there at l e =
      let e₁ = further at (0x00 ∷ 0x00 ∷ l) e in
      let e₂ = further (at + 1) (0x00 ∷ l) e₁ in
      rw (
        zero_there (at_most last_kind) Kind kind_0 at (0x00 ∷ 0x00 ∷ l) e,
        zero_there (code_declared head 0) Unknown code_0 (at + 1) (0x00 ∷ l) e₁,
        zero_there (code_declared head 0) Unknown code_0 (at + 1 + 1) l e₂,
      )

  after_rule : (at : ℕ) (l : List ℕ) → drop at s ≡ 0x00 ∷ 0x00 ∷ 0x00 ∷ l → drop (at + 1 + 1 + 1) s ≡ l
  after_rule at l e = further (at + 1 + 1) l (further (at + 1) (0x00 ∷ l) (further at (0x00 ∷ 0x00 ∷ l) e))

  -- any walk that goes on where such a rule ends
  module _ (read : ℕ → Answer ℕ) (passes : (at : ℕ) (l : List ℕ) → drop at s ≡ 0x00 ∷ 0x00 ∷ 0x00 ∷ l → read at ≡ Ok (at + 1 + 1 + 1)) where
    rules_there : (k m at : ℕ) (last : List ℕ) → drop at s ≡ rules_before m last → items_from read k m at ≡ Ok (at + 3 * m)
    unfolding items_from
    rules_there k zero at last e = let none : at ≡ at + 3 * 0 = omega arith in ap Ok none
    rules_there k (suc m) at last e =
        let on : at + 1 + 1 + 1 + 3 * m ≡ at + 3 * suc m = omega arith in
        rw (passes at (rules_before m last) e)
        (rules_there (k + 1) m (at + 1 + 1 + 1) last (after_rule at (rules_before m last) e) ∙ ap Ok on)

  next_there : (at : ℕ) (l : List ℕ) → drop at s ≡ 0x00 ∷ 0x00 ∷ 0x00 ∷ l → next_rule head s at ≡ Ok (at + 1 + 1 + 1)
  unfolding next_rule
  next_there at l e = rw (rule_there at l e)

  unbroken_there : (rules : List Rule) (at : ℕ) (l : List ℕ) → drop at s ≡ 0x00 ∷ 0x00 ∷ 0x00 ∷ l → next_unbroken head s rules at ≡ Ok (at + 1 + 1 + 1)
  unfolding next_unbroken
  unbroken_there rules at l e = rw (rule_there at l e)

  -- a second code that is a fault
  rule_faulty : (number : Fault) (at : ℕ) (last : List ℕ) → form_of last ≡ fault number → drop at s ≡ 0x00 ∷ 0x00 ∷ last → rule_at head s at ≡ Err (refusal number Rules (at + 1 + 1))
  unfolding rule_at
  rule_faulty number at last is e =
      let e₁ = further at (0x00 ∷ last) e in
      let e₂ = further (at + 1) last e₁ in
      rw (
        zero_there (at_most last_kind) Kind kind_0 at (0x00 ∷ last) e,
        zero_there (code_declared head 0) Unknown code_0 (at + 1) last e₁,
        code_faulty (code_declared head 0) number (at + 1 + 1) (ap form_of e₂ ∙ is),
      )

  rules_faulty : (number : Fault) (k m at : ℕ) (last : List ℕ) → form_of last ≡ fault number → drop at s ≡ rules_before m (0x00 ∷ 0x00 ∷ last)
      → items_from (next_rule head s) k (suc m) at ≡ Err (of_item (k + m) (refusal number Rules (at + 3 * m + 2)))
  unfolding items_from next_rule
  rules_faulty number k zero at last is e =
      let place : at + 1 + 1 ≡ at + 3 * 0 + 2 = omega arith in
      let item : k ≡ k + 0 = omega arith in
      rw (rule_faulty number at last is e) (ap₂ (λ (p i : ℕ). Err (of_item i (refusal number Rules p))) place item)
  rules_faulty number k (suc m) at last is e =
      let place : at + 1 + 1 + 1 + 3 * m + 2 ≡ at + 3 * suc m + 2 = omega arith in
      let item : k + 1 + m ≡ k + suc m = omega arith in
      rw (rule_there at (rules_before m (0x00 ∷ 0x00 ∷ last)) e)
      (rules_faulty number (k + 1) m (at + 1 + 1 + 1) last is (after_rule at (rules_before m (0x00 ∷ 0x00 ∷ last)) e)
      ∙ ap₂ (λ (p i : ℕ). Err (of_item i (refusal number Rules p))) place item)

-- as long as can be, and accepted
abbrev pub whole : List ℕ
whole = file (rules_before 512 [])

pub whole_length : length whole ≡ longest
whole_length = refl

pub whole_accepted : check_rules whole ≡ Ok head
unfolding check_rules after_rules end_at
whole_accepted =
    let rules : List Rule = rules_in head whole 512 4 in
    rw (
      the_head (rules_before 512 []),
      rules_there whole (next_rule head whole) (next_there whole) 0 512 4 [] refl,
      rules_there whole (next_unbroken head whole rules) (unbroken_there whole rules) 0 512 4 [] refl,
    )

-- two bytes longer, and the last code has three: the first 1,541 bytes are the same, and then the third is over a number's form, or 0
abbrev pub over : List ℕ
over = file (rules_before 511 (0x00 ∷ 0x00 ∷ 0x80 ∷ 0x80 ∷ 0x80 ∷ []))

abbrev pub zeroed : List ℕ
zeroed = file (rules_before 511 (0x00 ∷ 0x00 ∷ 0x80 ∷ 0x80 ∷ 0x00 ∷ []))

pub over_length : length over ≡ longest + 2
over_length = refl

pub zeroed_length : length zeroed ≡ longest + 2
zeroed_length = refl

pub both_agree : take (longest + 1) over ≡ take (longest + 1) zeroed
both_agree = refl

faults : (last : List ℕ) (number : Fault) → form_of last ≡ fault number → check_rules (file (rules_before 511 (0x00 ∷ 0x00 ∷ last))) ≡ Err (of_item 511 (refusal number Rules 1539))
unfolding check_rules
faults last number is =
    rw (the_head (rules_before 511 (0x00 ∷ 0x00 ∷ last)), rules_faulty (file (rules_before 511 (0x00 ∷ 0x00 ∷ last))) number 0 511 4 last is refl)

pub over_refused : check_rules over ≡ Err (of_item 511 (refusal Over Rules 1539))
unfolding form_of second third
over_refused = faults (0x80 ∷ 0x80 ∷ 0x80 ∷ []) Over refl

pub zeroed_refused : check_rules zeroed ≡ Err (of_item 511 (refusal Long Rules 1539))
unfolding form_of second third
zeroed_refused = faults (0x80 ∷ 0x80 ∷ 0x00 ∷ []) Long refl
