-- Where a rule file's refusal stands: on side 0, at one of the bytes, or for refusal 1 at their end. Said of every answer on the way,
-- refusals 7 and 6 after the last rule among them, and put together as the reading is.
use Prim.Native.Nat.{ℕ, ◌≤◌, ◌<◌}
use mathlib.Core.Logic.{◌⊎◌, inl, inr}
use mathlib.Core.Path.{◌≡◌, refl}
use mathlib.Core.Bool.{Bool}
use mathlib.Core.List.{List}
use lib.ListN.{length}
use lib.Dec.{eqb}
use native.Mathlib.Omega.{arith}
use Rattle.number.specs.Answer.{Answer, refusal}
use Rattle.std.specs.Prelude.{Ok, Err}
use Rattle.number.specs.declared.refusal.Refusal.{Refusal}
use Rattle.number.specs.declared.read.Read.{Read}
use Rattle.number.specs.declared.refusal.Fault.TheVariants.{Count, Unknown, Broken, Kind}
use Rattle.number.specs.declared.refusal.Side.TheVariants.{Rules}
use Rattle.number.proofs.Answers.{went, not_stopped, given_once, over_given, Given, given_gives, given_test, given_then}
use Rattle.number.proofs.Refusing.{Refuses, refuses_gives, refuses_so, refuses_test, refuses_over, refuses_then}
use Rattle.site.specs.Kinds.{Rule}
use Rattle.site.specs.Items.{at_most, count_at, code_at, end_at}
use Rattle.site.specs.Limits.{most_concepts, most_roles, most_rules, last_kind, functional_kind}
use Rattle.site.proofs.InFile.{InFile, at_a_byte, tested_placed, items_placed, end_placed, after_tested, tested_starts}
use Rattle.rule.specs.OneRule.{head_of, code_declared, kind_at, rule_at}
use Rattle.rules.specs.RuleFile.{next_rule, rules_from, rules_in, broken, next_unbroken, unbroken, after_rules, check_rules}
use Rattle.rule.specs.declared.head.Head.{Head}

-- the numbers of a rule file's refusals: 1 to 7, and 11
abbrev pub OfRules : ℕ → Type 0
OfRules n = (n ≤ 7) ⊎ (n ≡ 11)

-- a refusal of the rule file, with one of these numbers, at one of its bytes or at their end
abbrev pub InRules : List ℕ → Refusal → Type 0
InRules s r = InFile Rules OfRules s r

of_numbers : (n : ℕ) → n ≤ 3 → OfRules n
of_numbers n h = inl (omega arith)

module _ (s : List ℕ) where
  -- an answer whose refusal, if it is one, is of the rule file
  abbrev Placed : {A : Type 0} → Answer A → Type 0
  Placed a = Refuses (InRules s) a

  count_placed : (at limit : ℕ) → at ≤ length s → Placed (count_at s at limit Rules)
  count_placed at limit = tested_placed Rules OfRules s of_numbers (at_most limit) Count (omega arith) (inl (omega arith)) at

  code_placed : (known : ℕ → Bool) (at : ℕ) → at ≤ length s → Placed (code_at s at known Rules)
  code_placed known = tested_placed Rules OfRules s of_numbers known Unknown (omega arith) (inl (omega arith))

  -- the head
  head_placed : Placed (head_of s)
  unfolding head_of
  head_placed =
      refuses_then _ (count_at s 0 most_concepts Rules) _ (count_placed 0 most_concepts (omega arith))
      (λ c e.
      refuses_then _ (count_at s c.next most_roles Rules) _ (count_placed c.next most_roles (after_tested Rules s (at_most most_concepts) Count 0 c e))
      (λ q f.
      refuses_then _ (count_at s q.next most_rules Rules) _ (count_placed q.next most_rules (after_tested Rules s (at_most most_roles) Count c.next q f))
      (λ n g. refuses_gives _ _)))

  head_inside : Given (λ h. h.start ≤ length s) (head_of s)
  unfolding head_of
  head_inside =
      given_then _ (count_at s 0 most_concepts Rules) _
      (λ c e.
      given_then _ (count_at s c.next most_roles Rules) _
      (λ q f.
      given_then _ (count_at s q.next most_rules Rules) _
      (λ n g. given_gives _ _ (after_tested Rules s (at_most most_rules) Count q.next n g))))

  module _ (h : Head) where
    -- one rule
    rule_placed : (at : ℕ) → at ≤ length s → Placed (rule_at h s at)
    unfolding rule_at
    rule_placed at inside =
        refuses_then _ (kind_at s at) _ (tested_placed Rules OfRules s of_numbers (at_most last_kind) Kind (omega arith) (inr refl) at inside)
        (λ kind e.
        refuses_then _ (code_at s kind.next (code_declared h kind.value) Rules) _
        (code_placed (code_declared h kind.value) kind.next (after_tested Rules s (at_most last_kind) Kind at kind e))
        (λ x f.
        refuses_test _ (eqb kind.value functional_kind) _ _ (refuses_gives _ _)
        (refuses_then _ (code_at s x.next (code_declared h kind.value) Rules) _
        (code_placed (code_declared h kind.value) x.next (after_tested Rules s (code_declared h kind.value) Unknown kind.next x f))
        (λ y g. refuses_gives _ _))))

    rule_inside : (at : ℕ) → Given (λ r. r.next ≤ length s) (rule_at h s at)
    unfolding rule_at
    rule_inside at =
        given_then _ (kind_at s at) _
        (λ kind e.
        given_then _ (code_at s kind.next (code_declared h kind.value) Rules) _
        (λ x f.
        given_test _ (eqb kind.value functional_kind) _ _ (given_gives _ _ (after_tested Rules s (code_declared h kind.value) Unknown kind.next x f))
        (given_then _ (code_at s x.next (code_declared h kind.value) Rules) _
        (λ y g. given_gives _ _ (after_tested Rules s (code_declared h kind.value) Unknown x.next y g)))))

    rule_starts : (at : ℕ) (r : Read Rule) → rule_at h s at ≡ Ok r → at < length s
    unfolding rule_at
    rule_starts at r e =
        let w = went (kind_at s at) _ e in
        tested_starts Rules s (at_most last_kind) Kind at w.value w.first

    -- the rules
    next_placed : (at : ℕ) → at ≤ length s → Placed (next_rule h s at)
    unfolding next_rule
    next_placed at inside = refuses_over _ (λ r. r.next) (rule_at h s at) (rule_placed at inside)

    next_inside : (at next : ℕ) → next_rule h s at ≡ Ok next → next ≤ length s
    unfolding next_rule
    next_inside at next e =
        let o = over_given (λ r. r.next) (rule_at h s at) e in
        omega (arith, rule_inside at o.value o.given, o.told)

    rules_placed : (n at : ℕ) → at ≤ length s → Placed (rules_from h s n at)
    rules_placed = items_placed Rules OfRules s (next_rule h s) (λ at. at ≤ length s) next_placed (λ at next inside. next_inside at next)

    -- refusal 6
    module _ (rules : List Rule) where
      unbroken_one : (at : ℕ) → at ≤ length s → Placed (next_unbroken h s rules at)
      unfolding next_unbroken
      unbroken_one at inside =
          refuses_then _ (rule_at h s at) _ (rule_placed at inside)
          (λ r e.
          refuses_test _ (broken rules r.value) _ _
          (refuses_so _ (refusal Broken Rules at) (at_a_byte Rules OfRules s Broken at (omega arith) (inl (omega arith)) (rule_starts at r e))) (refuses_gives _ _))

      unbroken_inside : (at next : ℕ) → next_unbroken h s rules at ≡ Ok next → next ≤ length s
      unfolding next_unbroken
      unbroken_inside at next e =
          let w = went (rule_at h s at) _ e in
          let same = given_once (not_stopped (broken rules w.value.value) (Ok w.value.next) (refusal Broken Rules at) w.rest).answer in
          omega (arith, rule_inside at w.value w.first, same)

      unbroken_placed : (n at : ℕ) → at ≤ length s → Placed (unbroken h s rules n at)
      unbroken_placed = items_placed Rules OfRules s (next_unbroken h s rules) (λ at. at ≤ length s) unbroken_one (λ at next inside. unbroken_inside at next)

  -- refusal 7
  after_placed : (h : Head) (end : ℕ) → h.start ≤ length s → Placed (after_rules s h end)
  unfolding after_rules
  after_placed h end start =
      refuses_then _ (end_at s end Rules) _ (end_placed Rules OfRules s (inl (omega arith)) end)
      (λ at e.
      refuses_then _ (unbroken h s (rules_in h s h.rules h.start) h.rules h.start) _
      (unbroken_placed h (rules_in h s h.rules h.start) h.rules h.start start)
      (λ last f. refuses_gives _ h))

  -- the whole reading's refusal
  pub refused_in_rules : (r : Refusal) → check_rules s ≡ Err r → InRules s r
  unfolding check_rules
  refused_in_rules =
      refuses_then _ (head_of s) _ head_placed
      (λ h e.
      refuses_then _ (rules_from h s h.rules h.start) _ (rules_placed h h.rules h.start (head_inside h e))
      (λ end f. after_placed h end (head_inside h e)))
