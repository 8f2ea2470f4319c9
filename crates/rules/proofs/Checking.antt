-- What one turn of each walk over the rules says of the whole.
use Prim.Native.Nat.{ℕ, ◌+◌, ◌≤◌, ◌<◌}
use mathlib.Core.Path.{◌≡◌, refl, sym, ap, ◌∙◌}
use mathlib.Core.Bool.{Bool, true, false}
use mathlib.Core.List.{List}
use lib.Dec.{ltb}
use lib.ListN.{length, get_or}
use native.Mathlib.Omega.{arith}
use borrow.Author.Tests.{ltb-true, le-ltb}
use borrow.Author.Rules.{rules}
use Rattle.std.specs.Prelude.{Ok, Err}
use Rattle.std.proofs.lemmas.List.{get_or_past}
use Rattle.number.specs.Answer.{Answer, refusal, about, over}
use Rattle.number.specs.declared.refusal.Refusal.{Refusal}
use Rattle.number.specs.declared.read.Read.{Read}
use Rattle.number.specs.declared.refusal.Fault.TheVariants.{Broken}
use Rattle.number.specs.declared.refusal.Side.TheVariants.{Rules}
use Rattle.number.proofs.Answers.{same_refused}
use Rattle.site.specs.declared.rule.Rule.{Rule}
use Rattle.site.specs.declared.rule.Rule.TheVariants.{Functional}
use Rattle.site.specs.declared.nodes.BasicRole.{BasicRole}
use Rattle.site.specs.declared.nodes.Role.{Role}
use Rattle.site.specs.Kinds.{Rule as SaidRule, role_in}
use Rattle.site.specs.Kinds.Rule.{included, disjoint, role_included, role_disjoint, functional}
use Rattle.site.specs.Limits.{most_roles}
use Rattle.site.specs.Told.{basic_role_told, rule_told}
use Rattle.site.proofs.Numbered.{Walked, walk_starts, walk_ends, walk_refused, walk_on}
use Rattle.rule.proofs.Accepted.{rule_is_declared}
use Rattle.rule.specs.OneRule.{rule_at}
use Rattle.rule.specs.Told.{rule_read}
use Rattle.rule.specs.declared.head.Head.{Head}
use Rattle.rules.specs.RuleFile.{next_rule, rules_from, broken, next_unbroken, unbroken}
use Rattle.rules.specs.Told.{Rights, broken_by}

-- the place after a rule, numbered, from what reading the rule answered
module _ (h : Head) (s : List ℕ) (k at : ℕ) where
  next_refused : (a : Answer (Read Rule)) → rule_read a ≡ rule_at h s at → (r : Refusal) → about k a ≡ Err r → about k (next_rule h s at) ≡ Err r
  unfolding next_rule
  next_refused (Ok n) is r e = absurd cc
  next_refused (Err q) is r e = rw (← is) (ap Err (same_refused e))

  next_read : (a : Answer (Read Rule)) → rule_read a ≡ rule_at h s at → (n : Read Rule) → about k a ≡ Ok n → about k (next_rule h s at) ≡ Ok n.next
  unfolding next_rule
  next_read (Ok m) is n e = rw (← is) (ap (λ (a : Answer (Read Rule)). over (λ r. r.next) a) e)
  next_read (Err q) is n e = absurd cc

  module _ (whole : Answer ℕ) (all : ℕ) (w : Walked (next_rule h s) whole all k at) (more : k < all) (a : Answer (Read Rule)) (is : rule_read a ≡ rule_at h s at) where
    pub rules_refused : (r : Refusal) → about k a ≡ Err r → whole ≡ Err r
    rules_refused r e = walk_refused (next_rule h s) whole all k at w more r (next_refused a is r e)

    pub rules_again : (n : Read Rule) → about k a ≡ Ok n → Walked (next_rule h s) whole all (k + 1) n.next
    rules_again n e = walk_on (next_rule h s) whole all k at w more n.next (next_read a is n e)

module _ (h : Head) (s : List ℕ) (all at : ℕ) where
  pub rules_begin : Walked (next_rule h s) (rules_from h s all at) all 0 at
  rules_begin = walk_starts (next_rule h s) all at

  pub rules_end : (whole : Answer ℕ) (k : ℕ) → Walked (next_rule h s) whole all k at → all ≤ k → Ok at ≡ whole
  rules_end whole k w over = sym (walk_ends (next_rule h s) whole all k at w over)

module _ (h : Head) (s : List ℕ) (rules : List SaidRule) (all at : ℕ) where
  pub unbroken_begin : Walked (next_unbroken h s rules) (unbroken h s rules all at) all 0 at
  unbroken_begin = walk_starts (next_unbroken h s rules) all at

  module _ (whole : Answer ℕ) (k : ℕ) (w : Walked (next_unbroken h s rules) whole all k at) where
    pub unbroken_end : all ≤ k → Ok at ≡ whole
    unbroken_end over = sym (walk_ends (next_unbroken h s rules) whole all k at w over)

    module _ (more : k < all) (a : Answer ℕ) (is : a ≡ next_unbroken h s rules at) where
      pub unbroken_refused : (r : Refusal) → about k a ≡ Err r → whole ≡ Err r
      unbroken_refused r e = walk_refused (next_unbroken h s rules) whole all k at w more r (rw (← is) e)

      pub unbroken_again : (next : ℕ) → about k a ≡ Ok next → Walked (next_unbroken h s rules) whole all (k + 1) next
      unbroken_again next e = walk_on (next_unbroken h s rules) whole all k at w more next (rw (← is) e)

-- the roles on the right decide which functional rules are broken
broken_by_lem : (h : Head) (s : List ℕ) (at : ℕ) (rules : List SaidRule) (right : List Bool) → Rights rules right → h.roles ≤ most_roles
    → (rule : SaidRule) (next : ℕ) → rule_at h s at ≡ Ok (record { value = rule; next = next }) → broken_by right rule ≡ broken rules rule
broken_by_lem h s at rules right has few (included b c) next e = refl
broken_by_lem h s at rules right has few (disjoint b c) next e = refl
broken_by_lem h s at rules right has few (role_included p q) next e = refl
broken_by_lem h s at rules right has few (role_disjoint p q) next e = refl
broken_by_lem h s at rules right has few (functional q) next e =
    let known = rule_is_declared h rules s (record { value = functional q; next = next }) at e in
    has.each_role (role_in q) (omega (arith, few, ltb-true (role_in q) h.roles known))

pub broken_refused : (h : Head) (s : List ℕ) (at : ℕ) (rules : List SaidRule) (a : Answer (Read Rule)) → rule_read a ≡ rule_at h s at → (r : Refusal) → a ≡ Err r
    → Err r ≡ next_unbroken h s rules at
unfolding next_unbroken
broken_refused h s at rules a is r e = rw (← is, e)

module _ (h : Head) (s : List ℕ) (at : ℕ) (rules : List SaidRule) (right : List Bool) (has : Rights rules right) (few : h.roles ≤ most_roles)
    (a : Answer (Read Rule)) (is : rule_read a ≡ rule_at h s at) where
  module _ (n : Read Rule) (read : a ≡ Ok n) (b : Bool) (by : b ≡ broken_by right (rule_told n.value)) where
    gave : rule_at h s at ≡ Ok (record { value = rule_told n.value; next = n.next })
    gave = sym is ∙ ap rule_read read

    decided : broken rules (rule_told n.value) ≡ b
    decided = sym (broken_by_lem h s at rules right has few (rule_told n.value) n.next gave) ∙ sym by

    pub broken_stops : b ≡ true → Err (refusal Broken Rules at) ≡ next_unbroken h s rules at
    unfolding next_unbroken
    broken_stops t = rw (gave, decided, t)

    pub unbroken_passes : b ≡ false → Ok n.next ≡ next_unbroken h s rules at
    unfolding next_unbroken
    unbroken_passes f = rw (gave, decided, f)

-- the role of a functional rule
module _ (rule : Rule) (q : BasicRole) (is : rule ≡ Functional q) (j : Role) (half : j ≡ record { number = role_in (basic_role_told q) }) (right : List Bool) where
  pub functional_right : j.number < most_roles → get_or right j.number false ≡ broken_by right (rule_told rule)
  functional_right h = rw (is, half)

  pub functional_none : length right ≡ most_roles → most_roles ≤ j.number → ltb j.number most_roles ≡ broken_by right (rule_told rule)
  functional_none all h =
      let past : get_or right j.number false ≡ false = get_or_past right j.number false (omega (arith, all)) in
      rw (le-ltb j.number most_roles h) (sym past ∙ rw (is, half))

pub ruleset checking =
    (rules_begin, rules_refused, rules_again, rules_end, unbroken_begin, unbroken_refused, unbroken_again, unbroken_end, broken_refused, broken_stops, unbroken_passes, functional_right, functional_none, rules)
