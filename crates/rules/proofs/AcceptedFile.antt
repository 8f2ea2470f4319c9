-- An accepted rule file's rules are lawful: the walk that read them says so of each, and the last walk of the functional ones.
use Prim.Native.Nat.{ℕ, zero, suc, ◌+◌, ◌≤◌}
use mathlib.Core.Path.{◌≡◌, refl, sym, subst, ◌∙◌}
use mathlib.Core.Bool.{true, false, cond, true≢false}
use mathlib.Core.List.Memᴰ
use mathlib.Core.List.{List, ◌∷◌, Memᴰ}
use mathlib.Core.Logic.{⊎_elim}
use lib.ListN.{length}
use borrow.Author.Tests.{eq-eqb}
use Rattle.number.specs.Answer.{Answer, refusal, about, ◌then◌}
use Rattle.number.specs.declared.read.Read.{Read}
use Rattle.number.specs.declared.refusal.Fault.TheVariants.{Broken}
use Rattle.number.specs.declared.refusal.Side.TheVariants.{Rules}
use Rattle.std.specs.Prelude.{Ok, Err}
use Rattle.number.proofs.Answers.{went, not_stopped, about_given, given_once}
use Rattle.site.specs.Kinds.{Rule, Site, role_in}
use Rattle.site.specs.Items.{items_from, end_at, onward}
use Rattle.site.proofs.Lists.{any_of}
use Rattle.site.proofs.There.{end_there}
use Rattle.rule.specs.OneRule.{rule_declared}
use Rattle.rules.specs.Lawful.{Lawful}
use Rattle.rule.specs.OneRule.{head_of, rule_at}
use Rattle.rules.specs.RuleFile.{rules_from, rules_in, on_right, broken, next_unbroken, unbroken, after_rules, check_rules, site_of}
use Rattle.rule.specs.declared.head.Head.{Head}
use Rattle.rule.proofs.Accepted.{rule_is_declared, head_within}

-- every rule that is read is declared, whatever the site's other rules
module _ (h : Head) (s : List ℕ) (rules : List Rule) where
  abbrev whole : Site
  whole = record { concepts = h.concepts; roles = h.roles; rules = rules }

  pub all_declared : (n at : ℕ) {r : Rule} → Memᴰ r (rules_in h s n at) → rule_declared whole r ≡ true
  unfolding rules_in
  all_declared zero at m = absurd (Memᴰ.not-nil m)
  all_declared (suc n) at {r} m = from (λ next. all_declared n next) (rule_at h s at) refl m
    where
      from : ((next : ℕ) → Memᴰ r (rules_in h s n next) → rule_declared whole r ≡ true) → (a : Answer (Read Rule)) → rule_at h s at ≡ a
          → Memᴰ r (onward a (λ f. f.value ∷ rules_in h s n f.next)) → rule_declared whole r ≡ true
      from later (Ok f) e m =
          ⊎_elim (λ k. subst (λ (x : Rule). rule_declared whole x ≡ true) (sym k) (rule_is_declared h rules s f at e)) (later f.next) (Memᴰ.cases_cons m)
      from later (Err f) e m = absurd (Memᴰ.not-nil m)

  -- the last walk found no functional rule broken
  pub all_unbroken : (k n at : ℕ) (end : ℕ) → items_from (next_unbroken h s rules) k n at ≡ Ok end → {r : Rule} → Memᴰ r (rules_in h s n at) → broken rules r ≡ false
  unfolding rules_in items_from next_unbroken
  all_unbroken k zero at end e m = absurd (Memᴰ.not-nil m)
  all_unbroken k (suc n) at end e {r} m =
      let w = went (about k (next_unbroken h s rules at)) _ e in
      from (all_unbroken (k + 1) n w.value end w.rest) (rule_at h s at) (about_given k (next_unbroken h s rules at) w.first) m
    where
      from : {next : ℕ} → (Memᴰ r (rules_in h s n next) → broken rules r ≡ false) → (a : Answer (Read Rule))
          → (a then λ f. cond (broken rules f.value) (Err (refusal Broken Rules at)) (Ok f.next)) ≡ Ok next
          → Memᴰ r (onward a (λ f. f.value ∷ rules_in h s n f.next)) → broken rules r ≡ false
      from later (Ok f) g m =
          let one = not_stopped (broken rules f.value) (Ok f.next) (refusal Broken Rules at) g in
          ⊎_elim (λ same. subst (λ (x : Rule). broken rules x ≡ false) (sym same) one.test)
          (λ among. later (subst (λ (p : ℕ). Memᴰ r (rules_in h s n p)) (given_once one.answer) among)) (Memᴰ.cases_cons m)
      from later (Err f) g m = absurd (Memᴰ.not-nil m)

-- what acceptance is made of
pub record AcceptedRules (s : List ℕ) (h : Head) : Type 0 where
  pub end : ℕ
  pub last : ℕ
  pub head : head_of s ≡ Ok h
  pub rules : rules_from h s h.rules h.start ≡ Ok end
  pub at_end : length s ≤ end
  pub whole : unbroken h s (rules_in h s h.rules h.start) h.rules h.start ≡ Ok last

pub accepted_rules : (s : List ℕ) (h : Head) → check_rules s ≡ Ok h → AcceptedRules s h
unfolding check_rules after_rules
accepted_rules s h e =
    let first = went (head_of s) _ e in
    let g = first.value in
    let second = went (rules_from g s g.rules g.start) _ first.rest in
    let third = went (end_at s second.value Rules) _ second.rest in
    let fourth = went (unbroken g s (rules_in g s g.rules g.start) g.rules g.start) _ third.rest in
    subst (λ (k : Head). AcceptedRules s k) (given_once fourth.rest)
    (record {
      end = second.value;
      last = fourth.value;
      head = first.first;
      rules = second.first;
      at_end = end_there s second.value Rules third.value third.first;
      whole = fourth.first;
    })

pub accepted_lawful : (s : List ℕ) (h : Head) → check_rules s ≡ Ok h → Lawful (site_of s h)
unfolding site_of
accepted_lawful s h e =
    let a = accepted_rules s h e in
    let all = rules_in h s h.rules h.start in
    let within = head_within s h a.head in
    record {
      concepts_within = within.concepts;
      roles_within = within.roles;
      known = λ r m. all_declared h s all h.rules h.start m;
      unbroken = λ q p r is_functional_lem is_right same.
          true≢false
          (sym (any_of (on_right (role_in q)) is_right (eq-eqb (role_in r) (role_in q) same))
          ∙ all_unbroken h s all 0 h.rules h.start a.last a.whole is_functional_lem);
    }
