-- What an accepted rule is: its codes are declared. The reading is taken apart from its last number to its first.
use Prim.Native.Nat.{ℕ, zero, suc, ◌≤◌, ◌<◌}
use mathlib.Core.Path.{◌≡◌, refl, sym, subst, ◌∙◌}
use mathlib.Core.Bool.{Bool, true, false, cond}
use mathlib.Core.List.{List}
use lib.Dec.{eqb}
use native.Mathlib.Omega.{arith}
use borrow.Author.Tests.{eqb-true, eqb-false}
use Rattle.number.specs.Answer.{Answer, ◌then◌}
use Rattle.number.specs.declared.read.Read.{Read}
use Rattle.number.specs.declared.refusal.Fault.TheVariants.{Unknown, Kind}
use Rattle.number.specs.declared.refusal.Side.TheVariants.{Rules}
use Rattle.std.specs.Prelude.{Ok}
use Rattle.number.proofs.Answers.{went, given_once}
use Rattle.site.specs.Codes.{concept_declared, role_declared, concept_of, role_of, rule_of}
use Rattle.site.specs.Kinds.{Rule, Site, declared, declared_role}
use Rattle.site.specs.Kinds.Node.{concept}
use Rattle.site.specs.Items.{at_most, code_at, count_at}
use Rattle.site.specs.Limits.{most_concepts, most_roles, most_rules, last_kind, functional_kind}
use Rattle.site.proofs.Lists.{and_both}
use Rattle.site.proofs.There.{within_limit, tested_there, count_there}
use Rattle.site.proofs.OfKinds.{role_declared_lem, concept_declared_lem}
use Rattle.rule.specs.OneRule.{rule_declared}
use Rattle.rule.specs.OneRule.{head_of, code_declared, kind_at, rule_at}
use Rattle.rule.specs.declared.head.Head.{Head}

below_4 : (n : ℕ) → n ≤ 4 → (n ≡ 4 → ⊥) → n < 4
below_4 n h k = omega arith

module _ (h : Head) (rules : List Rule) where
  abbrev site : Site
  site = record { concepts = h.concepts; roles = h.roles; rules = rules }

  of_concept_lem : (x : ℕ) → concept_declared h.concepts h.roles x ≡ true → declared site (concept (concept_of x)) ≡ true
  of_concept_lem x e = sym (concept_declared_lem site x) ∙ e

  of_role : (x : ℕ) → role_declared h.roles x ≡ true → declared_role site (role_of x) ≡ true
  of_role x e = sym (role_declared_lem site x) ∙ e

  -- the rule of a kind below 4, and of kind 4
  two_codes : (kind x y : ℕ) → kind < 4 → code_declared h kind x ≡ true → code_declared h kind y ≡ true → rule_declared site (rule_of kind x y) ≡ true
  unfolding code_declared
  two_codes zero x y k e f = and_both _ _ (of_concept_lem x e) (of_concept_lem y f)
  two_codes (suc zero) x y k e f = and_both _ _ (of_concept_lem x e) (of_concept_lem y f)
  two_codes (suc (suc zero)) x y k e f = and_both _ _ (of_role x e) (of_role y f)
  two_codes (suc (suc (suc zero))) x y k e f = and_both _ _ (of_role x e) (of_role y f)
  two_codes (suc (suc (suc (suc kind)))) x y k e f = absurd (omega arith)

  one_code : (x : ℕ) → code_declared h 4 x ≡ true → rule_declared site (rule_of 4 x 0) ≡ true
  unfolding code_declared
  one_code x e = of_role x e

  module _ (s : List ℕ) (r : Read Rule) where
    -- after the first code: one rule more by kind 4, else a second code
    rest : ℕ → Read ℕ → Answer (Read Rule)
    rest kind x = code_at s x.next (code_declared h kind) Rules then λ y. Ok (record { value = rule_of kind x.value y.value; next = y.next })

    after_first : (kind : ℕ) (x : Read ℕ) (four : Bool) → eqb kind functional_kind ≡ four → kind ≤ last_kind → code_declared h kind x.value ≡ true
        → cond four (Ok (record { value = rule_of kind x.value 0; next = x.next })) (rest kind x) ≡ Ok r
        → rule_declared site r.value ≡ true
    unfolding rest
    after_first kind x true is-4 k known e =
        let four : kind ≡ 4 = eqb-true kind 4 is-4 in
        let there : rule_declared site (rule_of kind x.value 0) ≡ true =
        subst (λ (k : ℕ). code_declared h k x.value ≡ true → rule_declared site (rule_of k x.value 0) ≡ true) (sym four) (one_code x.value) known in
        subst (λ (m : Read Rule). rule_declared site m.value ≡ true) (given_once e) there
    after_first kind x false is-4 k known e =
        let y = went (code_at s x.next (code_declared h kind) Rules) _ e in
        let less : kind < 4 = below_4 kind k (eqb-false kind 4 is-4) in
        let there = two_codes kind x.value y.value.value less known (tested_there s x.next (code_declared h kind) Unknown Rules y.value y.first).holds in
        subst (λ (m : Read Rule). rule_declared site m.value ≡ true) (given_once y.rest) there

    -- a rule that was read has declared codes
    pub rule_is_declared : (at : ℕ) → rule_at h s at ≡ Ok r → rule_declared site r.value ≡ true
    unfolding rule_at rest
    rule_is_declared at e =
        let kind = went (kind_at s at) _ e in
        let x = went (code_at s kind.value.next (code_declared h kind.value.value) Rules) _ kind.rest in
        after_first kind.value.value x.value (eqb kind.value.value functional_kind) refl
        (within_limit last_kind kind.value.value (tested_there s at (at_most last_kind) Kind Rules kind.value kind.first).holds)
        (tested_there s kind.value.next (code_declared h kind.value.value) Unknown Rules x.value x.first).holds
        x.rest

-- the head's limits
module _ (s : List ℕ) (h : Head) (e : head_of s ≡ Ok h) where
  pub record HeadWithin : Type 0 where
    pub concepts : h.concepts ≤ most_concepts
    pub roles : h.roles ≤ most_roles
    pub rules : h.rules ≤ most_rules

  pub head_within : HeadWithin
  unfolding head_of
  head_within =
      let c = went (count_at s 0 most_concepts Rules) _ e in
      let r = went (count_at s c.value.next most_roles Rules) _ c.rest in
      let n = went (count_at s r.value.next most_rules Rules) _ r.rest in
      let same = given_once n.rest in
      record {
        concepts = subst (λ (k : Head). k.concepts ≤ most_concepts) same (count_there s 0 most_concepts Rules c.value c.first).within;
        roles = subst (λ (k : Head). k.roles ≤ most_roles) same (count_there s c.value.next most_roles Rules r.value r.first).within;
        rules = subst (λ (k : Head). k.rules ≤ most_rules) same (count_there s r.value.next most_rules Rules n.value n.first).within;
      }

  pub head_roles : h.roles ≤ most_roles
  head_roles = head_within.roles
