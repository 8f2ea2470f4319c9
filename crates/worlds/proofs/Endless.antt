-- Consistent facts whose every world is without end: each partner demands one in turn, no thing has two that lead to it, and nothing leads
-- to the first. The natural numbers are such a world; and in every such world the chain of partners never comes back to a thing.
use Prim.Native.Nat.{ℕ, zero, suc}
use mathlib.Core.Path.{◌≡◌, refl, sym, ap, subst⁻¹}
use mathlib.Core.List.{List, [], ◌∷◌, Memᴰ}
use native.Mathlib.Omega.{arith}
use Rattle.std.specs.Prelude.{Ok}
use Rattle.number.specs.Number.{form_of, second, third, number_at}
use Rattle.site.specs.declared.fact.Fact.{Fact}
use Rattle.site.specs.Kinds.{Rule, Site}
use Rattle.site.specs.Kinds.BasicRole.{forward, inverse}
use Rattle.site.specs.Kinds.BasicConcept.{named, some}
use Rattle.site.specs.Kinds.Rule.{included, disjoint, functional}
use Rattle.site.specs.Codes.{role_of, concept_of, concept_declared, predicate_declared}
use Rattle.site.specs.Lists.{any}
use Rattle.site.specs.Items.{tested_at, at_most, items_from, end_at}
use Rattle.rule.specs.declared.head.Head.{Head}
use Rattle.rule.specs.OneRule.{head_of, code_declared, rule_at}
use Rattle.rules.specs.RuleFile.{next_rule, rules_in, next_unbroken, after_rules, check_rules, site_of}
use Rattle.bundle.specs.Bundle.{fact_at, next_fact, facts_in, check_bundle, read_bundle}
use Rattle.clashes.specs.Types.{itself}
use Rattle.worlds.specs.Worlds.{World, Is, Obeys, Holds, WorldOf, Consistent}

-- Root has a next; what is a next has a next; Root is no next; a next is that of one thing only
abbrev pub endless : Site
endless =
    record {
      concepts = 1;
      roles = 1;
      rules =
          included (named 0) (some (forward 0))
          ∷ included (some (inverse 0)) (some (forward 0))
          ∷ disjoint (named 0) (some (inverse 0))
          ∷ functional (inverse 0)
          ∷ [];
    }

-- Root(0)
abbrev pub root : List Fact
root = record { predicate = 0; subject = 0; object = 0 } ∷ []

-- both are accepted
abbrev pub endless_file : List ℕ
endless_file = 1 ∷ 1 ∷ 4 ∷ 0 ∷ 0 ∷ 64 ∷ 0 ∷ 65 ∷ 64 ∷ 1 ∷ 0 ∷ 65 ∷ 4 ∷ 1 ∷ []

abbrev pub root_bundle : List ℕ
root_bundle = 1 ∷ 0 ∷ 0 ∷ []

abbrev pub head : Head
head = record { concepts = 1; roles = 1; rules = 4; start = 3 }

pub rules_accepted : check_rules endless_file ≡ Ok head
unfolding form_of second third number_at role_of concept_of concept_declared any tested_at at_most items_from end_at head_of code_declared rule_at next_rule rules_in next_unbroken after_rules check_rules
rules_accepted = refl

pub rules_read : site_of endless_file head ≡ endless
unfolding form_of second third number_at role_of concept_of concept_declared tested_at at_most code_declared rule_at rules_in site_of
rules_read = refl

pub bundle_accepted : read_bundle head root_bundle ≡ Ok root
unfolding form_of second third number_at predicate_declared tested_at at_most items_from end_at fact_at next_fact facts_in check_bundle read_bundle
bundle_accepted = refl

-- the natural numbers as a world: 0 is Root, and the next of n is suc n
abbrev numbers : World
numbers = record { Thing = ℕ; is_a = λ i n. n ≡ 0; joined = λ j m n. suc m ≡ n; thing = λ a. a }

numbers_obey : (r : Rule) → Memᴰ r endless.rules → Obeys numbers r
numbers_obey r (Memᴰ.head e) = subst⁻¹ (Obeys numbers) e (λ x h. (suc x, refl))
numbers_obey r (Memᴰ.tail (Memᴰ.head e)) = subst⁻¹ (Obeys numbers) e (λ x h. (suc x, refl))
numbers_obey r (Memᴰ.tail (Memᴰ.tail (Memᴰ.head e))) =
    subst⁻¹ (Obeys numbers) e (λ x h k. let p : suc k.0 ≡ x = k.1 in omega arith)
numbers_obey r (Memᴰ.tail (Memᴰ.tail (Memᴰ.tail (Memᴰ.head e)))) =
    subst⁻¹ (Obeys numbers) e (λ x y z p q. omega arith)
numbers_obey r (Memᴰ.tail (Memᴰ.tail (Memᴰ.tail (Memᴰ.tail m)))) = elim m [ ]

pub endless_consistent : Consistent itself endless root
endless_consistent = (
  numbers,
  record {
    names = record { different = λ a b m n e. e; alike = λ a b e. e };
    obeys = numbers_obey;
    holds = λ f m. holds f m;
  },
)
  where
    holds : (f : Fact) → Memᴰ f root → Holds numbers f
    holds f (Memᴰ.head e) = subst⁻¹ (Holds numbers) e refl
    holds f (Memᴰ.tail m) = elim m [ ]

module _ (w : World) (o : WorldOf itself endless root w) where
  rule_0 : Obeys w (included (named 0) (some (forward 0)))
  rule_0 = o.obeys (included (named 0) (some (forward 0))) (Memᴰ.head refl)

  rule_1 : Obeys w (included (some (inverse 0)) (some (forward 0)))
  rule_1 = o.obeys (included (some (inverse 0)) (some (forward 0))) (Memᴰ.tail (Memᴰ.head refl))

  rule_2 : Obeys w (disjoint (named 0) (some (inverse 0)))
  rule_2 = o.obeys (disjoint (named 0) (some (inverse 0))) (Memᴰ.tail (Memᴰ.tail (Memᴰ.head refl)))

  rule_3 : Obeys w (functional (inverse 0))
  rule_3 = o.obeys (functional (inverse 0)) (Memᴰ.tail (Memᴰ.tail (Memᴰ.tail (Memᴰ.head refl))))

  is_root : w.is_a 0 (w.thing 0)
  is_root = o.holds (record { predicate = 0; subject = 0; object = 0 }) (Memᴰ.head refl)

  -- a thing that has a next
  record Stage : Type 0 where
    here : w.Thing
    next : w.Thing
    joined : w.joined 0 here next

  stage : ℕ → Stage
  stage zero = let p = rule_0 (w.thing 0) is_root in record { here = w.thing 0; next = p.0; joined = p.1 }
  stage (suc n) =
      let k = stage n in
      let p = rule_1 k.next (k.here, k.joined) in
      record { here = k.next; next = p.0; joined = p.1 }

  pub chain : ℕ → w.Thing
  chain n = (stage n).here

  linked : (n : ℕ) → w.joined 0 (chain n) (chain (suc n))
  unfolding chain stage
  linked n = (stage n).joined

  first_is_root : w.is_a 0 (chain 0)
  unfolding chain stage
  first_is_root = is_root

  not_first : (n : ℕ) → chain 0 ≡ chain (suc n) → ⊥
  not_first n e = rule_2 (chain 0) first_is_root (subst⁻¹ (λ (x : w.Thing). Is w (some (inverse 0)) x) e (chain n, linked n))

  pub never_back : (m n : ℕ) → chain m ≡ chain n → m ≡ n
  never_back zero zero e = refl
  never_back zero (suc n) e = absurd (not_first n e)
  never_back (suc m) zero e = absurd (not_first m (sym e))
  never_back (suc m) (suc n) e =
      ap suc
      (never_back m n
      (rule_3 (chain (suc m)) (chain m) (chain n) (linked m) (subst⁻¹ (λ (x : w.Thing). w.joined 0 (chain n) x) e (linked n))))

pub without_end : (w : World) → WorldOf itself endless root w → (f : ℕ → w.Thing) × ((m n : ℕ) → f m ≡ f n → m ≡ n)
without_end w o = (chain w o, never_back w o)
