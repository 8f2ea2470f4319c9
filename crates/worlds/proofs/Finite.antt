-- A finite world exists where one should: the worked site's rules and kept facts have one whose things are the device numbers within the
-- limit. Device numbers without a limit would have none: more of them than any number of things.
use Prim.Native.Nat.{ℕ, zero, suc, ◌≤◌, min}
use mathlib.Core.Path.{◌≡◌, refl, ap, subst⁻¹}
use mathlib.Core.HLevel.{is_prop→PathP}
use mathlib.Core.List.{List, [], ◌∷◌, Memᴰ}
use native.Mathlib.Bridge.{le_prop}
use native.Mathlib.Omega.{arith}
use native.Mathlib.Decide.{ℕ_discrete as dec_eq}
use Rattle.std.specs.Prelude.{Ok}
use Rattle.number.specs.Number.{form_of, second, third, number_at}
use Rattle.site.specs.declared.fact.Fact.{Fact}
use Rattle.site.specs.Kinds.{Rule, Site}
use Rattle.site.specs.Kinds.BasicRole.{forward, inverse}
use Rattle.site.specs.Kinds.BasicConcept.{named, some}
use Rattle.site.specs.Kinds.Rule.{included, disjoint, role_disjoint, functional}
use Rattle.site.specs.Codes.{role_of, concept_of, concept_declared, predicate_declared}
use Rattle.site.specs.Limits.{most_thing}
use Rattle.site.specs.Lists.{up_to, any, keep, each}
use Rattle.site.specs.Items.{tested_at, at_most, items_from, end_at}
use Rattle.rule.specs.declared.head.Head.{Head}
use Rattle.rule.specs.OneRule.{head_of, code_declared, rule_at}
use Rattle.rules.specs.RuleFile.{next_rule, rules_in, next_unbroken, after_rules, check_rules, site_of}
use Rattle.bundle.specs.Bundle.{fact_at, next_fact, facts_in, check_bundle, read_bundle}
use Rattle.steps.specs.Tables.{roles_of, nodes_of, arrow, mates, find, rows_of, looked, through, closure, apart, empty, excludes, functional_in, excluded_rows, follows_from, follows_of}
use Rattle.clashes.specs.Types.{itself, types_of}
use Rattle.clashes.specs.Marks.{jar, split, meet, alone, contradict, clash, mark, marked, kept}
use Rattle.cases.proofs.Cases.{R, F}
use Rattle.worlds.specs.Worlds.{World, Obeys, Holds, WorldOf}

-- a number within the limit for each thing, different things different numbers
pub record Finite (w : World) : Type 0 where
  pub number : w.Thing → ℕ
  pub within : (x : w.Thing) → number x ≤ most_thing
  pub different : (x y : w.Thing) → number x ≡ number y → x ≡ y

-- the worked site: Switch and Camera disjoint; a Camera has an uplink; what is uplinked to is a Switch; uplink functional, and disjoint
-- from its inverse
abbrev pub worked : Site
worked =
    record {
      concepts = 2;
      roles = 1;
      rules =
          disjoint (named 0) (named 1)
          ∷ included (named 1) (some (forward 0))
          ∷ included (some (inverse 0)) (named 0)
          ∷ functional (forward 0)
          ∷ role_disjoint (forward 0) (inverse 0)
          ∷ [];
    }

abbrev pub head : Head
head = record { concepts = 2; roles = 1; rules = 5; start = 3 }

abbrev fact : ℕ → ℕ → ℕ → Fact
fact predicate subject object = record { predicate = predicate; subject = subject; object = object }

abbrev pub reported : List Fact
reported = fact 0 7 0 ∷ fact 1 7 0 ∷ fact 1 9 0 ∷ fact 64 9 7 ∷ fact 64 9 300 ∷ fact 64 12 12 ∷ []

-- Camera(9)
abbrev pub camera : List Fact
camera = fact 1 9 0 ∷ []

pub rules_accepted : check_rules R ≡ Ok head
unfolding form_of second third number_at role_of concept_of concept_declared any tested_at at_most items_from end_at head_of code_declared rule_at next_rule rules_in next_unbroken after_rules check_rules
rules_accepted = refl

pub rules_read : site_of R head ≡ worked
unfolding form_of second third number_at role_of concept_of concept_declared tested_at at_most code_declared rule_at rules_in site_of
rules_read = refl

pub bundle_accepted : read_bundle head F ≡ Ok reported
unfolding form_of second third number_at predicate_declared tested_at at_most items_from end_at fact_at next_fact facts_in check_bundle read_bundle
bundle_accepted = refl

pub facts_kept : kept itself (follows_of worked) reported ≡ camera
unfolding up_to any keep each roles_of nodes_of arrow mates find rows_of looked through closure apart empty excludes functional_in excluded_rows follows_from follows_of types_of jar split meet alone contradict clash mark marked kept
facts_kept = refl

-- the device numbers within the limit as things: Camera is 9, Switch is 10, and 9 is uplinked to 10
record Device : Type 0 where
  number : ℕ
  within : number ≤ most_thing

-- two devices of one number are one
one_device : (x y : Device) → x.number ≡ y.number → x ≡ y
one_device x y e =
    λ i. record { number = e i; within = is_prop→PathP (λ j. e j ≤ most_thing) (λ j. le_prop) x.within y.within i }

abbrev is_a : ℕ → Device → Type 0
is_a zero x = x.number ≡ 10
is_a (suc i) x = x.number ≡ 9

record Uplink (x y : Device) : Type 0 where
  from : x.number ≡ 9
  to : y.number ≡ 10

abbrev device : ℕ → Device
device a = record { number = min a most_thing; within = omega arith }

abbrev devices : World
devices = record { Thing = Device; is_a = is_a; joined = λ j x y. Uplink x y; thing = device }

devices_obey : (r : Rule) → Memᴰ r worked.rules → Obeys devices r
devices_obey r (Memᴰ.head e) = subst⁻¹ (Obeys devices) e (λ x s c. omega arith)
devices_obey r (Memᴰ.tail (Memᴰ.head e)) =
    subst⁻¹ (Obeys devices) e (λ x c. (device 10, record { from = c; to = refl }))
devices_obey r (Memᴰ.tail (Memᴰ.tail (Memᴰ.head e))) = subst⁻¹ (Obeys devices) e (λ x u. u.1.to)
devices_obey r (Memᴰ.tail (Memᴰ.tail (Memᴰ.tail (Memᴰ.head e)))) =
    subst⁻¹ (Obeys devices) e (λ x y z u v. let p = u.to in let q = v.to in one_device y z (omega arith))
devices_obey r (Memᴰ.tail (Memᴰ.tail (Memᴰ.tail (Memᴰ.tail (Memᴰ.head e))))) =
    subst⁻¹ (Obeys devices) e (λ x y u v. let p = u.from in let q = v.to in omega arith)
devices_obey r (Memᴰ.tail (Memᴰ.tail (Memᴰ.tail (Memᴰ.tail (Memᴰ.tail m))))) = elim m [ ]

devices_hold : (f : Fact) → Memᴰ f camera → Holds devices f
devices_hold f (Memᴰ.head e) = subst⁻¹ (Holds devices) e refl
devices_hold f (Memᴰ.tail m) = elim m [ ]

abbrev pub HasFinite : Site → List Fact → Type 1
HasFinite s facts = (w : World) × Finite w × WorldOf itself s facts w

devices_are : HasFinite worked camera
devices_are = (
  devices,
  record { number = λ x. x.number; within = λ x. x.within; different = one_device },
  record {
    names = record { different = λ a b m n e. let p : min a most_thing ≡ min b most_thing = ap (λ x. x.number) e in omega arith; alike = λ a b e. ap device e };
    obeys = devices_obey;
    holds = devices_hold;
  },
)

-- rule file R and bundle F are accepted, and the rules and the kept facts have a finite world
pub finite_world : (check_rules R ≡ Ok head) × (read_bundle head F ≡ Ok reported) × HasFinite (site_of R head) (kept itself (follows_of (site_of R head)) reported)
finite_world = (
  rules_accepted,
  bundle_accepted,
  subst⁻¹ (λ s. HasFinite s (kept itself (follows_of s) reported)) rules_read (subst⁻¹ (HasFinite worked) facts_kept devices_are),
)

-- z in for x where x is n + 1
stand : (n z x : ℕ) → Dec (x ≡ suc n) → ℕ
stand n z x (yes e) = z
stand n z x (no e) = x

stand_low : (n z x : ℕ) (d : Dec (x ≡ suc n)) → z ≤ suc n → x ≤ suc n → (z ≡ x → ⊥) → stand n z x d ≤ n
unfolding stand
stand_low n z x (yes e) low lower other = omega arith
stand_low n z x (no e) low lower other = omega arith

stand_apart : (n z x y : ℕ) (d : Dec (x ≡ suc n)) (c : Dec (y ≡ suc n)) → (z ≡ x → ⊥) → (z ≡ y → ⊥) → stand n z x d ≡ stand n z y c → x ≡ y
unfolding stand
stand_apart n z x y (yes d) (yes c) left right e = omega arith
stand_apart n z x y (yes d) (no c) left right e = absurd (right e)
stand_apart n z x y (no d) (yes c) left right e = omega arith
stand_apart n z x y (no d) (no c) left right e = e

-- numbers cannot all be given different numbers up to n: with f 0 in for n + 1, n would be enough for the others
fewer : (n : ℕ) (f : ℕ → ℕ) → ((k : ℕ) → f k ≤ n) → ((j k : ℕ) → f j ≡ f k → j ≡ k) → ⊥
fewer zero f low apart = let a = low 0 in let b = low 1 in let e = apart 0 1 (omega arith) in omega arith
fewer (suc n) f low apart =
    fewer n
    (λ k. stand n (f 0) (f (suc k)) (dec_eq (f (suc k)) (suc n)))
    (λ k. stand_low n (f 0) (f (suc k)) (dec_eq (f (suc k)) (suc n)) (low 0) (low (suc k)) (first k))
    (λ j k e. let p = apart (suc j) (suc k) (stand_apart n (f 0) (f (suc j)) (f (suc k)) (dec_eq (f (suc j)) (suc n)) (dec_eq (f (suc k)) (suc n)) (first j) (first k) e) in omega arith)
  where
    first : (k : ℕ) → f 0 ≡ f (suc k) → ⊥
    first k e = let p = apart 0 (suc k) e in omega arith

-- without the limit no finite world could name two different device numbers apart
pub limit_needed : (w : World) → Finite w → ((a b : ℕ) → w.thing a ≡ w.thing b → a ≡ b) → ⊥
limit_needed w f apart =
    fewer most_thing (λ a. f.number (w.thing a)) (λ a. f.within (w.thing a)) (λ a b e. apart a b (f.different (w.thing a) (w.thing b) e))
