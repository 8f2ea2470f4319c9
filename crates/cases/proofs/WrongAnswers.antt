-- Wrong answers that the definitions rule out, at small sites: the checker computes the right ones, each wrong one differs in a number.
-- For each of document 01's steps there is an answer that needs it, and what the step gives there is included or excluded by its name.
use Prim.Native.Nat.{ℕ, ◌+◌}
use mathlib.Core.Path.{◌≡◌, refl, sym, ap, ◌∙◌}
use mathlib.Core.Bool.{true, false, false≢true}
use mathlib.Core.List.Memᴰ
use mathlib.Core.List.{List, [], ◌∷◌}
use lib.ListN.{get_or}
use lib.Dec.{eqb}
use borrow.Author.Tests.{eqb-false}
use Rattle.std.specs.Prelude.{Option, Some, None, Ok, Err}
use Rattle.number.specs.Answer.{Answer, refusal, over}
use Rattle.number.specs.declared.refusal.Refusal.{Refusal}
use Rattle.number.specs.declared.refusal.Fault.TheVariants.{NoFact}
use Rattle.number.specs.declared.refusal.Side.TheVariants.{Call}
use Rattle.number.specs.Number.{form_of, second, third, number_at}
use Rattle.site.specs.declared.fact.Fact.{Fact}
use Rattle.site.specs.Kinds.{Node, Rule, Site}
use Rattle.site.specs.Kinds.BasicRole.{forward, inverse}
use Rattle.site.specs.Kinds.BasicConcept.{named, some}
use Rattle.site.specs.Kinds.Node.{concept, role}
use Rattle.site.specs.Kinds.Rule.{included, disjoint, role_included, role_disjoint}
use Rattle.site.specs.Codes.{role_of, concept_of, concept_declared, predicate_declared}
use Rattle.site.specs.Limits.{most_facts}
use Rattle.site.specs.Lists.{up_to, any, count, first, each}
use Rattle.site.specs.Items.{tested_at, at_most, items_from, end_at}
use Rattle.rule.specs.OneRule.{head_of, code_declared, rule_at}
use Rattle.rules.specs.RuleFile.{next_rule, rules_in, next_unbroken, after_rules, check_rules, site_of}
use Rattle.bundle.specs.Bundle.{fact_at, next_fact, facts_in, check_bundle, read_bundle}
use Rattle.steps.specs.Steps.{Included, Excluded}
use Rattle.steps.specs.Steps.SaysIncluded.{kind_0, kind_2}
use Rattle.steps.specs.Steps.SaysExcluded.{kind_1, kind_3}
use Rattle.steps.specs.Steps.Included.{by_rule as included-by-rule, step_1, step_2, step_3, step_4}
use Rattle.steps.specs.Steps.OneOf.{has, has_inverse}
use Rattle.steps.specs.Steps.Excluded.{by_rule as excluded-by-rule, step_5, step_6, step_7, step_8}
use Rattle.steps.specs.Tables.{roles_of, nodes_of, arrow, mates, find, rows_of, looked, through, closure, apart, empty, excludes, functional_in, excluded_rows, follows_from, follows_of}
use Rattle.clashes.specs.Types.{typ, itself, types_of}
use Rattle.clashes.specs.Marks.{jar, split, meet, alone, contradict, clash, mark, partner, marks, partners, marked, counts, supports, support}
use Rattle.clashes.specs.declared.answers.Judged.{Judged}
use Rattle.clashes.specs.declared.answers.Judged.TheVariants.{Kept}
use Rattle.clashes.specs.Judging.{judged}
use Rattle.clean.specs.Operations.{given, room_for_marks, marking, asking, reply_of, having, joining}

-- what is one of two things is not the other, if a number tells them apart
ruled_out : {A : Type 0} (f : A → ℕ) {x right wrong : A} → x ≡ right → eqb (f right) (f wrong) ≡ false → x ≡ wrong → ⊥
ruled_out f {right = right} {wrong = wrong} is other e = eqb-false (f right) (f wrong) other (sym (ap f is) ∙ ap f e)

-- the numbers that tell apart: a row's at a place, and 0 for no, or the number of the fact and 1 more
abbrev row_at : ℕ → Answer (List ℕ) → ℕ
row_at k (Ok row) = get_or row k 3
row_at k (Err r) = 3

abbrev replied : Option ℕ → ℕ
replied (Some n) = n + 1
replied None = 0

abbrev answered : Answer (Option ℕ) → ℕ
answered (Ok r) = replied r
answered (Err r) = 0

abbrev refused_by : {A : Type 0} → Answer A → ℕ
refused_by (Ok a) = 0
refused_by (Err r) = 1

abbrev pub marks_of : List ℕ → List ℕ → Answer (List ℕ)
marks_of rules bundle = over (λ m. m.marks) (marking rules bundle most_facts most_facts)

-- ---- rule files and bundles
-- one role, which is functional; one whose inverse is
abbrev pub one_to : List ℕ
one_to = 0x00 ∷ 0x01 ∷ 0x01 ∷ 0x04 ∷ 0x00 ∷ []

abbrev pub one_from : List ℕ
one_from = 0x00 ∷ 0x01 ∷ 0x01 ∷ 0x04 ∷ 0x01 ∷ []

-- uplink(9,7), uplink(9,8); uplink(7,9), uplink(8,9)
abbrev pub two_to : List ℕ
two_to = 0x02 ∷ 0x40 ∷ 0x09 ∷ 0x07 ∷ 0x40 ∷ 0x09 ∷ 0x08 ∷ []

abbrev pub two_from : List ℕ
two_from = 0x02 ∷ 0x40 ∷ 0x07 ∷ 0x09 ∷ 0x40 ∷ 0x08 ∷ 0x09 ∷ []

-- concept 0 is included in concept 1; and then disjoint from concept 2
abbrev pub within : List ℕ
within = 0x02 ∷ 0x00 ∷ 0x01 ∷ 0x00 ∷ 0x00 ∷ 0x01 ∷ []

abbrev pub without : List ℕ
without = 0x03 ∷ 0x00 ∷ 0x02 ∷ 0x00 ∷ 0x00 ∷ 0x01 ∷ 0x01 ∷ 0x00 ∷ 0x02 ∷ []

-- concepts 0 and 1 of 7; concepts 0, 1 and 2 of 7
abbrev pub both : List ℕ
both = 0x02 ∷ 0x00 ∷ 0x07 ∷ 0x01 ∷ 0x07 ∷ []

abbrev pub all : List ℕ
all = 0x03 ∷ 0x00 ∷ 0x07 ∷ 0x01 ∷ 0x07 ∷ 0x02 ∷ 0x07 ∷ []

-- role 0 is included in role 1; 7 is joined to 8 by both
abbrev pub role_within : List ℕ
role_within = 0x00 ∷ 0x02 ∷ 0x01 ∷ 0x02 ∷ 0x00 ∷ 0x02 ∷ []

abbrev pub both_roles : List ℕ
both_roles = 0x02 ∷ 0x40 ∷ 0x07 ∷ 0x08 ∷ 0x41 ∷ 0x07 ∷ 0x08 ∷ []

-- ---- the right answers
record Right : Type 0 where
  functional_forward : marks_of one_to two_to ≡ Ok (2 ∷ 2 ∷ [])
  functional_inverse : marks_of one_from two_from ≡ Ok (2 ∷ 2 ∷ [])
  other_direction : marks_of one_to two_from ≡ Ok (0 ∷ 0 ∷ [])
  other_inverse : marks_of one_from two_to ≡ Ok (0 ∷ 0 ∷ [])
  lowest : having within both 1 7 ≡ Ok (Some 0)
  lowest_role : joining role_within both_roles 2 7 8 ≡ Ok (Some 0)
  not_kept : having without all 1 7 ≡ Ok (Some 1)
  last : asking within both 1 ≡ Ok Kept
  at_count : asking within both 2 ≡ Err (refusal NoFact Call 0)
  past_count : asking within both 3 ≡ Err (refusal NoFact Call 0)

right : Right
unfolding form_of second third number_at role_of concept_of concept_declared predicate_declared up_to any count first each tested_at at_most items_from end_at head_of code_declared rule_at next_rule rules_in next_unbroken after_rules check_rules site_of fact_at next_fact facts_in check_bundle read_bundle roles_of nodes_of arrow mates find rows_of looked through closure apart empty excludes functional_in excluded_rows follows_from follows_of types_of jar split meet alone contradict clash mark partner marks partners marked counts supports support given room_for_marks marking judged asking reply_of having joining
right =
    record {
      functional_forward = refl;
      functional_inverse = refl;
      other_direction = refl;
      other_inverse = refl;
      lowest = refl;
      lowest_role = refl;
      not_kept = refl;
      last = refl;
      at_count = refl;
      past_count = refl;
    }

-- a functional role joins 9 to two things: neither fact is kept
pub functional_clash_not_missed : marks_of one_to two_to ≡ Ok (0 ∷ 0 ∷ []) → ⊥
functional_clash_not_missed = ruled_out (row_at 0) right.functional_forward refl

-- nor is the first of them
pub functional_first_not_kept : marks_of one_to two_to ≡ Ok (0 ∷ 2 ∷ []) → ⊥
functional_first_not_kept = ruled_out (row_at 0) right.functional_forward refl

-- two things are joined to 9 by a role whose inverse is functional
pub inverse_clash_not_missed : marks_of one_from two_from ≡ Ok (0 ∷ 0 ∷ []) → ⊥
inverse_clash_not_missed = ruled_out (row_at 0) right.functional_inverse refl

-- a functional role's inverse need not be functional, nor a role whose inverse is
pub functional_not_turned : marks_of one_to two_from ≡ Ok (2 ∷ 2 ∷ []) → ⊥
functional_not_turned = ruled_out (row_at 0) right.other_direction refl

pub inverse_not_turned : marks_of one_from two_to ≡ Ok (2 ∷ 2 ∷ []) → ⊥
inverse_not_turned = ruled_out (row_at 0) right.other_inverse refl

-- two kept facts support: the answer is by the lower, though the higher names the asked concept
pub answer_not_by_higher : having within both 1 7 ≡ Ok (Some 1) → ⊥
answer_not_by_higher = ruled_out answered right.lowest refl

-- the same of a role
pub answer_not_by_higher_role : joining role_within both_roles 2 7 8 ≡ Ok (Some 1) → ⊥
answer_not_by_higher_role = ruled_out answered right.lowest_role refl

-- the lowest fact that supports is disputed: the answer is by the kept one
pub answer_not_by_disputed : having without all 1 7 ≡ Ok (Some 0) → ⊥
answer_not_by_disputed = ruled_out answered right.not_kept refl

-- nor is the answer no
pub answer_not_lost : having without all 1 7 ≡ Ok None → ⊥
answer_not_lost = ruled_out answered right.not_kept refl

-- refusal 10: not for the last fact; for the count, and for one more
pub last_fact_not_refused : (r : Refusal) → asking within both 1 ≡ Err r → ⊥
last_fact_not_refused r = ruled_out refused_by right.last refl

pub count_not_judged : (j : Judged) → asking within both 2 ≡ Ok j → ⊥
count_not_judged j = ruled_out refused_by right.at_count refl

pub past_count_not_judged : (j : Judged) → asking within both 3 ≡ Ok j → ⊥
past_count_not_judged j = ruled_out refused_by right.past_count refl

-- ---- the steps: for each, a site and what is answered there, which is another without the step; and what the step gives
abbrev site : ℕ → ℕ → List Rule → Site
site concepts roles rules = record { concepts = concepts; roles = roles; rules = rules }

abbrev fact : ℕ → ℕ → ℕ → Fact
fact predicate subject object = record { predicate = predicate; subject = subject; object = object }

-- "B of a", "q from a to b", and the marks
abbrev pub has_type : Site → List Fact → Node → ℕ → ℕ → Option ℕ
has_type s facts node a b = reply_of (follows_of s) facts (typ node a b)

abbrev pub marks_in : Site → List Fact → List ℕ
marks_in s facts = marks itself (follows_of s) facts

abbrev pub no_rule : Site
no_rule = site 1 0 []

abbrev pub two_inclusions : Site
two_inclusions = site 3 0 (included (named 0) (named 1) ∷ included (named 1) (named 2) ∷ [])

abbrev pub role_inclusion : Site
role_inclusion = site 0 2 (role_included (forward 0) (forward 1) ∷ [])

abbrev pub one_disjoint : Site
one_disjoint = site 2 0 (disjoint (named 0) (named 1) ∷ [])

abbrev pub below_disjoint : Site
below_disjoint = site 3 0 (included (named 0) (named 1) ∷ disjoint (named 1) (named 2) ∷ [])

abbrev pub below_role_disjoint : Site
below_role_disjoint = site 0 3 (role_included (forward 0) (forward 1) ∷ role_disjoint (forward 1) (forward 2) ∷ [])

abbrev pub one_role_disjoint : Site
one_role_disjoint = site 0 2 (role_disjoint (forward 0) (forward 1) ∷ [])

abbrev pub empty_role : Site
empty_role = site 1 1 (included (named 0) (some (inverse 0)) ∷ disjoint (some (forward 0)) (some (forward 0)) ∷ [])

record RightSteps : Type 0 where
  by_1 : has_type no_rule (fact 0 9 0 ∷ []) (concept (named 0)) 9 9 ≡ Some 0
  by_2 : has_type two_inclusions (fact 0 7 0 ∷ []) (concept (named 2)) 7 7 ≡ Some 0
  by_3 : has_type role_inclusion (fact 64 7 8 ∷ []) (role (inverse 1)) 8 7 ≡ Some 0
  by_4 : has_type role_inclusion (fact 64 7 8 ∷ []) (concept (some (forward 1))) 7 7 ≡ Some 0
  by_5 : marks_in one_disjoint (fact 0 7 0 ∷ fact 1 7 0 ∷ []) ≡ 2 ∷ 2 ∷ []
  by_6 : marks_in below_disjoint (fact 0 7 0 ∷ fact 2 7 0 ∷ []) ≡ 2 ∷ 2 ∷ []
  by_6_roles : marks_in below_role_disjoint (fact 64 7 8 ∷ fact 66 7 8 ∷ []) ≡ 2 ∷ 2 ∷ []
  by_7 : (follows_of one_role_disjoint).is_excluded (role (inverse 0)) (role (inverse 1)) ≡ true
  by_8 : marks_in empty_role (fact 0 7 0 ∷ []) ≡ 1 ∷ []

right_steps : RightSteps
unfolding up_to any first each roles_of nodes_of arrow mates find rows_of looked through closure apart empty excludes functional_in excluded_rows follows_from follows_of types_of jar split meet alone contradict clash mark marks marked supports support reply_of
right_steps =
    record {
      by_1 = refl;
      by_2 = refl;
      by_3 = refl;
      by_4 = refl;
      by_5 = refl;
      by_6 = refl;
      by_6_roles = refl;
      by_7 = refl;
      by_8 = refl;
    }

-- step 1: Camera(9) answers whether 9 is a Camera, without any rule
pub without_step_1 : has_type no_rule (fact 0 9 0 ∷ []) (concept (named 0)) 9 9 ≡ None → ⊥
without_step_1 = ruled_out replied right_steps.by_1 refl

pub given_by_step_1 : Included no_rule (concept (named 0)) (concept (named 0))
given_by_step_1 = step_1 refl

-- step 2: concept 0 in 1, 1 in 2
pub without_step_2 : has_type two_inclusions (fact 0 7 0 ∷ []) (concept (named 2)) 7 7 ≡ None → ⊥
without_step_2 = ruled_out replied right_steps.by_2 refl

pub given_by_step_2 : Included two_inclusions (concept (named 0)) (concept (named 2))
given_by_step_2 =
    step_2 (included-by-rule (Memᴰ.head refl) (kind_0 {b = named 0} {c = named 1})) (included-by-rule (Memᴰ.tail (Memᴰ.head refl)) kind_0)

-- step 3: role 0 in role 1, asked from the object to the subject
pub without_step_3 : has_type role_inclusion (fact 64 7 8 ∷ []) (role (inverse 1)) 8 7 ≡ None → ⊥
without_step_3 = ruled_out replied right_steps.by_3 refl

pub given_by_step_3 : Included role_inclusion (role (inverse 0)) (role (inverse 1))
given_by_step_3 = step_3 {p = forward 0} {q = forward 1} (included-by-rule (Memᴰ.head refl) kind_2)

-- step 4: and asked whether 7 has a partner by role 1
pub without_step_4 : has_type role_inclusion (fact 64 7 8 ∷ []) (concept (some (forward 1))) 7 7 ≡ None → ⊥
without_step_4 = ruled_out replied right_steps.by_4 refl

pub given_by_step_4 : Included role_inclusion (concept (some (forward 0))) (concept (some (forward 1)))
given_by_step_4 = step_4 (included-by-rule (Memᴰ.head refl) kind_2)

-- step 5: both facts of two disjoint concepts are disputed, and not the one that the rule names first or last
pub without_step_5 : marks_in one_disjoint (fact 0 7 0 ∷ fact 1 7 0 ∷ []) ≡ 2 ∷ 0 ∷ [] → ⊥
without_step_5 = ruled_out (λ row. get_or row 1 3) right_steps.by_5 refl

pub without_step_5_turned : marks_in one_disjoint (fact 0 7 0 ∷ fact 1 7 0 ∷ []) ≡ 0 ∷ 2 ∷ [] → ⊥
without_step_5_turned = ruled_out (λ row. get_or row 0 3) right_steps.by_5 refl

pub given_by_step_5 : Excluded one_disjoint (concept (named 1)) (concept (named 0))
given_by_step_5 = step_5 (excluded-by-rule (Memᴰ.head refl) kind_1)

-- step 6: concept 0 in 1, 1 disjoint from 2
pub without_step_6 : marks_in below_disjoint (fact 0 7 0 ∷ fact 2 7 0 ∷ []) ≡ 0 ∷ 0 ∷ [] → ⊥
without_step_6 = ruled_out (λ row. get_or row 0 3) right_steps.by_6 refl

pub given_by_step_6 : Excluded below_disjoint (concept (named 0)) (concept (named 2))
given_by_step_6 =
    step_6 (included-by-rule (Memᴰ.head refl) (kind_0 {b = named 0} {c = named 1})) (excluded-by-rule (Memᴰ.tail (Memᴰ.head refl)) kind_1)

-- the same of roles
pub without_step_6_roles : marks_in below_role_disjoint (fact 64 7 8 ∷ fact 66 7 8 ∷ []) ≡ 0 ∷ 0 ∷ [] → ⊥
without_step_6_roles = ruled_out (λ row. get_or row 0 3) right_steps.by_6_roles refl

pub given_by_step_6_roles : Excluded below_role_disjoint (role (forward 0)) (role (forward 2))
given_by_step_6_roles =
    step_6 (included-by-rule (Memᴰ.head refl) (kind_2 {p = forward 0} {q = forward 1})) (excluded-by-rule (Memᴰ.tail (Memᴰ.head refl)) kind_3)

-- step 7: it changes no mark, since a role's fact has both directions among its types; so of the test itself
pub without_step_7 : (follows_of one_role_disjoint).is_excluded (role (inverse 0)) (role (inverse 1)) ≡ false → ⊥
without_step_7 e = false≢true (sym e ∙ right_steps.by_7)

pub given_by_step_7 : Excluded one_role_disjoint (role (inverse 0)) (role (inverse 1))
given_by_step_7 = step_7 {p = forward 0} {q = forward 1} (excluded-by-rule (Memᴰ.head refl) kind_3)

-- step 8: nobody has a partner by role 0, so nobody is one, and concept 0 demands to be one
pub without_step_8 : marks_in empty_role (fact 0 7 0 ∷ []) ≡ 0 ∷ [] → ⊥
without_step_8 = ruled_out (λ row. get_or row 0 3) right_steps.by_8 refl

pub given_by_step_8 : Excluded empty_role (concept (some (inverse 0))) (concept (some (inverse 0)))
given_by_step_8 = step_8 {q = forward 0} has has_inverse (excluded-by-rule (Memᴰ.tail (Memᴰ.head refl)) kind_1)
