-- Document 01's cases and its "errors a careful builder still makes", as one statement over one list: each case is some bytes and what document
-- 01 says of them, and the checker computes from the definitions that they give it.
use Prim.Native.Nat.{ℕ}
use mathlib.Core.Path.{◌≡◌, refl}
use mathlib.Core.List.{List, [], ◌∷◌, map}
use Rattle.std.specs.Prelude.{Option, Some, None, Ok, Err}
use Rattle.number.specs.Answer.{Answer, fault_of, refusal, over, about}
use Rattle.number.specs.declared.read.Read.{Read}
use Rattle.number.specs.declared.refusal.Side.{Side}
use Rattle.number.specs.declared.refusal.Side.TheVariants.{Rules, Bundle}
use Rattle.number.specs.Number.{form_of, second, third, number_at, bytes_of}
use Rattle.site.specs.Codes.{role_of, concept_of, concept_declared, predicate_declared}
use Rattle.site.specs.Limits.{most_facts, most_number, no_partner}
use Rattle.site.specs.Lists.{up_to, any, count, keep, first, each}
use Rattle.site.specs.Items.{tested_at, at_most, items_from, end_at}
use Rattle.rule.specs.OneRule.{head_of, code_declared, rule_at}
use Rattle.rules.specs.RuleFile.{next_rule, rules_in, next_unbroken, after_rules, check_rules, site_of}
use Rattle.bundle.specs.Bundle.{fact_at, next_fact, facts_in, check_bundle, read_bundle, fact_bytes, bundle_of}
use Rattle.writer.specs.Records.{room_for}
use Rattle.steps.specs.Tables.{roles_of, nodes_of, arrow, mates, find, rows_of, looked, through, closure, apart, empty, excludes, functional_in, excluded_rows, follows_from, follows_of}
use Rattle.clashes.specs.Types.{types_of}
use Rattle.clashes.specs.Marks.{jar, split, meet, alone, contradict, clash, mark, partner, marks, partners, marked, counts, kept, supports, support}
use Rattle.clashes.specs.declared.answers.Counts.{Counts}
use Rattle.clean.specs.Operations.{given, room_for_marks, marking, counting, reply_of, having, joining, keeping}

-- a case: bytes, and what document 01 says of them
pub data Case : Type 0 where
  -- a number, at place 0 of the rules
  number : List ℕ → Answer (Read ℕ) → Case
  -- rules and bundle: the counts, the marks, the partners, the kept bundle
  counted marked_so partnered kept_so : List ℕ → List ℕ → Answer (List ℕ) → Case
  -- rules and bundle, then "B of a"
  asked_of : List ℕ → List ℕ → ℕ → ℕ → Answer (Option ℕ) → Case
  -- rules and bundle, then "q from a to b"
  asked_from : List ℕ → List ℕ → ℕ → ℕ → ℕ → Answer (Option ℕ) → Case

-- what is said: a number with the place after it, a row of numbers, or a reply
pub data Said : Type 0 where
  read : Answer (Read ℕ) → Said
  row : Answer (List ℕ) → Said
  reply : Answer (Option ℕ) → Said

abbrev in_order : Counts → List ℕ
in_order c = c.facts ∷ c.kept ∷ c.alone ∷ c.disputed ∷ []

-- what the definitions give
abbrev pub defined : Case → Said
defined (number s e) = read (number_at s 0 most_number Rules)
defined (counted r f e) = row (over in_order (counting r f))
defined (marked_so r f e) = row (over (λ m. m.marks) (marking r f most_facts most_facts))
defined (partnered r f e) = row (over (λ m. m.partners) (marking r f most_facts most_facts))
defined (kept_so r f e) = row (keeping r f most_number)
defined (asked_of r f b a e) = reply (having r f b a)
defined (asked_from r f q a b e) = reply (joining r f q a b)

-- what document 01 says
abbrev pub expected : Case → Said
expected (number s e) = read e
expected (counted r f e) = row e
expected (marked_so r f e) = row e
expected (partnered r f e) = row e
expected (kept_so r f e) = row e
expected (asked_of r f b a e) = reply e
expected (asked_from r f q a b e) = reply e

abbrev value : ℕ → ℕ → Answer (Read ℕ)
value v next = Ok (record { value = v; next = next })

-- refused about no item, and about one
abbrev refused : {A : Type 0} → ℕ → Side → ℕ → Answer A
refused n side place = Err (refusal (fault_of n) side place)

abbrev refused_in : {A : Type 0} → ℕ → ℕ → Side → ℕ → Answer A
refused_in item n side place = about item (refused n side place)

-- "Rule file R", "Bundle F"
abbrev pub R : List ℕ
R = 0x02 ∷ 0x01 ∷ 0x05 ∷ 0x01 ∷ 0x00 ∷ 0x01 ∷ 0x00 ∷ 0x01 ∷ 0x40 ∷ 0x00 ∷ 0x41 ∷ 0x00 ∷ 0x04 ∷ 0x00 ∷ 0x03 ∷ 0x00 ∷ 0x01 ∷ []

abbrev pub F : List ℕ
F = 0x06 ∷ 0x00 ∷ 0x07 ∷ 0x01 ∷ 0x07 ∷ 0x01 ∷ 0x09 ∷ 0x40 ∷ 0x09 ∷ 0x07 ∷ 0x40 ∷ 0x09 ∷ 0xAC ∷ 0x02 ∷ 0x40 ∷ 0x0C ∷ 0x0C ∷ []

-- rules in which what is uplinked to is a Switch and a Camera: uplink is empty
abbrev emptied : List ℕ
emptied = 0x02 ∷ 0x01 ∷ 0x04 ∷ 0x01 ∷ 0x00 ∷ 0x01 ∷ 0x00 ∷ 0x01 ∷ 0x40 ∷ 0x00 ∷ 0x41 ∷ 0x00 ∷ 0x00 ∷ 0x41 ∷ 0x01 ∷ []

-- one role: its two ends are disjoint; its two directions are disjoint
abbrev ends : List ℕ
ends = 0x00 ∷ 0x01 ∷ 0x01 ∷ 0x01 ∷ 0x40 ∷ 0x41 ∷ []

abbrev directions : List ℕ
directions = 0x00 ∷ 0x01 ∷ 0x01 ∷ 0x03 ∷ 0x00 ∷ 0x01 ∷ []

pub cases : List Case
cases =
    -- "P numbers"
    number (0x7F ∷ []) (value 127 1)
    ∷ number (0x80 ∷ 0x01 ∷ []) (value 128 2)
    ∷ number (0xFF ∷ 0xFF ∷ 0x03 ∷ []) (value 65535 3)
    ∷ number (0x80 ∷ 0x80 ∷ 0x04 ∷ []) (refused 3 Rules 0)
    ∷ number (0x80 ∷ 0x00 ∷ []) (refused 2 Rules 0)
    ∷ number (0x80 ∷ 0x80 ∷ 0x80 ∷ []) (refused 3 Rules 0)
    ∷ number (0x80 ∷ []) (refused 1 Rules 0)
    -- "P marks of F under R: 2 2 0 2 2 1. Kept bundle 01 01 09."
    ∷ marked_so R F (Ok (2 ∷ 2 ∷ 0 ∷ 2 ∷ 2 ∷ 1 ∷ []))
    ∷ kept_so R F (Ok (0x01 ∷ 0x01 ∷ 0x09 ∷ []))
    -- the listing's counts and partners
    ∷ counted R F (Ok (6 ∷ 1 ∷ 1 ∷ 4 ∷ []))
    ∷ partnered R F (Ok (1 ∷ 0 ∷ no_partner ∷ 1 ∷ 3 ∷ no_partner ∷ []))
    -- "P under R and F"
    ∷ asked_of R F 64 9 (Ok (Some 2))
    ∷ asked_of R F 0 300 (Ok None)
    ∷ asked_of R F 0 7 (Ok None)
    -- "uplink is empty, so Camera(7) is alone and Switch(7) beside it is kept"
    ∷ marked_so emptied (0x02 ∷ 0x00 ∷ 0x07 ∷ 0x01 ∷ 0x07 ∷ []) (Ok (0 ∷ 1 ∷ []))
    -- refusals: no bytes, a count over its limit (`80 20` begins 4,096 facts, the first of them missing), a functional role, the order
    ∷ marked_so R [] (refused 1 Bundle 0)
    ∷ marked_so R (0x00 ∷ []) (Ok [])
    ∷ marked_so R (0x80 ∷ 0x20 ∷ []) (refused_in 0 1 Bundle 2)
    ∷ marked_so R (0x81 ∷ 0x20 ∷ []) (refused 4 Bundle 0)
    ∷ marked_so (0x00 ∷ 0x01 ∷ 0x02 ∷ 0x04 ∷ 0x00 ∷ 0x02 ∷ 0x01 ∷ 0x01 ∷ []) (0x00 ∷ []) (refused_in 0 6 Rules 3)
    ∷ marked_so R (0x02 ∷ 0x00 ∷ 0x07 ∷ 0x00 ∷ 0x07 ∷ []) (refused_in 1 8 Bundle 3)
    -- "Marking a fact disputed because of a fact that is alone": Camera(12) beside uplink(12,12)
    ∷ marked_so R (0x02 ∷ 0x01 ∷ 0x0C ∷ 0x40 ∷ 0x0C ∷ 0x0C ∷ []) (Ok (0 ∷ 1 ∷ []))
    -- "a role nobody can have does not empty the concepts that demand it": Camera(9) is alone, and tells of no partner
    ∷ marked_so emptied (0x01 ∷ 0x01 ∷ 0x09 ∷ []) (Ok (1 ∷ []))
    ∷ asked_of emptied (0x01 ∷ 0x01 ∷ 0x09 ∷ []) 64 9 (Ok None)
    -- "Forgetting the loop R(a,a), where both ends and both directions meet": uplink(7,7), and uplink(7,8), uplink(8,7) beside it
    ∷ marked_so ends (0x01 ∷ 0x40 ∷ 0x07 ∷ 0x07 ∷ []) (Ok (1 ∷ []))
    ∷ marked_so ends (0x01 ∷ 0x40 ∷ 0x07 ∷ 0x08 ∷ []) (Ok (0 ∷ []))
    ∷ marked_so directions (0x01 ∷ 0x40 ∷ 0x07 ∷ 0x07 ∷ []) (Ok (1 ∷ []))
    ∷ marked_so directions (0x02 ∷ 0x40 ∷ 0x07 ∷ 0x08 ∷ 0x40 ∷ 0x08 ∷ 0x07 ∷ []) (Ok (2 ∷ 2 ∷ []))
    -- "Keeping the first of two contradicting facts": Switch(7), Camera(7)
    ∷ marked_so R (0x02 ∷ 0x00 ∷ 0x07 ∷ 0x01 ∷ 0x07 ∷ []) (Ok (2 ∷ 2 ∷ []))
    ∷ kept_so R (0x02 ∷ 0x00 ∷ 0x07 ∷ 0x01 ∷ 0x07 ∷ []) (Ok (0x00 ∷ []))
    -- "Dropping a camera because its uplink is unnamed": Camera(9)
    ∷ marked_so R (0x01 ∷ 0x01 ∷ 0x09 ∷ []) (Ok (0 ∷ []))
    ∷ asked_of R (0x01 ∷ 0x01 ∷ 0x09 ∷ []) 64 9 (Ok (Some 0))
    -- "q from a to b": uplink(9,7) joins 7 to 9 by its inverse, and not 9 to 7
    ∷ asked_from R (0x01 ∷ 0x40 ∷ 0x09 ∷ 0x07 ∷ []) 1 7 9 (Ok (Some 0))
    ∷ asked_from R (0x01 ∷ 0x40 ∷ 0x09 ∷ 0x07 ∷ []) 1 9 7 (Ok None)
    ∷ []

pub cases_hold : map defined cases ≡ map expected cases
unfolding cases form_of second third number_at bytes_of role_of concept_of concept_declared predicate_declared up_to any count keep first each tested_at at_most items_from end_at head_of code_declared rule_at next_rule rules_in next_unbroken after_rules check_rules site_of fact_at next_fact facts_in check_bundle read_bundle fact_bytes bundle_of room_for roles_of nodes_of arrow mates find rows_of looked through closure apart empty excludes functional_in excluded_rows follows_from follows_of types_of jar split meet alone contradict clash mark partner marks partners marked counts kept supports support given room_for_marks marking counting reply_of having joining keeping
cases_hold = refl
