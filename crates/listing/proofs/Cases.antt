-- Document 01's listing as one statement over one list: each case is rules and a bundle, or an answer, and the lines that document 01 prints for
-- it; the checker computes from the definitions that they give these bytes.
use Prim.Native.Nat.{ℕ}
use mathlib.Core.Path.{◌≡◌, refl}
use mathlib.Core.List.{List, [], ◌∷◌, ◌++◌, map}
use Rattle.number.specs.Answer.{refusal}
use Rattle.number.specs.Number.{form_of, second, third, number_at}
use Rattle.number.specs.declared.refusal.Refusal.{Refusal}
use Rattle.number.specs.declared.refusal.Fault.TheVariants.{After}
use Rattle.number.specs.declared.refusal.Side.TheVariants.{Rules}
use Rattle.site.specs.Codes.{role_of, concept_of, concept_declared, predicate_declared}
use Rattle.site.specs.Lists.{up_to, any, count, first, each}
use Rattle.site.specs.Items.{tested_at, at_most, items_from, end_at}
use Rattle.rule.specs.OneRule.{head_of, code_declared, rule_at}
use Rattle.rules.specs.RuleFile.{next_rule, rules_in, next_unbroken, after_rules, check_rules, site_of}
use Rattle.bundle.specs.Bundle.{fact_at, next_fact, facts_in, check_bundle, read_bundle}
use Rattle.steps.specs.Tables.{roles_of, nodes_of, arrow, mates, find, rows_of, looked, through, closure, apart, empty, excludes, functional_in, excluded_rows, follows_from, follows_of}
use Rattle.clashes.specs.Types.{types_of}
use Rattle.clashes.specs.Marks.{jar, split, meet, alone, contradict, clash, mark, partner, marks, partners, marked, counts}
use Rattle.clashes.specs.declared.answers.Counts.{Counts}
use Rattle.clashes.specs.declared.answers.Judged.{Judged}
use Rattle.clashes.specs.declared.answers.Judged.TheVariants.{Kept, Alone, Disputed}
use Rattle.clean.specs.Operations.{given, room_for_marks, marking}
use Rattle.listing.specs.Decimal.{digits_of, decimal_of}
use Rattle.listing.specs.Put.{named}
use Rattle.listing.specs.Lines.{counts_line, mark_of, fact_line, place_of, refusal_line}
use Rattle.listing.specs.Listing.{line_at, lines_from, listing_of}

-- a case: what is printed, and the lines
pub data Case : Type 0 where
  -- the whole listing of rules and a bundle
  whole : List ℕ → List ℕ → List ℕ → Case
  -- one line: of counts, of a fact's number and what is judged of it, of a refusal
  of_counts : Counts → List ℕ → Case
  of_fact : ℕ → Judged → List ℕ → Case
  of_refusal : Refusal → List ℕ → Case

-- what the definitions give
abbrev pub defined : Case → List ℕ
defined (whole r f e) = listing_of r f
defined (of_counts c e) = counts_line c
defined (of_fact n j e) = fact_line n j
defined (of_refusal r e) = refusal_line r

-- what document 01 prints
abbrev pub printed : Case → List ℕ
printed (whole r f e) = e
printed (of_counts c e) = e
printed (of_fact n j e) = e
printed (of_refusal r e) = e

-- "Rule file R", "Bundle F"
abbrev R : List ℕ
R = 0x02 ∷ 0x01 ∷ 0x05 ∷ 0x01 ∷ 0x00 ∷ 0x01 ∷ 0x00 ∷ 0x01 ∷ 0x40 ∷ 0x00 ∷ 0x41 ∷ 0x00 ∷ 0x04 ∷ 0x00 ∷ 0x03 ∷ 0x00 ∷ 0x01 ∷ []

abbrev F : List ℕ
F = 0x06 ∷ 0x00 ∷ 0x07 ∷ 0x01 ∷ 0x07 ∷ 0x01 ∷ 0x09 ∷ 0x40 ∷ 0x09 ∷ 0x07 ∷ 0x40 ∷ 0x09 ∷ 0xAC ∷ 0x02 ∷ 0x40 ∷ 0x0C ∷ 0x0C ∷ []

-- the listing of R and F, a line at a time
abbrev worked : List ℕ
worked =
    -- `facts 6 kept 1 alone 1 disputed 4`
    (102 ∷ 97 ∷ 99 ∷ 116 ∷ 115 ∷ 32 ∷ 54 ∷ 32 ∷ 107 ∷ 101 ∷ 112 ∷ 116 ∷ 32 ∷ 49 ∷ 32 ∷ 97 ∷ 108 ∷ 111 ∷ 110 ∷ 101 ∷ 32 ∷ 49 ∷ 32 ∷ 100 ∷ 105 ∷ 115 ∷ 112 ∷ 117 ∷ 116 ∷ 101 ∷ 100 ∷ 32 ∷ 52 ∷ 10 ∷ [])
    -- `0 disputed 1`
    ++ (48 ∷ 32 ∷ 100 ∷ 105 ∷ 115 ∷ 112 ∷ 117 ∷ 116 ∷ 101 ∷ 100 ∷ 32 ∷ 49 ∷ 10 ∷ [])
    -- `1 disputed 0`
    ++ (49 ∷ 32 ∷ 100 ∷ 105 ∷ 115 ∷ 112 ∷ 117 ∷ 116 ∷ 101 ∷ 100 ∷ 32 ∷ 48 ∷ 10 ∷ [])
    -- `2 kept`
    ++ (50 ∷ 32 ∷ 107 ∷ 101 ∷ 112 ∷ 116 ∷ 10 ∷ [])
    -- `3 disputed 1`
    ++ (51 ∷ 32 ∷ 100 ∷ 105 ∷ 115 ∷ 112 ∷ 117 ∷ 116 ∷ 101 ∷ 100 ∷ 32 ∷ 49 ∷ 10 ∷ [])
    -- `4 disputed 3`
    ++ (52 ∷ 32 ∷ 100 ∷ 105 ∷ 115 ∷ 112 ∷ 117 ∷ 116 ∷ 101 ∷ 100 ∷ 32 ∷ 51 ∷ 10 ∷ [])
    -- `5 alone`
    ++ (53 ∷ 32 ∷ 97 ∷ 108 ∷ 111 ∷ 110 ∷ 101 ∷ 10 ∷ [])

pub cases : List Case
cases =
    -- "For R and F it prints exactly"
    whole R F worked
    -- `refused 8 in bundle at 3`
    ∷ whole R (0x02 ∷ 0x00 ∷ 0x07 ∷ 0x00 ∷ 0x07 ∷ []) (114 ∷ 101 ∷ 102 ∷ 117 ∷ 115 ∷ 101 ∷ 100 ∷ 32 ∷ 56 ∷ 32 ∷ 105 ∷ 110 ∷ 32 ∷ 98 ∷ 117 ∷ 110 ∷ 100 ∷ 108 ∷ 101 ∷ 32 ∷ 97 ∷ 116 ∷ 32 ∷ 51 ∷ 10 ∷ [])
    -- `refused 1 in rules at 0`, `refused 1 in bundle at 0`
    ∷ whole [] [] (114 ∷ 101 ∷ 102 ∷ 117 ∷ 115 ∷ 101 ∷ 100 ∷ 32 ∷ 49 ∷ 32 ∷ 105 ∷ 110 ∷ 32 ∷ 114 ∷ 117 ∷ 108 ∷ 101 ∷ 115 ∷ 32 ∷ 97 ∷ 116 ∷ 32 ∷ 48 ∷ 10 ∷ [])
    ∷ whole R [] (114 ∷ 101 ∷ 102 ∷ 117 ∷ 115 ∷ 101 ∷ 100 ∷ 32 ∷ 49 ∷ 32 ∷ 105 ∷ 110 ∷ 32 ∷ 98 ∷ 117 ∷ 110 ∷ 100 ∷ 108 ∷ 101 ∷ 32 ∷ 97 ∷ 116 ∷ 32 ∷ 48 ∷ 10 ∷ [])
    -- `refused 11 in rules at 3`: the item is not printed
    ∷ whole (0x00 ∷ 0x00 ∷ 0x01 ∷ 0x05 ∷ []) [] (114 ∷ 101 ∷ 102 ∷ 117 ∷ 115 ∷ 101 ∷ 100 ∷ 32 ∷ 49 ∷ 49 ∷ 32 ∷ 105 ∷ 110 ∷ 32 ∷ 114 ∷ 117 ∷ 108 ∷ 101 ∷ 115 ∷ 32 ∷ 97 ∷ 116 ∷ 32 ∷ 51 ∷ 10 ∷ [])
    -- `facts 0 kept 0 alone 0 disputed 0`
    ∷ whole R (0x00 ∷ []) (102 ∷ 97 ∷ 99 ∷ 116 ∷ 115 ∷ 32 ∷ 48 ∷ 32 ∷ 107 ∷ 101 ∷ 112 ∷ 116 ∷ 32 ∷ 48 ∷ 32 ∷ 97 ∷ 108 ∷ 111 ∷ 110 ∷ 101 ∷ 32 ∷ 48 ∷ 32 ∷ 100 ∷ 105 ∷ 115 ∷ 112 ∷ 117 ∷ 116 ∷ 101 ∷ 100 ∷ 32 ∷ 48 ∷ 10 ∷ [])
    -- `facts 4096 kept 90 alone 1005 disputed 3001`
    ∷ of_counts (record { facts = 4096; kept = 90; alone = 1005; disputed = 3001 }) (102 ∷ 97 ∷ 99 ∷ 116 ∷ 115 ∷ 32 ∷ 52 ∷ 48 ∷ 57 ∷ 54 ∷ 32 ∷ 107 ∷ 101 ∷ 112 ∷ 116 ∷ 32 ∷ 57 ∷ 48 ∷ 32 ∷ 97 ∷ 108 ∷ 111 ∷ 110 ∷ 101 ∷ 32 ∷ 49 ∷ 48 ∷ 48 ∷ 53 ∷ 32 ∷ 100 ∷ 105 ∷ 115 ∷ 112 ∷ 117 ∷ 116 ∷ 101 ∷ 100 ∷ 32 ∷ 51 ∷ 48 ∷ 48 ∷ 49 ∷ 10 ∷ [])
    -- `10 kept`, `100 alone`, `4095 disputed 907`
    ∷ of_fact 10 Kept (49 ∷ 48 ∷ 32 ∷ 107 ∷ 101 ∷ 112 ∷ 116 ∷ 10 ∷ [])
    ∷ of_fact 100 Alone (49 ∷ 48 ∷ 48 ∷ 32 ∷ 97 ∷ 108 ∷ 111 ∷ 110 ∷ 101 ∷ 10 ∷ [])
    ∷ of_fact 4095 (Disputed 907) (52 ∷ 48 ∷ 57 ∷ 53 ∷ 32 ∷ 100 ∷ 105 ∷ 115 ∷ 112 ∷ 117 ∷ 116 ∷ 101 ∷ 100 ∷ 32 ∷ 57 ∷ 48 ∷ 55 ∷ 10 ∷ [])
    -- `refused 7 in rules at 2820`
    ∷ of_refusal (refusal After Rules 2820) (114 ∷ 101 ∷ 102 ∷ 117 ∷ 115 ∷ 101 ∷ 100 ∷ 32 ∷ 55 ∷ 32 ∷ 105 ∷ 110 ∷ 32 ∷ 114 ∷ 117 ∷ 108 ∷ 101 ∷ 115 ∷ 32 ∷ 97 ∷ 116 ∷ 32 ∷ 50 ∷ 56 ∷ 50 ∷ 48 ∷ 10 ∷ [])
    ∷ []

pub cases_hold : map defined cases ≡ map printed cases
unfolding cases digits_of decimal_of named counts_line mark_of fact_line place_of refusal_line line_at lines_from listing_of form_of second third number_at role_of concept_of concept_declared predicate_declared up_to any count first each tested_at at_most items_from end_at head_of code_declared rule_at next_rule rules_in next_unbroken after_rules check_rules site_of fact_at next_fact facts_in check_bundle read_bundle roles_of nodes_of arrow mates find rows_of looked through closure apart empty excludes functional_in excluded_rows follows_from follows_of types_of jar split meet alone contradict clash mark partner marks partners marked counts given room_for_marks marking
cases_hold = refl
