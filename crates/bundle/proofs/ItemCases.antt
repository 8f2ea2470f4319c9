-- "the number of the item there (rule or fact; 65,535 in the header and after the last item)": every refusal of a bundle in its first, a middle and its
-- last fact, in the header and after the end, as one statement over one list. The facts are `00 07`, `01 09` and `40 09 07` but for the fault.
use mathlib.Core.Path.{◌≡◌, refl}
use mathlib.Core.List.{List, [], ◌∷◌, map}
use Rattle.number.specs.Number.{third, second, form_of, number_at}
use Rattle.site.specs.Codes.{predicate_declared}
use Rattle.site.specs.Items.{tested_at, at_most, items_from, end_at}
use Rattle.bundle.specs.Bundle.{fact_at, next_fact, facts_in, check_bundle, read_bundle}
use Rattle.bundle.proofs.Cases.{Case, refused, refused_in, worked}

abbrev pub cases : List Case
cases =
    -- "65,535 in the header": the count of a long form, and over every number
    refused (0x83 ∷ 0x00 ∷ []) 2 0
    ∷ refused (0x80 ∷ 0x80 ∷ 0x04 ∷ []) 3 0
    ∷ refused (0x83 ∷ []) 1 0
    -- the bytes end where a fact is due: the first right after the header, a middle one, the last
    ∷ refused_in 0 (0x03 ∷ []) 1 1
    ∷ refused_in 1 (0x03 ∷ 0x00 ∷ 0x07 ∷ []) 1 3
    ∷ refused_in 2 (0x03 ∷ 0x00 ∷ 0x07 ∷ 0x01 ∷ 0x09 ∷ []) 1 5
    -- they end within one
    ∷ refused_in 0 (0x03 ∷ 0x00 ∷ []) 1 2
    ∷ refused_in 1 (0x03 ∷ 0x00 ∷ 0x07 ∷ 0x01 ∷ []) 1 4
    ∷ refused_in 2 (0x03 ∷ 0x00 ∷ 0x07 ∷ 0x01 ∷ 0x09 ∷ 0x40 ∷ 0x09 ∷ []) 1 7
    -- a long form, and a number over every one, of a predicate, a subject and an object
    ∷ refused_in 0 (0x03 ∷ 0x80 ∷ 0x00 ∷ []) 2 1
    ∷ refused_in 1 (0x03 ∷ 0x00 ∷ 0x07 ∷ 0x01 ∷ 0x89 ∷ 0x00 ∷ []) 2 4
    ∷ refused_in 2 (0x03 ∷ 0x00 ∷ 0x07 ∷ 0x01 ∷ 0x09 ∷ 0x40 ∷ 0x09 ∷ 0x87 ∷ 0x00 ∷ []) 2 7
    ∷ refused_in 0 (0x03 ∷ 0x80 ∷ 0x80 ∷ 0x04 ∷ []) 3 1
    ∷ refused_in 1 (0x03 ∷ 0x00 ∷ 0x07 ∷ 0x01 ∷ 0x80 ∷ 0x80 ∷ 0x04 ∷ []) 3 4
    ∷ refused_in 2 (0x03 ∷ 0x00 ∷ 0x07 ∷ 0x01 ∷ 0x09 ∷ 0x40 ∷ 0x09 ∷ 0x80 ∷ 0x80 ∷ 0x80 ∷ []) 3 7
    -- a predicate that is not declared
    ∷ refused_in 0 (0x03 ∷ 0x02 ∷ 0x07 ∷ 0x01 ∷ 0x09 ∷ 0x40 ∷ 0x09 ∷ 0x07 ∷ []) 5 1
    ∷ refused_in 1 (0x03 ∷ 0x00 ∷ 0x07 ∷ 0x02 ∷ 0x09 ∷ 0x40 ∷ 0x09 ∷ 0x07 ∷ []) 5 3
    ∷ refused_in 2 (0x03 ∷ 0x00 ∷ 0x07 ∷ 0x01 ∷ 0x09 ∷ 0x41 ∷ 0x09 ∷ 0x07 ∷ []) 5 5
    -- a fact not above the one before it
    ∷ refused_in 1 (0x03 ∷ 0x00 ∷ 0x07 ∷ 0x00 ∷ 0x07 ∷ 0x40 ∷ 0x09 ∷ 0x07 ∷ []) 8 3
    ∷ refused_in 2 (0x03 ∷ 0x00 ∷ 0x07 ∷ 0x40 ∷ 0x09 ∷ 0x07 ∷ 0x01 ∷ 0x09 ∷ []) 8 6
    -- 65,535 "after the last item"
    ∷ refused (0x03 ∷ 0x00 ∷ 0x07 ∷ 0x01 ∷ 0x09 ∷ 0x40 ∷ 0x09 ∷ 0x07 ∷ 0x00 ∷ []) 7 8
    ∷ []

pub bundle_items : map (λ c. read_bundle worked c.bytes) cases ≡ map (λ c. c.expected) cases
unfolding number_at form_of second third tested_at at_most items_from end_at predicate_declared fact_at next_fact facts_in check_bundle read_bundle
bundle_items = refl
