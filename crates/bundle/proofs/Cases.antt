-- Document 01's bundles, as one statement over one list: each is some bytes, read under the worked site's rules, with what is expected.
use Prim.Native.Nat.{ℕ}
use mathlib.Core.Path.{◌≡◌, refl}
use mathlib.Core.List.{List, [], ◌∷◌, map}
use Rattle.number.specs.Answer.{Answer, refusal, of_item, fault_of}
use Rattle.std.specs.Prelude.{Ok, Err}
use Rattle.number.specs.Number.{third, second, form_of, number_at}
use Rattle.number.specs.declared.refusal.Side.TheVariants.{Bundle}
use Rattle.site.specs.declared.fact.Fact.{Fact}
use Rattle.site.specs.Codes.{predicate_declared}
use Rattle.site.specs.Items.{tested_at, at_most, items_from, end_at}
use Rattle.rule.specs.declared.head.Head.{Head}
use Rattle.bundle.specs.Bundle.{fact_at, next_fact, facts_in, check_bundle, read_bundle}

pub record Case : Type 0 where
  pub bytes : List ℕ
  pub expected : Answer (List Fact)

abbrev pub is : List ℕ → List Fact → Case
is bytes facts = record { bytes = bytes; expected = Ok facts }

-- refused in the header or after the last fact
abbrev pub refused : List ℕ → ℕ → ℕ → Case
refused bytes number place = record { bytes = bytes; expected = Err (refusal (fault_of number) Bundle place) }

-- refused in a fact
abbrev pub refused_in : ℕ → List ℕ → ℕ → ℕ → Case
refused_in item bytes number place = record { bytes = bytes; expected = Err (of_item item (refusal (fault_of number) Bundle place)) }

abbrev pub fact : ℕ → ℕ → ℕ → Fact
fact predicate subject object = record { predicate = predicate; subject = subject; object = object }

-- the head of rule file R: Switch, Camera, uplink, and five rules from byte 3 on
abbrev pub worked : Head
worked = record { concepts = 2; roles = 1; rules = 5; start = 3 }

abbrev pub cases : List Case
cases =
    is (0x06 ∷ 0x00 ∷ 0x07 ∷ 0x01 ∷ 0x07 ∷ 0x01 ∷ 0x09 ∷ 0x40 ∷ 0x09 ∷ 0x07 ∷ 0x40 ∷ 0x09 ∷ 0xAC ∷ 0x02 ∷ 0x40 ∷ 0x0C ∷ 0x0C ∷ [])
    (fact 0 7 0 ∷ fact 1 7 0 ∷ fact 1 9 0 ∷ fact 64 9 7 ∷ fact 64 9 300 ∷ fact 64 12 12 ∷ [])
    ∷ is (0x01 ∷ 0x01 ∷ 0x09 ∷ []) (fact 1 9 0 ∷ [])
    ∷ is (0x00 ∷ []) []
    ∷ refused [] 1 0
    ∷ refused_in 0 (0x80 ∷ 0x20 ∷ []) 1 2
    ∷ refused (0x81 ∷ 0x20 ∷ []) 4 0
    ∷ refused_in 1 (0x02 ∷ 0x00 ∷ 0x07 ∷ 0x00 ∷ 0x07 ∷ []) 8 3
    ∷ refused_in 0 (0x01 ∷ 0x02 ∷ 0x07 ∷ []) 5 1
    ∷ refused_in 0 (0x01 ∷ 0x40 ∷ 0x07 ∷ []) 1 3
    ∷ refused (0x00 ∷ 0x00 ∷ []) 7 1
    ∷ []

pub bundles : map (λ c. read_bundle worked c.bytes) cases ≡ map (λ c. c.expected) cases
unfolding number_at form_of second third tested_at at_most items_from end_at predicate_declared fact_at next_fact facts_in check_bundle read_bundle
bundles = refl
