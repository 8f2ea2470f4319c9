-- The bundle: its facts, or its refusal, as a function of its bytes under accepted rules; and the bytes of a list of facts.
use Rattle.std.specs.Prelude.{ℕ, zero, suc, Bool, true, cond, List, [], ◌∷◌, ◌++◌, length, ltb}
use Rattle.number.specs.Answer.{Answer, refusal, ◌then◌, over}
use Rattle.std.specs.Prelude.{Option, Some, None, Ok, Err}
use Rattle.number.specs.Number.{number_at, bytes_of}
use Rattle.number.specs.declared.read.Read.{Read}
use Rattle.number.specs.declared.refusal.Fault.TheVariants.{Order}
use Rattle.number.specs.declared.refusal.Side.TheVariants.{Bundle}
use Rattle.site.specs.declared.fact.Fact.{Fact}
use Rattle.site.specs.Kinds.{below, of_concept}
use Rattle.site.specs.Codes.{predicate_declared}
use Rattle.site.specs.Limits.{most_facts, most_thing}
use Rattle.site.specs.Lists.{each}
use Rattle.site.specs.Items.{count_at, code_at, items_from, end_at, onward}
use Rattle.rule.specs.declared.head.Head.{Head}
use Rattle.bundle.specs.declared.facts.Facts.{Facts}
use Rattle.bundle.specs.declared.walk.Stand.{Stand}

-- "predicate, subject, and for a role the object": one fact at a place, its predicate tested
unfoldable pub fact_at : (ℕ → Bool) → List ℕ → ℕ → Answer (Read Fact)
fact_at known s at =
    code_at s at known Bundle then λ p.
    number_at s p.next most_thing Bundle then λ a.
    cond (ltb p.value 64)
    (Ok (record { value = record { predicate = p.value; subject = a.value; object = 0 }; next = a.next }))
    (number_at s a.next most_thing Bundle then λ b.
    Ok (record { value = record { predicate = p.value; subject = a.value; object = b.value }; next = b.next }))

-- refusal 8: "a fact not above the one before it, equal included"
abbrev pub ascends : Option Fact → Fact → Bool
ascends None f = true
ascends (Some g) f = below g f

-- the next fact, declared and above the one before it: where the reading stands after it. "Refusal 8 is judged when its fact is complete."
unfoldable pub next_fact : (ℕ → Bool) → List ℕ → Stand → Answer Stand
next_fact known s here =
    fact_at known s here.at then λ f.
    cond (ascends here.last f.value) (Ok (record { last = Some f.value; at = f.next })) (Err (refusal Order Bundle here.at))

-- so many facts from a place on, numbered from 0: the place after them
abbrev pub facts_from : (ℕ → Bool) → List ℕ → ℕ → ℕ → Answer ℕ
facts_from known s n at = over (λ end. end.at) (items_from (next_fact known s) 0 n (record { last = None; at = at }))

-- so many facts from a place on, as far as they can be read
unfoldable pub facts_in : List ℕ → ℕ → ℕ → List Fact
facts_in s zero at = []
facts_in s (suc n) at = onward (fact_at (λ _. true) s at) (λ f. f.value ∷ facts_in s n f.next)

-- "A code above its kind's range is undeclared", for a fact's predicate
abbrev pub predicate_known : Head → ℕ → Bool
predicate_known h = predicate_declared h.concepts h.roles

-- the whole reading: "number of facts (0 to 4,096), then the facts"; after the last fact 7
unfoldable pub check_bundle : Head → List ℕ → Answer Facts
check_bundle h s =
    count_at s 0 most_facts Bundle then λ n.
    facts_from (predicate_known h) s n.value n.next then λ end.
    end_at s end Bundle then λ _.
    Ok (record { count = n.value; start = n.next })

-- the facts that an accepted bundle's head and bytes say
abbrev pub facts_of : List ℕ → Facts → List Fact
facts_of s b = facts_in s b.count b.start

-- the whole reading, with the facts
unfoldable pub read_bundle : Head → List ℕ → Answer (List Fact)
read_bundle h s = over (facts_of s) (check_bundle h s)

-- the bytes of a fact, and of a bundle
unfoldable pub fact_bytes : Fact → List ℕ
fact_bytes f = bytes_of f.predicate ++ (bytes_of f.subject ++ cond (of_concept f) [] (bytes_of f.object))

-- "Bundle: number of facts (..), then the facts"
unfoldable pub bundle_of : List Fact → List ℕ
bundle_of facts = bytes_of (length facts) ++ each fact_bytes facts
