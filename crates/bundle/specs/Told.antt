-- Parts of the reading of a bundle that its functions promise.
use Rattle.std.specs.Prelude.{ℕ, cond, List, ltb, Ok}
use Rattle.number.specs.Answer.{Answer, ◌then◌}
use Rattle.number.specs.Number.{number_at}
use Rattle.number.specs.declared.read.Read.{Read}
use Rattle.number.specs.declared.refusal.Side.TheVariants.{Bundle}
use Rattle.site.specs.declared.fact.Fact.{Fact}
use Rattle.site.specs.Limits.{most_thing}
use Rattle.bundle.specs.Bundle.{facts_in}
use Rattle.bundle.specs.declared.facts.FactsOf.{FactsOf}

-- the facts that are left of a walk
abbrev pub facts_left : FactsOf → List Fact
facts_left w = facts_in w.bytes.now w.left w.at

-- "subject, and for a role the object": what follows a fact's predicate
unfoldable pub fact_rest : List ℕ → ℕ → ℕ → Answer (Read Fact)
fact_rest s predicate at =
    number_at s at most_thing Bundle then λ a.
    cond (ltb predicate 64)
    (Ok (record { value = record { predicate = predicate; subject = a.value; object = 0 }; next = a.next }))
    (number_at s a.next most_thing Bundle then λ b.
    Ok (record { value = record { predicate = predicate; subject = a.value; object = b.value }; next = b.next }))
