-- The fact reader: where it starts, and what one step yields from any place whatever.
use Rattle.std.specs.Prelude.{ℕ, zero, suc, true, cond, List, [], ◌∷◌, length, ltb, Option, Some, None, Ok, Err}
use Rattle.number.specs.Answer.{Answer, over}
use Rattle.number.specs.declared.read.Read.{Read}
use Rattle.site.specs.declared.fact.Fact.{Fact}
use Rattle.bundle.specs.Bundle.{fact_at}
use Rattle.bundle.specs.Opened.{opening}
use Rattle.records.specs.declared.step.Step.{Step}

-- "It starts on an accepted bundle": the first next byte is the one after the count
unfoldable pub reader_start : List ℕ → List ℕ → Answer ℕ
reader_start rules bundle = over (λ i. i.facts.start) (opening rules bundle)

-- at "the fact whose numbers stand at its next byte" the reader goes on; at "their refusal 1, 2 or 3 on side 1" it "stays where it is"
abbrev pub goes_on : ℕ → Answer (Read Fact) → Step
goes_on at (Ok r) = record { yields = Ok (Some r.value); next = r.next }
goes_on at (Err r) = record { yields = Err r; next = at }

-- "At or past the end it is done, and stays done"; "there a predicate from 64 on has an object"
unfoldable pub reader_step : List ℕ → ℕ → Step
reader_step bundle at = cond (ltb at (length bundle)) (goes_on at (fact_at (λ _. true) bundle at)) (record { yields = Ok None; next = at })

-- what a reader yields in so many steps from a place on: it "yields one fact at a time"
unfoldable pub yields_from : List ℕ → ℕ → ℕ → List (Answer (Option Fact))
yields_from bundle zero at = []
yields_from bundle (suc n) at = (reader_step bundle at).yields ∷ yields_from bundle n (reader_step bundle at).next
