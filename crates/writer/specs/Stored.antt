-- What storing a fact, and writing some facts as a bundle, promises.
use Rattle.std.specs.Prelude.{ℕ, ◌+◌, ◌≤◌, ◌≡◌, List, length}
use Rattle.std.proofs.lemmas.List.Edits.{sets}
use Rattle.std.specs.List.{All}
use Rattle.number.specs.Answer.{Answer, over, laid}
use Rattle.number.specs.Number.{three_bytes}
use Rattle.site.specs.declared.fact.Fact.{Fact}
use Rattle.site.specs.Limits.{most_facts}
use Rattle.rule.specs.declared.head.Head.{Head}
use Rattle.bundle.specs.Bundle.{fact_bytes, bundle_of}
use Rattle.writer.specs.Records.{plan_records}

-- a fact whose numbers have forms
pub record Formed (f : Fact) : Type 0 where
  pub predicate : f.predicate ≤ three_bytes
  pub subject : f.subject ≤ three_bytes
  pub object : f.object ≤ three_bytes

-- storing a fact's bytes: its numbers have forms, and they fit
pub record StoresFact (out : List ℕ) (at : ℕ) (f : Fact) : Type 0 where
  pub formed : Formed f
  pub room : at + length (fact_bytes f) ≤ length out

-- the place after them, and the lent memory afterwards
pub record StoredFact (out : List ℕ) (at : ℕ) (f : Fact) (r : ℕ) (out' : List ℕ) : Type 0 where
  pub place : r ≡ at + length (fact_bytes f)
  pub memory : out' ≡ sets out at (fact_bytes f)

-- storing a bundle's bytes: so many facts have a count, their numbers have forms, and they fit
pub record StoresFacts (out : List ℕ) (facts : List Fact) : Type 0 where
  pub few : length facts ≤ most_facts
  pub formed : All Formed facts
  pub room : length (bundle_of facts) ≤ length out

-- how many they are, and the lent memory afterwards
pub record StoredFacts (out : List ℕ) (facts : List Fact) (r : ℕ) (out' : List ℕ) : Type 0 where
  pub size : r ≡ length (bundle_of facts)
  pub memory : out' ≡ sets out 0 (bundle_of facts)

-- writing records as a bundle: the answer, and the lent memory afterwards
pub record WritesFacts (h : Head) (records : List Fact) (out : List ℕ) (r : Answer ℕ) (out' : List ℕ) : Type 0 where
  pub answer : r ≡ over length (plan_records h (length out) records)
  pub memory : out' ≡ laid out 0 (plan_records h (length out) records)
