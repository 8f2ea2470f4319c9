-- What an accepted bundle's facts are: of declared predicates, about things within the limit, a concept's without object, and ascending.
use Rattle.std.specs.Prelude.{◌≤◌, ◌≡◌, true, List, [], ◌∷◌, length}
use Rattle.site.specs.declared.fact.Fact.{Fact}
use Rattle.site.specs.Kinds.{of_concept}
use Rattle.site.specs.Limits.{most_facts, most_thing}
use Rattle.rule.specs.declared.head.Head.{Head}
use Rattle.bundle.specs.Bundle.{ascends, predicate_known}
use Rattle.std.specs.Prelude.{Option}
use Rattle.std.specs.Prelude.{None, Some}

-- a fact that a bundle may hold
pub record LawfulFact (h : Head) (f : Fact) : Type 0 where
  pub known : predicate_known h f.predicate ≡ true
  pub subject_within : f.subject ≤ most_thing
  pub object_within : f.object ≤ most_thing
  pub no_object : of_concept f ≡ true → f.object ≡ 0

-- facts that a bundle may hold, after one that came before
pub data LawfulFrom (h : Head) : Option Fact → List Fact → Type 0 where
  done : {last : Option Fact} → LawfulFrom h last []
  next : {last : Option Fact} {f : Fact} {fs : List Fact} → LawfulFact h f → ascends last f ≡ true → LawfulFrom h (Some f) fs → LawfulFrom h last (f ∷ fs)

-- "number of facts (0 to 4,096)", each lawful and above the one before it
pub record LawfulFacts (h : Head) (facts : List Fact) : Type 0 where
  pub few : length facts ≤ most_facts
  pub lawful : LawfulFrom h None facts
