-- What each operation answers, and what it leaves in lent memory: "Order: rules, then bundle, then arguments, then room."
use Rattle.std.specs.Prelude.{ℕ, cond, ◌&&◌, List, Option, length, get_or, leb, ltb}
use Rattle.number.specs.Answer.{Answer, refusal, ◌then◌}
use Rattle.number.specs.declared.refusal.Fault.TheVariants.{Over, Unknown, Room, NoFact}
use Rattle.number.specs.declared.refusal.Side.TheVariants.{Call}
use Rattle.std.specs.Prelude.{Ok, Err}
use Rattle.site.specs.declared.fact.Fact.{Fact}
use Rattle.site.specs.Kinds.Node.{concept, role}
use Rattle.site.specs.Codes.{concept_of, role_of, concept_declared, role_declared}
use Rattle.site.specs.Limits.{most_thing}
use Rattle.rule.specs.declared.head.Head.{Head}
use Rattle.rules.specs.RuleFile.{check_rules, site_of}
use Rattle.bundle.specs.Bundle.{read_bundle, bundle_of}
use Rattle.writer.specs.Records.{room_for}
use Rattle.steps.specs.Tables.{Follows, follows_of}
use Rattle.clashes.specs.Types.{Typ, typ, itself}
use Rattle.clashes.specs.Marks.{marks, partners, counts, kept, support}
use Rattle.clashes.specs.declared.answers.Counts.{Counts}
use Rattle.clashes.specs.Judging.{judged}
use Rattle.clashes.specs.declared.answers.Judged.{Judged}
use Rattle.clean.specs.Cleaning.{below}

-- what the rules and the bundle give, or their refusal
unfoldable pub given : {A : Type 0} → List ℕ → List ℕ → (Head → Follows → List Fact → Answer A) → Answer A
given rules bundle k =
    check_rules rules then λ h.
    read_bundle h bundle then λ facts.
    k h (follows_of (site_of rules h)) facts

-- refusal 9 for the marks and partners: either row is shorter than the count
unfoldable pub room_for_marks : ℕ → ℕ → List Fact → Answer (List Fact)
room_for_marks marks_room partners_room facts =
    cond (leb (length facts) marks_room && leb (length facts) partners_room) (Ok facts) (Err (refusal Room Call 0))

-- marking: the counts, the marks and the partners
pub record Marked : Type 0 where
  pub counts : Counts
  pub marks : List ℕ
  pub partners : List ℕ

-- "Marks, one byte a fact", "Partners, one 16-bit number a fact": refusals of rules and bundle, then 9
unfoldable pub marking : List ℕ → List ℕ → ℕ → ℕ → Answer Marked
marking rules bundle marks_room partners_room =
    given rules bundle λ h t facts.
    room_for_marks marks_room partners_room facts then λ _.
    Ok (record { counts = counts itself t facts; marks = marks itself t facts; partners = partners itself t facts })

-- counting alone
unfoldable pub counting : List ℕ → List ℕ → Answer Counts
counting rules bundle = given rules bundle λ h t facts. Ok (counts itself t facts)

-- refusal 10: "fact number not below the count"
unfoldable pub asking : List ℕ → List ℕ → ℕ → Answer Judged
asking rules bundle n =
    given rules bundle λ h t facts.
    cond (ltb n (length facts))
    (Ok (judged itself t facts (get_or facts n (record { predicate = 0; subject = 0; object = 0 }))))
    (Err (refusal NoFact Call 0))

-- "yes with the lowest-numbered kept fact (..); else no"
unfoldable pub reply_of : Follows → List Fact → Typ → Option ℕ
reply_of t facts asked = below (length facts) (support itself t facts asked)

-- "Question: code (5), then things (3), left to right."
abbrev pub thing_known : ℕ → Answer ℕ
thing_known a = cond (leb a most_thing) (Ok a) (Err (refusal Over Call 0))

-- "B of a"
unfoldable pub having : List ℕ → List ℕ → ℕ → ℕ → Answer (Option ℕ)
having rules bundle code thing =
    given rules bundle λ h t facts.
    cond (concept_declared h.concepts h.roles code) (Ok code) (Err (refusal Unknown Call 0)) then λ _.
    thing_known thing then λ a.
    Ok (reply_of t facts (typ (concept (concept_of code)) a a))

-- "q from a to b"
unfoldable pub joining : List ℕ → List ℕ → ℕ → ℕ → ℕ → Answer (Option ℕ)
joining rules bundle code from to =
    given rules bundle λ h t facts.
    cond (role_declared h.roles code) (Ok code) (Err (refusal Unknown Call 0)) then λ _.
    thing_known from then λ a.
    thing_known to then λ b.
    Ok (reply_of t facts (typ (role (role_of code)) a b))

-- "Writing the kept facts gives their bundle and its length"
unfoldable pub keeping : List ℕ → List ℕ → ℕ → Answer (List ℕ)
keeping rules bundle room = given rules bundle λ h t facts. room_for room (bundle_of (kept itself t facts))
