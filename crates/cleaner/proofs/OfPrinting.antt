-- Printing stays within the rows: marking gives counts only where both rows have room for every fact, so each line's fact has its mark and partner.
use Prim.Native.Nat.{ℕ, ◌+◌, ◌≤◌, ◌<◌}
use mathlib.Core.Path.{◌≡◌, refl}
use mathlib.Core.Bool.{Bool, true, false, cond, ◌&&◌}
use mathlib.Core.List.{List}
use lib.ListN.{length}
use lib.Seq.{length-sets}
use lib.Dec.{leb}
use native.Mathlib.Omega.{arith}
use borrow.Author.Tests.{leb-true}
use borrow.Author.Rules.{rules}
use Rattle.number.specs.Answer.{Answer, refusal, ◌then◌, over, laid}
use Rattle.std.specs.Prelude.{Ok, Err}
use Rattle.number.specs.declared.refusal.Refusal.{Refusal}
use Rattle.number.specs.declared.refusal.Fault.TheVariants.{Room}
use Rattle.number.specs.declared.refusal.Side.TheVariants.{Call}
use Rattle.site.specs.declared.fact.Fact.{Fact}
use Rattle.rule.specs.declared.head.Head.{Head}
use Rattle.rules.specs.RuleFile.{check_rules, site_of}
use Rattle.bundle.specs.Bundle.{read_bundle}
use Rattle.steps.specs.Tables.{Follows, follows_of}
use Rattle.clashes.specs.Types.{itself}
use Rattle.clashes.specs.Marks.{marks, partners, counts}
use Rattle.clean.specs.Operations.{Marked, given, room_for_marks, marking}
use Rattle.clashes.specs.declared.answers.Counts.{Counts}
use Rattle.operations.specs.Promises.{MarksAll}
use Rattle.listing.specs.Listing.{lines_of}
use Rattle.cleaner.specs.Prints.{Prints}

-- what holds of every refusal and of all that may follow holds of the answer
then_all : {A B : Type 0} (P : Answer B → Type 0) (a : Answer A) (k : A → Answer B) → ((r : Refusal) → P (Err r)) → ((x : A) → P (k x)) → P (a then k)
then_all P (Ok x) k stops goes = goes x
then_all P (Err r) k stops goes = stops r

both_tests : {A : Type 0} (P : A → Type 0) (t u : Bool) (x y : A) → (t ≡ true → u ≡ true → P x) → P y → P (cond (t && u) x y)
both_tests P true true x y hold fail = hold refl refl
both_tests P true false x y hold fail = fail
both_tests P false u x y hold fail = fail

-- marks of facts, whatever the room
abbrev pub marks_of : Follows → List Fact → Marked
marks_of t facts = record { counts = counts itself t facts; marks = marks itself t facts; partners = partners itself t facts }

-- what holds of every refusal, and of the marks of all facts that both rows have room for, holds of what marking gives
module _ (rules bundle : List ℕ) (m p : ℕ) (P : Answer Marked → Type 0) (stops : (r : Refusal) → P (Err r)) (fits : (t : Follows) (facts : List Fact) → length facts ≤ m → length facts ≤ p → P (Ok (marks_of t facts))) where
  room_all : (facts : List Fact) (k : List Fact → Answer Marked) → (length facts ≤ m → length facts ≤ p → P (k facts)) → P (room_for_marks m p facts then k)
  unfolding room_for_marks
  room_all facts k fit =
      both_tests (λ a. P (a then k)) (leb (length facts) m) (leb (length facts) p) (Ok facts) (Err (refusal Room Call 0))
      (λ t u. fit (leb-true (length facts) m t) (leb-true (length facts) p u))
      (stops (refusal Room Call 0))

  abbrev marked_by : Follows → List Fact → Answer Marked
  marked_by t facts = room_for_marks m p facts then λ _. Ok (marks_of t facts)

  bundle_all : (h : Head) → P (read_bundle h bundle then marked_by (follows_of (site_of rules h)))
  bundle_all h =
      then_all P (read_bundle h bundle) (marked_by (follows_of (site_of rules h))) stops
      (λ facts. room_all facts (λ _. Ok (marks_of (follows_of (site_of rules h)) facts)) (fits (follows_of (site_of rules h)) facts))

  pub marking_all : P (marking rules bundle m p)
  unfolding marking given
  marking_all = then_all P (check_rules rules) (λ h. read_bundle h bundle then marked_by (follows_of (site_of rules h))) stops bundle_all

-- the lines are no more than the rows have room for, and one for the counts
module _ (rules bundle : List ℕ) (m p : ℕ) where
  abbrev Fits : Answer Marked → Type 0
  Fits a = (lines_of (over (λ x. x.counts) a) ≤ m + 1) × (lines_of (over (λ x. x.counts) a) ≤ p + 1)

  facts_fit : (t : Follows) (facts : List Fact) → length facts ≤ m → length facts ≤ p → Fits (Ok (marks_of t facts))
  unfolding counts
  facts_fit t facts a b = (omega arith, omega arith)

  lines_fit : Fits (marking rules bundle m p)
  lines_fit = marking_all rules bundle m p Fits (λ r. (omega arith, omega arith)) facts_fit

same_length : (row : List ℕ) (a : Answer (List ℕ)) → length (laid row 0 a) ≡ length row
same_length row (Ok l) = length-sets row 0 l
same_length row (Err r) = refl

pub prints : (rules bundle row pair : List ℕ) (r : Answer Counts) (row' pair' : List ℕ) → MarksAll rules bundle row pair r row' pair' → Prints r row' pair' 0
prints rules bundle row pair r row' pair' all =
    let fit = lines_fit rules bundle (length row) (length pair) in
    record {
      marked = rw (all.answer, all.marks, same_length) fit.0;
      partnered = rw (all.answer, all.partners, same_length) fit.1;
      within = some_line r;
    }
  where
    some_line : (a : Answer _) → 0 < lines_of a
    some_line (Ok c) = omega arith
    some_line (Err r) = omega arith
