-- The whole listing: its lines one after the other, from the rows that marking leaves, are the bytes that its definition gives.
use Rattle.std.proofs.Common.{ℕ, zero, suc, ◌+◌, ◌-◌, ◌≤◌, ◌<◌, ◌≡◌, refl, sym, ap, ◌∙◌, List, ◌++◌, append_assoc, append-nil, length, get_or, drop, arith}
use Rattle.std.proofs.lemmas.List.Edits.{sets}
use native.Mathlib.Nat.{add-zero}
use lib.ListN.{length-map, get_or-append}
use lib.Seq.{sets-eq}
use Rattle.site.specs.Limits.{most_facts}
use Rattle.site.specs.declared.fact.Fact.{Fact}
use Rattle.steps.specs.Tables.{Follows}
use Rattle.clashes.specs.Types.{itself}
use Rattle.clashes.specs.Marks.{mark, partner, marks, partners, counts}
use Rattle.clashes.specs.declared.answers.Counts.{Counts}
use Rattle.number.specs.Answer.{Answer, over, laid}
use Rattle.std.specs.Prelude.{Ok, Err}
use Rattle.clean.specs.Operations.{Marked, marking}
use Rattle.operations.specs.Promises.{MarksAll}
use Rattle.listing.specs.Listing.{lines_of, line_at, lines_from, row_of, listing_of}
use Rattle.cleaner.proofs.OfPrinting.{marks_of, marking_all}

-- one line more
pub lines_on : (a : Answer Counts) (marks partners : List ℕ) (k n : ℕ) → lines_from a marks partners k (n + 1) ≡ lines_from a marks partners k n ++ line_at a marks partners (k + n)
unfolding lines_from
lines_on a marks partners k zero = append-nil (line_at a marks partners k) ∙ ap (λ (i : ℕ). line_at a marks partners i) (sym (add-zero k))
lines_on a marks partners k (suc n) =
    let shift : suc k + n ≡ k + suc n = omega arith in
    let more : suc n + 1 ≡ suc (n + 1) = omega arith in
    ap (lines_from a marks partners k) more
    ∙ ap (λ (l : List ℕ). line_at a marks partners k ++ l) (lines_on a marks partners (suc k) n)
    ∙ sym (append_assoc (line_at a marks partners k) (lines_from a marks partners (suc k) n) (line_at a marks partners (suc k + n)))
    ∙ ap (λ (i : ℕ). (line_at a marks partners k ++ lines_from a marks partners (suc k) n) ++ line_at a marks partners i) shift

-- rows that agree on every fact give the same lines
module _ (c : Counts) (m p m' p' : List ℕ) (n : ℕ) (marked : (j : ℕ) → j < n → get_or m j 0 ≡ get_or m' j 0) (partnered : (j : ℕ) → j < n → get_or p j 0 ≡ get_or p' j 0) where
  line_same : (k : ℕ) → k ≤ n → line_at (Ok c) m p k ≡ line_at (Ok c) m' p' k
  unfolding line_at
  line_same zero h = refl
  line_same (suc j) h = let below : suc j - 1 ≡ j = omega arith in rw (below, marked j (omega arith), partnered j (omega arith))

  lines_same : (k left : ℕ) → k + left ≤ n + 1 → lines_from (Ok c) m p k left ≡ lines_from (Ok c) m' p' k left
  unfolding lines_from
  lines_same k zero h = refl
  lines_same k (suc left) h =
      ap (λ (l : List ℕ). l ++ lines_from (Ok c) m p (suc k) left) (line_same k (omega arith))
      ∙ ap (λ (l : List ℕ). line_at (Ok c) m' p' k ++ l) (lines_same (suc k) left (omega arith))

-- a mark and a partner a fact, and no more facts than the rows have room for
abbrev Rows : ℕ → ℕ → Answer Marked → Type 0
Rows m p (Ok x) = (length x.marks ≡ x.counts.facts) × (length x.partners ≡ x.counts.facts) × (x.counts.facts ≤ m) × (x.counts.facts ≤ p)
Rows m p (Err r) = Unit {0}

facts_rows : (m p : ℕ) (t : Follows) (facts : List Fact) → length facts ≤ m → length facts ≤ p → Rows m p (Ok (marks_of t facts))
unfolding counts marks partners
facts_rows m p t facts a b = (length-map facts (mark itself t facts), length-map facts (partner itself t facts), a, b)

rows : (rules bundle : List ℕ) (m p : ℕ) → Rows m p (marking rules bundle m p)
rows rules bundle m p = marking_all rules bundle m p (Rows m p) (λ r. tt) (facts_rows m p)

-- what is laid into a row stands in it
laid_row : (row xs : List ℕ) (j : ℕ) → length xs ≤ length row → j < length xs → get_or (sets row 0 xs) j 0 ≡ get_or xs j 0
laid_row row xs j fits h = rw (sets-eq xs row 0 (omega arith)) (get_or-append xs (drop (0 + length xs) row) 0 j h)

-- the listing of the rows is that of what marking gives
by_answer : (row pair : List ℕ) (a : Answer Marked) → Rows (length row) (length pair) a
    → lines_from (over (λ x. x.counts) a) (laid row 0 (over (λ x. x.marks) a)) (laid pair 0 (over (λ x. x.partners) a)) 0 (lines_of (over (λ x. x.counts) a))
    ≡ lines_from (over (λ x. x.counts) a) (row_of (over (λ x. x.marks) a)) (row_of (over (λ x. x.partners) a)) 0 (lines_of (over (λ x. x.counts) a))
unfolding lines_from line_at
by_answer row pair (Ok x) is =
    lines_same x.counts (sets row 0 x.marks) (sets pair 0 x.partners) x.marks x.partners x.counts.facts
    (λ j h. laid_row row x.marks j (omega arith) (omega arith))
    (λ j h. laid_row pair x.partners j (omega arith) (omega arith))
    0 (x.counts.facts + 1) (omega arith)
by_answer row pair (Err r) is = refl

pub whole_listing : (rules bundle row pair : List ℕ) (r : Answer Counts) (row' pair' : List ℕ) → length row ≡ most_facts → length pair ≡ most_facts → MarksAll rules bundle row pair r row' pair'
    → lines_from r row' pair' 0 (lines_of r) ≡ listing_of rules bundle
unfolding listing_of
whole_listing rules bundle row pair r row' pair' m p all =
    rw (all.answer, all.marks, all.partners, m, p) (rw (m, p) at (by_answer row pair (marking rules bundle (length row) (length pair)) (rows rules bundle (length row) (length pair))))
