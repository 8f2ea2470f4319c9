-- A line is its runs of bytes one after the other, from the start: one law for each line.
use Prim.Native.Nat.{ℕ, ◌+◌, ◌≤◌}
use mathlib.Core.Path.{◌≡◌, sym, ◌∙◌}
use mathlib.Core.List.{List}
use lib.ListN.{length, drop}
use lib.Seq.{sets-eq, take-append_seam}
use native.Mathlib.Nat.{zero-add}
use native.Mathlib.Omega.{arith}
use Rattle.number.specs.declared.refusal.Refusal.{Refusal}
use Rattle.number.specs.Answer.{number_of}
use Rattle.clashes.specs.declared.answers.Counts.{Counts}
use Rattle.clashes.specs.declared.answers.Judged.{Judged}
use Rattle.listing.specs.Decimal.{decimal_of}
use Rattle.listing.specs.Put.{Laid, LaidNumber, LaidNamed, named}
use Rattle.listing.specs.Lines.{facts_word, kept_count, alone_count, disputed_word, refused_word, newline, counts_line, mark_of, fact_line, place_of, refusal_line, LaidMark, LaidPlace, Line}
use Rattle.listing.proofs.OfPutting.{laid_both}

-- a run from the start that fits is a line
line : (out bytes : List ℕ) (r : ℕ) (out' : List ℕ) → Laid out 0 bytes r out' → r ≤ length out → Line out bytes r out'
line out bytes r out' l h =
    let all : r ≡ length bytes = l.place ∙ zero-add (length bytes) in
    record {
      count = all;
      memory = l.memory;
      fits = omega (arith, l.size);
      whole = rw (all, l.memory, sets-eq bytes out 0 (omega (arith, l.place))) (take-append_seam bytes (drop (0 + length bytes) out));
    }

-- the counts
module _ (counts : Counts) {o₀ o₁ o₂ o₃ o₄ o₅ : List ℕ} {a b c d r : ℕ} where
  pub counts_done : LaidNamed o₀ 0 facts_word counts.facts a o₁
      → LaidNamed o₁ a kept_count counts.kept b o₂
      → LaidNamed o₂ b alone_count counts.alone c o₃
      → LaidNamed o₃ c disputed_word counts.disputed d o₄
      → Laid o₄ d newline r o₅
      → r ≤ length o₀
      → Line o₀ (counts_line counts) r o₅
  unfolding counts_line
  counts_done f k l m n h =
      line o₀ _ r o₅
      (laid_both o₀ 0 _ d o₄ newline r o₅
      (laid_both o₀ 0 _ c o₃ (named disputed_word counts.disputed) d o₄
      (laid_both o₀ 0 _ b o₂ (named alone_count counts.alone) c o₃
      (laid_both o₀ 0 (named facts_word counts.facts) a o₁ (named kept_count counts.kept) b o₂ f.laid k.laid)
      l.laid)
      m.laid)
      n)
      h

-- a fact
module _ {number : ℕ} {judged : Judged} {o₀ o₁ o₂ o₃ : List ℕ} {a b r : ℕ} where
  pub fact_done : LaidNumber o₀ 0 number a o₁ → LaidMark o₁ a judged b o₂ → Laid o₂ b newline r o₃ → r ≤ length o₀ → Line o₀ (fact_line number judged) r o₃
  unfolding fact_line
  fact_done f m n h =
      line o₀ _ r o₃
      (laid_both o₀ 0 _ b o₂ newline r o₃ (laid_both o₀ 0 (decimal_of number) a o₁ (mark_of judged) b o₂ f.laid m.laid) n)
      h

-- a refusal
module _ (refusal : Refusal) {n : ℕ} {o₀ o₁ o₂ o₃ : List ℕ} {a b r : ℕ} where
  pub refusal_done : n ≡ number_of refusal.fault
      → LaidNamed o₀ 0 refused_word n a o₁
      → LaidPlace o₁ a refusal.side refusal.place b o₂
      → Laid o₂ b newline r o₃
      → r ≤ length o₀
      → Line o₀ (refusal_line refusal) r o₃
  unfolding refusal_line
  refusal_done e f p n h =
      line o₀ _ r o₃
      (laid_both o₀ 0 _ b o₂ newline r o₃
      (laid_both o₀ 0 (named refused_word (number_of refusal.fault)) a o₁ (place_of refusal.side refusal.place) b o₂ (rw (sym e) f.laid) p.laid)
      n)
      h
