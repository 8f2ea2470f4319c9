-- The lines of the listing as bytes: "The words of the listing are fixed byte strings; (..) each line ends with one newline."
use Rattle.std.specs.Prelude.{ℕ, ◌+◌, ◌≤◌, ◌≡◌, List, [], ◌∷◌, ◌++◌, length, take}
use Rattle.std.proofs.lemmas.List.Edits.{sets}
use Rattle.number.specs.declared.refusal.Refusal.{Refusal}
use Rattle.number.specs.Answer.{number_of}
use Rattle.number.specs.declared.refusal.Side.{Side}
use Rattle.number.specs.declared.refusal.Side.TheVariants.{Rules, Bundle, Call}
use Rattle.clashes.specs.declared.answers.Counts.{Counts}
use Rattle.clashes.specs.declared.answers.Judged.{Judged}
use Rattle.clashes.specs.declared.answers.Judged.TheVariants.{Kept, Alone, Disputed}
use Rattle.listing.specs.Decimal.{decimal_of}
use Rattle.listing.specs.Put.{Laid, named}

-- "The words of the listing are fixed byte strings": `facts `
abbrev pub facts_word : List ℕ
facts_word = 102 ∷ 97 ∷ 99 ∷ 116 ∷ 115 ∷ 32 ∷ []

-- ` kept `
abbrev pub kept_count : List ℕ
kept_count = 32 ∷ 107 ∷ 101 ∷ 112 ∷ 116 ∷ 32 ∷ []

-- ` alone `
abbrev pub alone_count : List ℕ
alone_count = 32 ∷ 97 ∷ 108 ∷ 111 ∷ 110 ∷ 101 ∷ 32 ∷ []

-- ` disputed `
abbrev pub disputed_word : List ℕ
disputed_word = 32 ∷ 100 ∷ 105 ∷ 115 ∷ 112 ∷ 117 ∷ 116 ∷ 101 ∷ 100 ∷ 32 ∷ []

-- ` kept`
abbrev pub kept_word : List ℕ
kept_word = 32 ∷ 107 ∷ 101 ∷ 112 ∷ 116 ∷ []

-- ` alone`
abbrev pub alone_word : List ℕ
alone_word = 32 ∷ 97 ∷ 108 ∷ 111 ∷ 110 ∷ 101 ∷ []

-- `refused `
abbrev pub refused_word : List ℕ
refused_word = 114 ∷ 101 ∷ 102 ∷ 117 ∷ 115 ∷ 101 ∷ 100 ∷ 32 ∷ []

-- ` in rules at `
abbrev pub rules_word : List ℕ
rules_word = 32 ∷ 105 ∷ 110 ∷ 32 ∷ 114 ∷ 117 ∷ 108 ∷ 101 ∷ 115 ∷ 32 ∷ 97 ∷ 116 ∷ 32 ∷ []

-- ` in bundle at `
abbrev pub bundle_word : List ℕ
bundle_word = 32 ∷ 105 ∷ 110 ∷ 32 ∷ 98 ∷ 117 ∷ 110 ∷ 100 ∷ 108 ∷ 101 ∷ 32 ∷ 97 ∷ 116 ∷ 32 ∷ []

-- "each line ends with one newline"
abbrev pub newline : List ℕ
newline = 10 ∷ []

-- "The first line has the counts"
unfoldable pub counts_line : Counts → List ℕ
counts_line c =
    named facts_word c.facts ++ named kept_count c.kept ++ named alone_count c.alone ++ named disputed_word c.disputed ++ newline

-- "its mark, and for a disputed fact its partner"
unfoldable pub mark_of : Judged → List ℕ
mark_of Kept = kept_word
mark_of Alone = alone_word
mark_of (Disputed partner) = named disputed_word partner

-- "each other line has the fact's number, its mark, and for a disputed fact its partner"
unfoldable pub fact_line : ℕ → Judged → List ℕ
fact_line number judged = decimal_of number ++ mark_of judged ++ newline

-- where a refusal stands: "in bundle at 3`, or `in rules`"
unfoldable pub place_of : Side → ℕ → List ℕ
place_of Rules place = named rules_word place
place_of Bundle place = named bundle_word place
place_of Call place = named bundle_word place

-- "A refusal prints one line, as `refused 8 in bundle at 3`, or `in rules`."
unfoldable pub refusal_line : Refusal → List ℕ
refusal_line r = named refused_word (number_of r.fault) ++ place_of r.side r.place ++ newline

-- a mark at a place, and a refusal's side with its place
pub record LaidMark (out : List ℕ) (at : ℕ) (judged : Judged) (r : ℕ) (out' : List ℕ) : Type 0 where
  pub laid : Laid out at (mark_of judged) r out'
  pub few : r ≤ at + 30

-- a refusal's side and place, at a place
pub record LaidPlace (out : List ℕ) (at : ℕ) (side : Side) (place r : ℕ) (out' : List ℕ) : Type 0 where
  pub laid : Laid out at (place_of side place) r out'
  pub few : r ≤ at + 34

-- a whole line at the start: its length, the lent line afterwards, and what stands up to that length
pub record Line (out bytes : List ℕ) (r : ℕ) (out' : List ℕ) : Type 0 where
  pub count : r ≡ length bytes
  pub memory : out' ≡ sets out 0 bytes
  pub fits : r ≤ length out'
  pub whole : take r out' ≡ bytes
