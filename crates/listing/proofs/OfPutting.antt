-- Putting bytes into a line: two runs of bytes one after the other are one run, a word is copied, a number by its tenth and its last digit.
use Prim.Native.Nat.{ℕ, suc, ◌+◌, ◌/◌, ◌%◌, ◌^◌, ◌-◌, ◌≤◌, ◌<◌}
use mathlib.Core.Path.{◌≡◌, refl, sym, ap, ◌∙◌}
use mathlib.Core.List.{List, [], ◌∷◌, ◌++◌}
use lib.ListN.{length, take, drop, set, length-append}
use lib.Seq.{sets, length-sets, sets-eq}
use native.Mathlib.Nat.{add-zero}
use native.Mathlib.Omega.{arith}
use borrow.Author.Rules.{rules}
use borrow.Rule.Slice.PartMut.{put_mid}
use Rattle.std.proofs.Common.{append_assoc}
use Rattle.std.proofs.lemmas.List.Edits.{paste_all}
use Rattle.std.proofs.lemmas.Slice.{put_mid-paste}
use Rattle.std.proofs.Math.Seq.{paste}
use Rattle.listing.specs.Decimal.{digit, decimal_of}
use Rattle.listing.specs.Put.{Laid, LaidNumber, LaidNamed, named}
use Rattle.listing.proofs.OfDecimals.{decimal_one, decimal_more, at_most_19}

sets_append : (out : List ℕ) (at : ℕ) (xs ys : List ℕ) → sets out at (xs ++ ys) ≡ sets (sets out at xs) (at + length xs) ys
sets_append out at [] ys = ap (λ (k : ℕ). sets out k ys) (sym (add-zero at))
sets_append out at (x ∷ xs) ys =
    let shift : suc at + length xs ≡ at + suc (length xs) = omega arith in
    sets_append (set out at x) (suc at) xs ys ∙ ap (λ (k : ℕ). sets (sets (set out at x) (suc at) xs) k ys) shift

-- a run of bytes keeps the line's length
pub laid : (out : List ℕ) (at : ℕ) (bytes : List ℕ) (r : ℕ) (out' : List ℕ) → r ≡ at + length bytes → out' ≡ sets out at bytes → Laid out at bytes r out'
laid out at bytes r out' e m = record { place = e; memory = m; size = ap length m ∙ length-sets out at bytes }

-- one run after the other
pub laid_both : (a : List ℕ) (i : ℕ) (xs : List ℕ) (j : ℕ) (b ys : List ℕ) (k : ℕ) (c : List ℕ) → Laid a i xs j b → Laid b j ys k c → Laid a i (xs ++ ys) k c
laid_both a i xs j b ys k c x y =
    laid a i (xs ++ ys) k c
    (rw length-append (omega (arith, x.place, y.place)))
    (y.memory ∙ rw (x.memory, x.place) (sym (sets_append a i xs ys)))

-- a number
module _ (out : List ℕ) (at n : ℕ) where
  pub number_one : n < 10 → LaidNumber out at n (at + 1) (set out at (48 + n))
  number_one h =
      record { laid = rw (decimal_one n h) (laid out at (digit n ∷ []) (at + 1) (set out at (48 + n)) refl refl); few = omega arith }

  module _ (fits : n < 2 ^ 64) (p : ℕ) (mid : List ℕ) (tenth : LaidNumber out at (n / 10) p mid) where
    pub in_last : at + 20 ≤ length out → p < length mid
    in_last h = omega (arith, at_most_19 n fits, tenth.laid.place, tenth.laid.size)

    pub number_more : 10 ≤ n → LaidNumber out at n (p + 1) (set mid p (48 + n % 10))
    number_more h =
        record {
          laid =
              rw (decimal_more n h)
              (laid_both out at (decimal_of (n / 10)) p mid (digit (n % 10) ∷ []) (p + 1) (set mid p (48 + n % 10)) tenth.laid
              (laid mid p (digit (n % 10) ∷ []) (p + 1) (set mid p (48 + n % 10)) refl refl));
          few = omega (arith, at_most_19 n fits, tenth.laid.place);
        }

-- a word: what is copied into a part of the line is put there byte by byte
pub word_laid : (out : List ℕ) (at : ℕ) (word part : List ℕ) → at + length word ≤ length out → part ≡ word → Laid out at word (at + length word) (put_mid at (at + length word - at) out part)
word_laid out at word part fits e =
    let same : length word ≡ at + length word - at = omega arith in
    let put : put_mid at (at + length word - at) out part ≡ paste out at word (length word) = put_mid-paste at _ out part word (length word) e same refl in
    laid out at word (at + length word) _ refl
    (put ∙ paste_all out at word (length word) refl ∙ sym (sets-eq word out at fits ∙ append_assoc (take at out) word (drop (at + length word) out)))

-- a word and its number
module _ (out : List ℕ) (at : ℕ) (word : List ℕ) (n p : ℕ) (mid : List ℕ) (first : Laid out at word p mid) where
  pub named_room : at + length word + 20 ≤ length out → p + 20 ≤ length mid
  named_room h = omega (arith, first.place, first.size)

  pub named_laid : (r : ℕ) (out' : List ℕ) → LaidNumber mid p n r out' → LaidNamed out at word n r out'
  unfolding named
  named_laid r out' second =
      record { laid = laid_both out at word p mid (decimal_of n) r out' first second.laid; few = omega (arith, first.place, second.few) }

pub ruleset putting = (number_one, in_last, number_more, word_laid, named_room, named_laid, rules)
