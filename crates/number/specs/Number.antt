-- A number in bytes: its forms, what stands at a place, and what is written for a value.
use Rattle.std.specs.Prelude.{ℕ, ◌+◌, ◌-◌, ◌*◌, ◌/◌, ◌%◌, cond, ◌&&◌, List, [], ◌∷◌, drop, length, ltb, leb, eqb, Ok, Err}
use Rattle.number.specs.Answer.{Answer, refusal}
use Rattle.number.specs.declared.read.Read.{Read}
use Rattle.number.specs.declared.refusal.Fault.{Fault}
use Rattle.number.specs.declared.refusal.Fault.TheVariants.{Cut, Long, Over, Room}
use Rattle.number.specs.declared.refusal.Side.{Side}
use Rattle.number.specs.declared.refusal.Side.TheVariants.{Call}

-- what stands at the head of some bytes: a number's value with its size, or the fault
pub data Form : Type 0 where
  whole : ℕ → ℕ → Form
  fault : Fault → Form

-- refusal 2: "more than one byte and the last is 0"
abbrev pub ending : ℕ → ℕ → ℕ → Form
ending last value size = cond (eqb last 0) (fault Long) (whole value size)

-- refusal 3: "third byte has its top bit set"; refusal 1: "the bytes end before a number that is due is complete"
unfoldable pub third : ℕ → List ℕ → Form
third low [] = fault Cut
third low (c ∷ s) = cond (ltb c 128) (ending c (low + 16384 * c) 3) (fault Over)

-- the second byte is the last, or there is a third
unfoldable pub second : ℕ → List ℕ → Form
second low [] = fault Cut
second low (b ∷ s) = cond (ltb b 128) (ending b (low + 128 * b) 2) (third (low + 128 * (b - 128)) s)

-- "in groups of seven bits, lowest group first; each byte but the last has its top bit set"
unfoldable pub form_of : List ℕ → Form
form_of [] = fault Cut
form_of (a ∷ s) = cond (ltb a 128) (whole a 1) (second (a - 128) s)

-- refusal 3: "or value over 65,535", the bound being given with the number's use
abbrev pub judged : ℕ → ℕ → ℕ → ℕ → Side → Answer (Read ℕ)
judged value next at most side = cond (leb value most) (Ok (record { value = value; next = next })) (Err (refusal Over side at))

-- a form that is whole is judged; a fault is refused
abbrev pub judge_at : ℕ → ℕ → Side → Form → Answer (Read ℕ)
judge_at at most side (whole value size) = judged value (at + size) at most side
judge_at at most side (fault f) = Err (refusal f side at)

-- the number that stands at a place, with the place after it; a refusal's place is "first byte of that number"
unfoldable pub number_at : List ℕ → ℕ → ℕ → Side → Answer (Read ℕ)
number_at s at most side = judge_at at most side (form_of (drop at s))

-- "Only the shortest form is allowed": the bytes of a value
unfoldable pub bytes_of : ℕ → List ℕ
bytes_of v =
    cond (ltb v 128)
    (v ∷ [])
    (cond (ltb v 16384)
    ((v % 128 + 128) ∷ (v / 128) ∷ [])
    ((v % 128 + 128) ∷ (v / 128 % 128 + 128) ∷ (v / 16384) ∷ []))

-- "A number has at most three bytes": the largest value that these hold
abbrev pub three_bytes : ℕ
three_bytes = 2097151

-- writing a value into so much room at a place: its bytes, 3 for a value that has no form here, or 9
unfoldable pub plan : ℕ → ℕ → ℕ → ℕ → Answer (List ℕ)
plan room at value most =
    cond (leb value most && leb value three_bytes)
    (cond (leb (at + length (bytes_of value)) room) (Ok (bytes_of value)) (Err (refusal Room Call 0)))
    (Err (refusal Over Call 0))
