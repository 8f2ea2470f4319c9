-- What one step of a reader leaves of the reader itself.
use Rattle.std.specs.Prelude.{◌≡◌, Option}
use Rattle.number.specs.Answer.{Answer}
use Rattle.site.specs.declared.fact.Fact.{Fact}
use Rattle.records.specs.Reading.{reader_step}
use Rattle.rows.specs.declared.reader.Reader.{Reader}

-- one step of a reader: what it yields, the same bundle, and the next byte afterwards
pub record Steps (before : Reader) (y : Answer (Option Fact)) (after : Reader) : Type 0 where
  pub yields : y ≡ (reader_step before.src.now before.at).yields
  pub bundle : after.src ≡ before.src
  pub next : after.at ≡ (reader_step before.src.now before.at).next
