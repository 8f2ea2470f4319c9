-- The line is the number, the side with its place, and the newline, one after the other from the start.
use Rattle.std.proofs.Common.{rules}
use Rattle.listing.proofs.OfLines.{refusal_done}
use Rattle.listing.proofs.lines.refusal_line.Goals as goal

pub returns : goal.returns
returns c = refusal_done c.args.refusal c.from.ensures c.put_named-a.ensures c.put_place-b.ensures c.put_word.ensures (search rules)
