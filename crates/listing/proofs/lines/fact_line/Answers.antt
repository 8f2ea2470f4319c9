-- The line is the number, the mark and the newline, one after the other from the start.
use Rattle.std.proofs.Common.{rules}
use Rattle.listing.proofs.OfLines.{fact_done}
use Rattle.listing.proofs.lines.fact_line.Goals as goal

pub returns : goal.returns
returns c = rw (← c.new-judged.ensures) (fact_done c.put_decimal-a.ensures c.put_mark-b.ensures c.put_word.ensures (search rules))
