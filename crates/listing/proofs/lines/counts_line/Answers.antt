-- The line is its five runs of bytes, one after the other from the start.
use Rattle.std.proofs.Common.{rules}
use Rattle.listing.proofs.OfLines.{counts_done}
use Rattle.listing.proofs.lines.counts_line.Goals as goal

pub returns : goal.returns
returns c =
    counts_done c.args.counts c.put_named-a.ensures c.put_named-b.ensures c.put_named-c.ensures c.put_named-d.ensures c.put_word.ensures (search rules)
