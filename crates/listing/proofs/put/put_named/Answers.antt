-- A word and then its number are one run of bytes.
use Rattle.listing.proofs.OfPutting.{putting}
use Rattle.listing.proofs.put.put_named.Goals as goal

pub returns : goal.returns
returns c = search putting
