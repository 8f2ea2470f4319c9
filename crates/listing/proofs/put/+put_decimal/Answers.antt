-- A number's digits are its tenth's and then its last one.
use Rattle.std.proofs.Common.{arith}
use Rattle.listing.proofs.OfPutting.{number_one, putting}
use Rattle.listing.proofs.put.+put_decimal.Goals as goal

pub returns-then-n-lt10 : goal.returns-then-n-lt10
returns-then-n-lt10 t c = number_one _ _ _ (omega arith)

pub returns : goal.returns
returns t c = search putting
