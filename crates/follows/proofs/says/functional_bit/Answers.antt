use Rattle.follows.proofs.Adds.{adds}
use Rattle.follows.proofs.says.functional_bit.Goals as goal

pub returns : goal.returns
returns c = search adds

pub returns-then-code : goal.returns-then-code
returns-then-code c = search adds
