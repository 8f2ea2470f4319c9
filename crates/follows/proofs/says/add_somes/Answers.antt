use Rattle.follows.proofs.Adds.{adds}
use Rattle.follows.proofs.says.add_somes.Goals as goal

pub returns : goal.returns
returns c = search adds
