use Rattle.follows.proofs.Adds.{adds}
use Rattle.follows.proofs.says.add_arrows.Goals as goal

pub returns-in-Included : goal.returns-in-Included
returns-in-Included c = search adds
