use Rattle.follows.proofs.Adds.{adds}
use Rattle.follows.proofs.says.add_roles.Goals as goal

pub returns : goal.returns
returns c = search adds
