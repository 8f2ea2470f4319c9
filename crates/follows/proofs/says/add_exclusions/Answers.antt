use Rattle.follows.proofs.Adds.{adds}
use Rattle.follows.proofs.says.add_exclusions.Goals as goal

pub returns-in-Included : goal.returns-in-Included
returns-in-Included c = search adds

pub returns-in-RoleIncluded : goal.returns-in-RoleIncluded
returns-in-RoleIncluded c = search adds

pub returns-in-Functional : goal.returns-in-Functional
returns-in-Functional c = search adds
