use Rattle.site.proofs.OfItems.{items}
use Rattle.site.proofs.items.read_tested.Goals as goal

pub returns-in_default : goal.returns-in_default
returns-in_default g c = λ t same. search items

pub returns-then-test : goal.returns-then-test
returns-then-test g c = λ t same. search items

pub returns-else-test : goal.returns-else-test
returns-else-test g c = λ t same. search items
