use Rattle.writer.proofs.FactBytes.{storing}
use Rattle.writer.proofs.store.write_fact.Goals as goal

pub returns-then-of_concept : goal.returns-then-of_concept
returns-then-of_concept c = search storing

pub returns : goal.returns
returns c = search storing
