use Rattle.writer.proofs.FactBytes.{storing}
use Rattle.writer.proofs.store.put_number.Goals as goal

pub returns : goal.returns
returns c = search storing
