use Rattle.number.proofs.Writing.{writing}
use Rattle.number.proofs.write.write_number.Goals as goal

pub returns-then-most-value : goal.returns-then-most-value
returns-then-most-value c = search writing

pub returns-then-value-gt-THREE_BYTES : goal.returns-then-value-gt-THREE_BYTES
returns-then-value-gt-THREE_BYTES c = search writing

pub returns-then-out-at : goal.returns-then-out-at
returns-then-out-at c = search writing

pub returns-then-out-at-2 : goal.returns-then-out-at-2
returns-then-out-at-2 c = search writing

pub returns : goal.returns
returns c = search writing
