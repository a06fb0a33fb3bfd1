-- `put` of `naming::Latin1` meets its contract: the letter is one number behind a space.
-- Rests on Lines.
use Rattle.naming.proofs.Lines.{latin1_put}
use Rattle.naming.proofs.Latin1Encoding.put.Goals as goal

pub returns : goal.returns
returns c = latin1_put c.args.letter (rw c.from.ensures at c.number.ensures)
