-- `writing::Page::number` meets its contract: the space, then the digits.
-- Rests on Writing.
use Rattle.writing.proofs.Writing.{puts_then}
use Rattle.writing.proofs.Page.number.Goals as goal

pub returns : goal.returns
returns c = puts_then c.byte.ensures c.decimal.ensures
