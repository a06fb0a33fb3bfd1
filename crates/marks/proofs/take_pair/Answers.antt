-- `marks::take_pair` meets its contract: the code goes through `pair` in its order.
-- Rests on Answers.
use Rattle.marks.specs.Found.{pair}
use Rattle.marks.proofs.Answers.{read, unread, handed_on}
use Rattle.marks.proofs.take_pair.Goals as goal

pub returns-in_err-first : goal.returns-in_err-first
unfolding pair
returns-in_err-first c = rw (unread _ c.in_err-first.ensures) (handed_on _ c.from_residual.ensures)

pub returns-in_err-second : goal.returns-in_err-second
unfolding pair
returns-in_err-second c = rw (read _ c.in_ok-first.ensures, unread _ c.in_err-second.ensures) (handed_on _ c.from_residual-in_err-second.ensures)

pub returns : goal.returns
unfolding pair
returns c = rw (read _ c.in_ok-first.ensures, read _ c.in_ok-second.ensures)
