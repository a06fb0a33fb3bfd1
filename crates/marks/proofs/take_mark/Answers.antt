-- `marks::take_mark` meets its contract: the two bytes of `mark`, taken together.
-- Rests on Answers.
use Rattle.marks.proofs.Answers.{read, unread, handed_on, mark_by_pair}
use Rattle.marks.proofs.take_mark.Goals as goal

pub returns-in_err-bytes : goal.returns-in_err-bytes
returns-in_err-bytes c = rw (mark_by_pair c.args.s.now c.args.at, unread _ c.in_err-bytes.ensures) (handed_on _ c.from_residual.ensures)

pub returns : goal.returns
returns c = rw (mark_by_pair c.args.s.now c.args.at, read _ c.in_ok-bytes.ensures, c.mark_of.ensures)
