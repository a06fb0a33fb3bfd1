-- `points::Stack::reopen` meets its contract: the cell is opened again and its word 1 is as it was. Rests on Writing.
use Rattle.points.proofs.Writing.{reopened_written}
use Rattle.points.proofs.Stack.reopen.Goals as goal

pub returns : goal.returns
returns c = reopened_written c.args.work.now c.args.self.at c.args.h c.choice_word-x.ensures.0 c.choice_word-first.ensures.0 c.open_again.ensures c.narrow.ensures
