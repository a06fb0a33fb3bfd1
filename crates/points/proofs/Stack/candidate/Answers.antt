-- `points::Stack::candidate` meets its contract: the words that it reads are those of the choice point's cell, and `next_fork` answers for them.

use Rattle.points.proofs.Stack.candidate.Goals as goal

pub returns : goal.returns
returns c = rw (← c.choice_word-x.ensures.0, ← c.cell_word.ensures.0, ← c.cell_word-2.ensures.0, ← c.cell_word-3.ensures.0) c.next_fork.ensures
