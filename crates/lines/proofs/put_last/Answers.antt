-- `lines::put_last` meets its contract: a list that was cut short is tried first.
-- Rests on nothing of this crate.
use Rattle.lists.specs.Text.{last_line}
use Rattle.lines.proofs.put_last.Goals as goal

pub returns-then-full : goal.returns-then-full
unfolding last_line
returns-then-full c = rw c.if-full.true c.put_refusal.ensures

pub returns-else-full : goal.returns-else-full
unfolding last_line
returns-else-full c = rw c.if-full.false c.put_total.ensures
