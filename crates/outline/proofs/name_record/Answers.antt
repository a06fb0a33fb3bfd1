-- `outline::name_record` meets its contract: a type number and then the mark GO, as `name_record` reads them.
-- Rests on the answers of crate marks and on Whole.
use Rattle.reach.specs.RuleFile.{name_record}
use Rattle.marks.proofs.Answers.{read, unread, handed_on}
use Rattle.outline.proofs.Whole.{name_then}
use Rattle.outline.proofs.name_record.Goals as goal

pub returns-in_err-t : goal.returns-in_err-t
unfolding name_record
returns-in_err-t c = rw (handed_on _ c.from_residual.ensures, unread _ c.in_err-t.ensures)

pub returns-in_err-goal_at : goal.returns-in_err-goal_at
returns-in_err-goal_at c =
    rw (handed_on _ c.from_residual-in_err-goal_at.ensures) (name_then _ _ (read _ c.in_ok-t.ensures) c.in_err-goal_at.ensures)

pub returns : goal.returns
returns c = rw c.from.ensures (name_then _ _ (read _ c.in_ok-t.ensures) c.in_ok-goal_at.ensures)
