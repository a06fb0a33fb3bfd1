-- `goalrecord::skip_goal` meets its contract: the code goes through `goal_record` in its order, and its end is `limits_part`.
-- Rests on typerecord's Tails and on the answers of crate marks.
use mathlib.Core.Path.{sym, ◌∙◌}
use Rattle.reach.specs.RuleFile.{goal_record}
use Rattle.marks.proofs.Answers.{read, unread, handed_on}
use Rattle.typerecord.proofs.Tails.{goal_tail}
use Rattle.goalrecord.proofs.skip_goal.Goals as goal

pub returns-in_err-label : goal.returns-in_err-label
unfolding goal_record
returns-in_err-label c = rw (unread _ c.in_err-label.ensures) (handed_on _ c.from_residual.ensures)

pub returns-in_err-limits : goal.returns-in_err-limits
unfolding goal_record
returns-in_err-limits c = rw (read _ c.in_ok-label.ensures, unread _ c.in_err-limits.ensures) (handed_on _ c.from_residual-in_err-limits.ensures)

pub returns : goal.returns
returns c = c.skip_limits.ensures ∙ sym (goal_tail _ _ (read _ c.in_ok-label.ensures) (read _ c.in_ok-limits.ensures))
