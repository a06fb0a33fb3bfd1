-- `turns::goal_mark` meets its contract: the mark that mark_behind answers is the one that `goal_mark` goes by.
-- Rests on Marks and on the answers of crate marks.
use Rattle.reach.specs.RuleFile.{in_turn, goal_mark}
use Rattle.marks.proofs.Answers.{mark_got, mark_unread, handed_on}
use Rattle.turns.proofs.Marks.{no_goal_mark}
use Rattle.turns.proofs.goal_mark.Goals as goal

pub returns-in_err-last : goal.returns-in_err-last
unfolding goal_mark
returns-in_err-last c = rw (mark_unread _ c.in_err-last.ensures) (handed_on _ c.from_residual.ensures)

pub returns-in-Goal : goal.returns-in-Goal
unfolding goal_mark in_turn
returns-in-Goal c = rw (mark_got _ c.in_ok-last.ensures, c.in-Goal.is)

pub returns-in_default : goal.returns-in_default
unfolding goal_mark
returns-in_default c = rw (mark_got _ c.in_ok-last.ensures, no_goal_mark c.in_ok-last.last _ c.in_default.not-Goal)
