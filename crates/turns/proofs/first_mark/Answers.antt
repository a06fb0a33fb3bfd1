-- `turns::first_mark` meets its contract: the mark that mark_at answers is the one that `first_mark` goes by.
-- Rests on Marks and on the answers of crate marks.
use Rattle.reach.specs.RuleFile.{in_turn}
use Rattle.marks.proofs.Answers.{mark_got, mark_unread, handed_on}
use Rattle.turns.specs.Turns.{first_mark}
use Rattle.turns.proofs.Marks.{no_type_mark}
use Rattle.turns.proofs.first_mark.Goals as goal

pub returns-in_err-first : goal.returns-in_err-first
unfolding first_mark
returns-in_err-first c = rw (mark_unread _ c.in_err-first.ensures) (handed_on _ c.from_residual.ensures)

pub returns-in-Type : goal.returns-in-Type
unfolding first_mark in_turn
returns-in-Type c = rw (mark_got _ c.in_ok-first.ensures, c.in-Type.is)

pub returns-in_default : goal.returns-in_default
unfolding first_mark
returns-in_default c = rw (mark_got _ c.in_ok-first.ensures, no_type_mark c.in_ok-first.first _ c.in_default.not-Type)
