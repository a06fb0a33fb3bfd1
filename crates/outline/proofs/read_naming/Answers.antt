-- `outline::read_naming` meets its contract: the mark that mark_at answers is the one that `naming` goes by.
-- Rests on the answers of crate marks.
use mathlib.Core.Logic.{inl, inr}
use Rattle.reach.specs.RuleFile.{in_turn, naming}
use Rattle.marks.proofs.Answers.{mark_got, mark_unread, handed_on}
use Rattle.outline.proofs.read_naming.Goals as goal

pub returns-in_err-mark : goal.returns-in_err-mark
unfolding naming
returns-in_err-mark c = rw (handed_on _ c.from_residual.ensures, mark_unread _ c.in_err-mark.ensures)

pub returns-in-Name : goal.returns-in-Name
unfolding naming in_turn
returns-in-Name c = rw (mark_got _ c.in_ok-mark.ensures, c.in-Name.is) c.name_record.ensures

pub returns-in-Goal : goal.returns-in-Goal
unfolding naming in_turn
returns-in-Goal c = rw (mark_got _ c.in_ok-mark.ensures, c.in-Goal.is)

pub returns-in-Type : goal.returns-in-Type
unfolding naming in_turn
returns-in-Type c =
    rw (mark_got _ c.in_ok-mark.ensures) (elim c.in-Type.is [ inl is ↦ rw is | inr (inl is) ↦ rw is | inr (inr is) ↦ rw is ])
