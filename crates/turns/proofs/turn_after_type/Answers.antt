-- `turns::turn_after_type` meets its contract: behind the mark the reader of further types goes on as the turn says.
-- Rests on Marks and on the answers of crate marks.
use mathlib.Core.Path.{◌∙◌}
use mathlib.Core.Logic.{inl, inr}
use native.Mathlib.Omega.{arith}
use borrow.Author.Tests.{eq-eqb, ne_eqb}
use Rattle.reach.specs.RuleFile.{in_turn}
use Rattle.marks.proofs.Answers.{mark_got, mark_unread, handed_on}
use Rattle.turns.proofs.Marks.{types_turn_law}
use Rattle.turns.proofs.turn_after_type.Goals as goal

pub returns-in_err-mark : goal.returns-in_err-mark
returns-in_err-mark c =
    rw (handed_on _ c.from_residual.ensures)
    (record { behind_value = types_turn_law _ _ _ ∙ rw (mark_unread _ c.in_err-mark.ensures); room = tt })

pub returns-in-Type : goal.returns-in-Type
unfolding in_turn
returns-in-Type c =
    record { behind_value = types_turn_law _ _ _ ∙ rw (mark_got _ c.in_ok-mark.ensures, c.in-Type.is, eq-eqb _ _ c.if-more-eq0.true); room = tt }

pub returns-in-Type-2 : goal.returns-in-Type-2
unfolding in_turn
returns-in-Type-2 c =
    record { behind_value = types_turn_law _ _ _ ∙ rw (mark_got _ c.in_ok-mark.ensures, c.in-Type.is, ne_eqb _ _ c.if-more-eq0.false); room = omega arith }

pub returns-in-Function : goal.returns-in-Function
unfolding in_turn
returns-in-Function c =
    record { behind_value = types_turn_law _ _ _ ∙ rw (mark_got _ c.in_ok-mark.ensures, c.in-Function.is); room = tt }

pub returns-in-Name : goal.returns-in-Name
unfolding in_turn
returns-in-Name c =
    record {
      behind_value = types_turn_law _ _ _
          ∙ rw (mark_got _ c.in_ok-mark.ensures) (elim c.in-Name.is [ inl is ↦ rw is | inr (inl is) ↦ rw is | inr (inr is) ↦ rw is ]);
      room = tt;
    }
