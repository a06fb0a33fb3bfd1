-- `outline::first_pass` meets its contract: the outline is the first mark, the types, the functions, what NA names, and the goal with the end of the
-- file.
-- Rests on Whole and on the answers of crate marks.
use Rattle.reach.specs.Places.{declarations_at, outline_at}
use Rattle.marks.proofs.Answers.{handed_on}
use Rattle.outline.proofs.Whole.{no_type, types_refused, functions_refused, names_refused, goal_refused, outlined}
use Rattle.outline.proofs.first_pass.Goals as goal

pub returns-in_err-first_type : goal.returns-in_err-first_type
returns-in_err-first_type c = rw (handed_on _ c.from_residual.ensures) (no_type _ c.in_err-first_type.ensures)

pub returns-in_err-first_function : goal.returns-in_err-first_function
returns-in_err-first_function c = rw (handed_on _ c.from_residual-in_err-first_function.ensures) (types_refused _ c.in_ok-first_type.ensures c.in_err-first_function.ensures)

pub returns-in_err-names_at : goal.returns-in_err-names_at
returns-in_err-names_at c =
    rw (handed_on _ c.from_residual-in_err-names_at.ensures)
    (functions_refused _ c.in_ok-first_type.ensures c.in_ok-first_function.ensures c.in_err-names_at.ensures)

pub returns-in_err-named : goal.returns-in_err-named
returns-in_err-named c =
    rw (handed_on _ c.from_residual-in_err-named.ensures)
    (names_refused _ c.in_ok-first_type.ensures c.in_ok-first_function.ensures c.in_ok-names_at.ensures c.in_err-named.ensures)

pub returns-in_err-goal : goal.returns-in_err-goal
returns-in_err-goal c =
    rw (handed_on _ c.from_residual-in_err-goal.ensures)
    (goal_refused _ c.in_ok-first_type.ensures c.in_ok-first_function.ensures c.in_ok-names_at.ensures c.in_ok-named.ensures c.in_err-goal.ensures)

pub returns : goal.returns
unfolding declarations_at outline_at
returns c = outlined _ c.in_ok-first_type.ensures c.in_ok-first_function.ensures c.in_ok-names_at.ensures c.in_ok-named.ensures c.in_ok-goal.ensures
