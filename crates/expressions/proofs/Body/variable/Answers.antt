-- `expressions::Body::variable` meets its contract: the number, the limits and the type are tested in the definition's order.
-- Rests on Expressions, and on the answers of crate marks.
use mathlib.Core.Path.{◌∙◌}
use Rattle.marks.proofs.Answers.{read, unread, handed_on}
use Rattle.expressions.proofs.Expressions.{variable_short, variable_unknown, variable_over, variable_mismatch, variable_ends}
use Rattle.expressions.proofs.Body.variable.Goals as goal

pub returns-in_err-number : goal.returns-in_err-number
returns-in_err-number c = handed_on _ c.from_residual.ensures ∙ variable_short c.args.scope _ _ (unread _ c.in_err-number.ensures)

pub returns-then-scope-n : goal.returns-then-scope-n
returns-then-scope-n c = variable_unknown c.args.scope _ _ (read _ c.in_ok-number.ensures) c.from-n.ensures c.if-scope-n.true

pub returns-in_err-inside : goal.returns-in_err-inside
returns-in_err-inside c =
    handed_on _ c.from_residual-in_err-inside.ensures
    ∙ variable_over _ _ _ (read _ c.in_ok-number.ensures) c.from-n.ensures c.if-scope-n.false c.in_err-inside.ensures

pub returns-then-from-scope : goal.returns-then-from-scope
returns-then-from-scope c =
    variable_mismatch _ _ _
    (read _ c.in_ok-number.ensures)
    c.from-n.ensures
    c.if-scope-n.false
    c.in_ok-inside.ensures
    c.from.ensures
    c.if-from-scope.true

pub returns : goal.returns
returns c =
    variable_ends _ _ _
    (read _ c.in_ok-number.ensures)
    c.from-n.ensures
    c.if-scope-n.false
    c.in_ok-inside.ensures
    c.from.ensures
    c.if-from-scope.false
