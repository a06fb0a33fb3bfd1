-- `functionrecord::skip_function` meets its contract: the code goes through `function_record` in its order, and its end is `body_part`.
-- Rests on typerecord's Answers, Counts and Tails, and on the answers of crate marks.
use mathlib.Core.Path.{sym, ◌∙◌}
use native.Mathlib.Omega.{arith}
use Rattle.reach.specs.Limits.{parameter_limit}
use Rattle.reach.specs.RuleFile.{function_record}
use Rattle.marks.proofs.Answers.{read, unread, handed_on}
use Rattle.typerecord.proofs.Answers.{bytes_got, bytes_refused}
use Rattle.typerecord.proofs.Counts.{counted_got, counted_refused, counted_over}
use Rattle.typerecord.proofs.Tails.{function_tail}
use Rattle.functionrecord.proofs.skip_function.Goals as goal

pub returns-in_err-n : goal.returns-in_err-n
unfolding function_record
returns-in_err-n c = rw (counted_refused 0 parameter_limit _ _ (unread _ c.in_err-n.ensures)) (handed_on _ c.from_residual.ensures)

pub returns-then-from-gt-PARAMETER_LIMIT : goal.returns-then-from-gt-PARAMETER_LIMIT
unfolding function_record
returns-then-from-gt-PARAMETER_LIMIT c = rw (counted_over 0 parameter_limit _ _ (read _ c.in_ok-n.ensures) (omega arith) (omega arith))

pub returns-in_err-result : goal.returns-in_err-result
unfolding function_record
returns-in_err-result c =
    rw (
      counted_got 0 parameter_limit _ _ (read _ c.in_ok-n.ensures) (omega arith) (omega arith),
      bytes_refused _ _ c.from-2.ensures c.in_err-result.ensures,
    )
    (handed_on _ c.from_residual-in_err-result.ensures)

pub returns-in_err-length : goal.returns-in_err-length
unfolding function_record
returns-in_err-length c =
    rw (
      counted_got 0 parameter_limit _ _ (read _ c.in_ok-n.ensures) (omega arith) (omega arith),
      (bytes_got _ _ c.from-2.ensures c.in_ok-result.ensures).1,
      unread _ c.in_err-length.ensures,
    )
    (handed_on _ c.from_residual-in_err-length.ensures)

pub returns : goal.returns
returns c =
    c.skip_body.ensures
    ∙ sym
    (function_tail _ _
    (counted_got 0 parameter_limit _ _ (read _ c.in_ok-n.ensures) (omega arith) (omega arith))
    (bytes_got _ _ c.from-2.ensures c.in_ok-result.ensures).1
    (read _ c.in_ok-length.ensures))
