-- `goalrecord::skip_limits` meets its contract: the code goes through `limits_part` in its order.
-- Rests on typerecord's Counts and on the answers of crate marks.
use native.Mathlib.Omega.{arith}
use borrow.Author.Tests.{le-leb, lt-leb}
use Rattle.reach.specs.Limits.{depth_limit, step_limit}
use Rattle.typerecord.specs.Passed.{limits_part}
use Rattle.marks.proofs.Answers.{read, unread, handed_on}
use Rattle.typerecord.proofs.Counts.{counted_got, counted_refused, counted_under, counted_over}
use Rattle.goalrecord.proofs.skip_limits.Goals as goal

pub returns-in_err-d : goal.returns-in_err-d
unfolding limits_part
returns-in_err-d c = rw (counted_refused 1 depth_limit _ _ (unread _ c.in_err-d.ensures)) (handed_on _ c.from_residual.ensures)

pub returns-then-from-lt1 : goal.returns-then-from-lt1
unfolding limits_part
returns-then-from-lt1 c = rw (counted_under 1 depth_limit _ _ (read _ c.in_ok-d.ensures) (omega arith))

pub returns-then-from-gt-DEPTH_LIMIT : goal.returns-then-from-gt-DEPTH_LIMIT
unfolding limits_part
returns-then-from-gt-DEPTH_LIMIT c = rw (counted_over 1 depth_limit _ _ (read _ c.in_ok-d.ensures) (omega arith) (omega arith))

pub returns-in_err-n : goal.returns-in_err-n
unfolding limits_part
returns-in_err-n c =
    rw (
      counted_got 1 depth_limit _ _ (read _ c.in_ok-d.ensures) (omega arith) (omega arith),
      unread _ c.in_err-n.ensures,
    )
    (handed_on _ c.from_residual-in_err-n.ensures)

pub returns-then-n-gt-STEP_LIMIT : goal.returns-then-n-gt-STEP_LIMIT
unfolding limits_part
returns-then-n-gt-STEP_LIMIT c =
    rw (
      counted_got 1 depth_limit _ _ (read _ c.in_ok-d.ensures) (omega arith) (omega arith),
      read _ c.in_ok-n.ensures,
      lt-leb c.in_ok-n.n step_limit (omega arith),
    )

pub returns : goal.returns
unfolding limits_part
returns c =
    rw (
      counted_got 1 depth_limit _ _ (read _ c.in_ok-d.ensures) (omega arith) (omega arith),
      read _ c.in_ok-n.ensures,
      le-leb c.in_ok-n.n step_limit (omega arith),
    )
