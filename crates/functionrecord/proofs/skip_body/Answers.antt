-- `functionrecord::skip_body` meets its contract: the code goes through `body_part` in its order.
-- Rests on typerecord's Counts and on the answers of crate marks.
use native.Mathlib.Omega.{arith}
use Rattle.reach.specs.Limits.{body_limit}
use Rattle.typerecord.specs.Passed.{body_part}
use Rattle.marks.proofs.Answers.{read, unread, handed_on}
use Rattle.typerecord.proofs.Counts.{between, under, over}
use Rattle.functionrecord.proofs.skip_body.Goals as goal

pub returns-in_err-n : goal.returns-in_err-n
unfolding body_part
returns-in_err-n c = rw (unread _ c.in_err-n.ensures) (handed_on _ c.from_residual.ensures)

pub returns-then-n-lt1 : goal.returns-then-n-lt1
unfolding body_part
returns-then-n-lt1 c = rw (read _ c.in_ok-n.ensures, under 1 body_limit c.in_ok-n.n (omega arith))

pub returns-then-n-gt-BODY_LIMIT : goal.returns-then-n-gt-BODY_LIMIT
unfolding body_part
returns-then-n-gt-BODY_LIMIT c = rw (read _ c.in_ok-n.ensures, over 1 body_limit c.in_ok-n.n (omega arith) (omega arith))

pub returns : goal.returns
unfolding body_part
returns c =
    rw (
      read _ c.in_ok-n.ensures,
      between 1 body_limit c.in_ok-n.n (omega arith) (omega arith),
      c.pass.ensures,
    )
