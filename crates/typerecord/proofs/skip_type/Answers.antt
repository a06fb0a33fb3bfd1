-- `typerecord::skip_type` meets its contract: the code goes through `type_record` in its order.
-- Rests on Counts and on the answers of crate marks.
use native.Mathlib.Omega.{arith}
use Rattle.reach.specs.Limits.{constructor_limit}
use Rattle.reach.specs.RuleFile.{type_record}
use Rattle.marks.proofs.Answers.{read, unread, handed_on}
use Rattle.typerecord.proofs.Counts.{counted_got, counted_refused, counted_under, counted_over}
use Rattle.typerecord.proofs.skip_type.Goals as goal

pub returns-in_err-n : goal.returns-in_err-n
unfolding type_record
returns-in_err-n c = rw (counted_refused 1 constructor_limit _ _ (unread _ c.in_err-n.ensures)) (handed_on _ c.from_residual.ensures)

pub returns-then-from-lt1 : goal.returns-then-from-lt1
unfolding type_record
returns-then-from-lt1 c =
    rw
    (counted_under 1 constructor_limit _ _ (read _ c.in_ok-n.ensures) (omega arith))

pub returns-then-from-gt-CONSTRUCTOR_LIMIT : goal.returns-then-from-gt-CONSTRUCTOR_LIMIT
unfolding type_record
returns-then-from-gt-CONSTRUCTOR_LIMIT c =
    rw
    (counted_over 1 constructor_limit _ _ (read _ c.in_ok-n.ensures) (omega arith) (omega arith))

pub returns : goal.returns
unfolding type_record
returns c =
    rw (
      counted_got 1 constructor_limit _ _ (read _ c.in_ok-n.ensures) (omega arith) (omega arith),
      c.skip_constructors.ensures,
      c.from-3.ensures,
    )
