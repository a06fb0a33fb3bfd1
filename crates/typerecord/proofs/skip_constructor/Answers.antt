-- `typerecord::skip_constructor` meets its contract: the code goes through `constructor_record` in its order.
-- Rests on Counts and on the answers of crate marks.
use native.Mathlib.Omega.{arith}
use Rattle.reach.specs.Limits.{field_limit}
use Rattle.reach.specs.RuleFile.{constructor_record}
use Rattle.marks.proofs.Answers.{read, unread, handed_on}
use Rattle.typerecord.proofs.Counts.{counted_got, counted_refused, counted_over}
use Rattle.typerecord.proofs.skip_constructor.Goals as goal

pub returns-in_err-n : goal.returns-in_err-n
unfolding constructor_record
returns-in_err-n c = rw (counted_refused 0 field_limit _ _ (unread _ c.in_err-n.ensures)) (handed_on _ c.from_residual.ensures)

pub returns-then-from-gt-FIELD_LIMIT : goal.returns-then-from-gt-FIELD_LIMIT
unfolding constructor_record
returns-then-from-gt-FIELD_LIMIT c =
    rw
    (counted_over 0 field_limit _ _ (read _ c.in_ok-n.ensures) (omega arith) (omega arith))

pub returns : goal.returns
unfolding constructor_record
returns c =
    rw (
      counted_got 0 field_limit _ _ (read _ c.in_ok-n.ensures) (omega arith) (omega arith),
      c.skip_bytes.ensures,
      c.from-2.ensures,
    )
