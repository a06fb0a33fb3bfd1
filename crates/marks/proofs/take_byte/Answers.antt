-- `marks::take_byte` meets its contract: the test of the code is that of `byte`.
-- Rests on Answers.
use native.Mathlib.Numerals.{add-one}
use Rattle.marks.proofs.Answers.{byte_there, byte_none}
use Rattle.marks.proofs.take_byte.Goals as goal

pub returns-then-at-s : goal.returns-then-at-s
returns-then-at-s c = rw (byte_there _ _ c.if-at-s.true, add-one)

pub returns-else-at-s : goal.returns-else-at-s
returns-else-at-s c = rw (byte_none _ _ c.if-at-s.false)
