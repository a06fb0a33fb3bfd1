-- `put` of `naming::Utf8` meets its contract: an encoding is one byte, or two.
-- Rests on Lines and crate writing's Digits.
use native.Mathlib.Omega.{arith}
use Rattle.writing.proofs.Digits.{decimal_few}
use Rattle.naming.proofs.Lines.{one_put, two_put}
use Rattle.naming.proofs.Utf8Encoding.put.Goals as goal

pub number-requires-in-Some : goal.number-requires-in-Some
number-requires-in-Some c = omega (arith, decimal_few, c.number.ensures.place, c.from.ensures, c.from-in-Some.ensures)

pub returns-in-Some : goal.returns-in-Some
returns-in-Some c =
    two_put c.args.letter _ c.encoding-first.ensures (rw c.from.ensures at c.number.ensures) c.in-Some.is
    (rw c.from-in-Some.ensures at c.number-in-Some.ensures)

pub returns-in_default : goal.returns-in_default
returns-in_default c = one_put c.args.letter _ c.encoding-first.ensures (rw c.from.ensures at c.number.ensures) c.in_default.is
