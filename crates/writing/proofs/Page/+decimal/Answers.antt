-- `writing::Page::decimal` meets its contract: the digits of the tenth are written first, and the last one behind them.
-- Rests on Writing and Digits.
use Rattle.std.proofs.Common.{arith}
use Rattle.writing.proofs.Writing.{puts_then}
use Rattle.writing.proofs.Digits.{decimal_one, decimal_more, decimal_few}
use Rattle.writing.proofs.Page.+decimal.Goals as goal
use Rattle.writing.proofs.Page.+decimal.Goals.{then-n-ge10, else-n-ge10}

pub byte-requires : goal.byte-requires
byte-requires t c =
    elim c.if-n-ge10.branch [
      | then-n-ge10 w ↦ rw w.self-is (omega (arith, w.decimal.ensures.place, decimal_few))
      | else-n-ge10 w ↦ rw w.self-is (omega arith)
    ]

pub returns : goal.returns
returns t c =
    elim c.if-n-ge10.branch [
      | then-n-ge10 w ↦
          rw (decimal_more c.args.n w.if-n-ge10.true, ← c.last_digit.ensures) (puts_then w.decimal.ensures (rw w.self-is at c.byte.ensures))
      | else-n-ge10 w ↦ rw (decimal_one c.args.n w.if-n-ge10.false, ← c.last_digit.ensures) (rw w.self-is at c.byte.ensures)
    ]
