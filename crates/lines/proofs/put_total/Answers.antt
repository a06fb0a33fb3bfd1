-- `lines::put_total` meets its contract: the pieces stand in the definition's order.
-- Rests on Lines and crate writing's Digits.
use native.Mathlib.Omega.{arith}
use Rattle.writing.proofs.Digits.{decimal_few}
use Rattle.lines.proofs.Lines.{total_put, verdict_few}
use Rattle.lines.proofs.put_total.Goals as goal

pub number-requires-2 : goal.number-requires-2
number-requires-2 c = omega (arith, decimal_few)

pub number-requires-3 : goal.number-requires-3
number-requires-3 c = omega (arith, decimal_few)

pub number-requires-4 : goal.number-requires-4
number-requires-4 c = omega (arith, decimal_few)

pub put_verdict-requires : goal.put_verdict-requires
put_verdict-requires c = omega (arith, decimal_few)

pub byte-requires : goal.byte-requires
byte-requires c = omega (arith, decimal_few, verdict_few)

pub returns : goal.returns
returns c =
    total_put c.args.counts c.bytes.ensures c.number.ensures c.number-2.ensures c.number-3.ensures
    (rw c.share_of.ensures.value at c.number-4.ensures) c.put_verdict.ensures c.byte.ensures
