-- `lines::put_refusal` meets its contract: the pieces stand in the definition's order.
-- Rests on Lines and crate writing's Digits, and on reach's Words.
use native.Mathlib.Omega.{arith}
use Rattle.reach.proofs.Words.{number_byte}
use Rattle.writing.proofs.Digits.{decimal_few}
use Rattle.lines.proofs.Lines.{refusal_put}
use Rattle.lines.proofs.put_refusal.Goals as goal

pub byte-requires : goal.byte-requires
byte-requires c = omega (arith, decimal_few, number_byte)

pub returns : goal.returns
returns c = refusal_put c.args.why c.bytes.ensures (rw c.number.ensures at c.number-2.ensures) c.byte.ensures
