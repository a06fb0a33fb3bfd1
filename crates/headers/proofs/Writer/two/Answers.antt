-- `headers::Writer::two` meets its contract: one byte behind the other. Rests on Bytes.
use native.Mathlib.Omega.{arith}
use Rattle.headers.proofs.Bytes.{writes_then, writes_length}
use Rattle.headers.proofs.Writer.two.Goals as goal

pub byte-requires-2 : goal.byte-requires-2
byte-requires-2 c = omega (arith, c.byte.ensures.place, writes_length c.byte.ensures)

pub returns : goal.returns
returns c = writes_then c.byte.ensures c.byte-2.ensures
