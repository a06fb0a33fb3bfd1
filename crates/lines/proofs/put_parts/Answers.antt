-- `lines::put_parts` meets its contract. The invariant: what is left of the parameters gives what all of them give, and no byte takes more
-- than 257 bytes of text.
-- Rests on Lines.
use native.Mathlib.Omega.{arith}
use lib.ListN.{get_or}
use Rattle.lines.proofs.Lines.{parts_next, parts_done, part_end}
use Rattle.lines.proofs.put_parts.Goals as goal

pub loop-b-preserved : goal.loop-b-preserved
loop-b-preserved c = (
  omega (arith, part_end (get_or c.args.parameters.now c.loop-b.b-index 0) (omega (arith, c.type_inv.parameters c.loop-b.b-index)) c.put_part.ensures),
  parts_next c.args.parameters.now c.loop-b.b-index c.loop-b.invariant.1 (omega arith) c.put_part.ensures,
)

pub returns-clause-put : goal.returns-clause-put
returns-clause-put c = parts_done c.args.parameters.now c.loop-b.b-index c.loop-b.invariant.1 (omega arith)
