-- `outline::read_records` meets its contract. The invariant is Rows: the records that were read stand at the places kept, and the rest of the
-- whole is read from here on. The measure is the room that is left.
-- Rests on Rows.
use Prim.Native.Nat.{◌-◌}
use Rattle.outline.proofs.Rows.{Rows}
use Rattle.outline.proofs.read_records.Given as goal

abbrev pub invariant-loop-behind : goal.invariant-loop-behind
invariant-loop-behind g l =
    let k = g.K.Record.kind l.s in Rows k g.row.N (k.from (g.row.N - 1) l.first) l.table.places l.table.count l.at

abbrev pub decreases-loop-behind : goal.decreases-loop-behind
decreases-loop-behind g l = g.row.N - l.table.count
