-- `partials::row_values` meets its contract: the loop's invariant is Frames' Reading, that the row and the stack come to what the whole row comes to.
-- The measure: each turn takes a byte of the list, or takes a row off the stack. Rests on Frames.
use Prim.Native.Nat.{◌+◌, ◌-◌, ◌*◌}
use lib.ListN.{length}
use Rattle.rows.specs.Stack.{of_rest}
use Rattle.partials.proofs.Frames.{Reading}
use Rattle.rows.specs.Values.{table_of}
use Rattle.partials.proofs.row_values.Given as goal

abbrev pub invariant-loop-top : goal.invariant-loop-top
invariant-loop-top l = let v = l.values in Reading v.rules.file.now v.rules.types.now (table_of v.least) v.list.now l.levels l.stack l.top l.row l.next (of_rest v.rules.file.now v.rules.types.now (table_of v.least) l.levels v.list.now l.at l.initial.row)

abbrev pub decreases-loop-top : goal.decreases-loop-top
decreases-loop-top l = 2 * (length l.values.list.now - l.next) + l.top
