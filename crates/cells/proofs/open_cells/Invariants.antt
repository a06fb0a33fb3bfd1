-- `cells::open_cells` meets its contract. The loop's invariant: the cells before the present one are open, with their types. Rests on Writing.
use Rattle.reach.specs.Types.{even_slots}
use Rattle.reach.specs.Places.{bytes_at}
use Rattle.cells.specs.Writes.{Opens}
use Rattle.cells.proofs.open_cells.Given as goal

abbrev pub invariant-loop-i : goal.invariant-loop-i
invariant-loop-i l = Opens l.initial.work l.work l.first l.i (even_slots (bytes_at l.file l.fields.at l.fields.count) l.room)
