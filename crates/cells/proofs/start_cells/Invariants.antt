-- `cells::start_cells` meets its contract. The loop's invariant: the cells before the present one are open, with their types and depths. The cells that are
-- made from cell 0 on stand for the input with every parameter open. Rests on Writing and Binding.
use Rattle.reach.specs.Types.{slots}
use Rattle.reach.specs.Places.{bytes_at}
use Rattle.cells.specs.Writes.{Opens}
use Rattle.cells.proofs.start_cells.Given as goal

abbrev pub invariant-loop-i : goal.invariant-loop-i
invariant-loop-i l = Opens l.initial.work l.work 0 l.i (slots (bytes_at l.file l.parameters.at l.parameters.count) l.depths)
