-- `cells::open_cells` meets its contract. The loop's invariant: the cells before the present one are open, with their types. Rests on Writing.
use Rattle.cells.proofs.Writing.{opens_next}
use Rattle.cells.proofs.open_cells.Goals as goal

pub loop-i-preserved : goal.loop-i-preserved
loop-i-preserved c =
    opens_next _ _ _ _ c.loop-i.invariant c.requires.0 c.loop-i-test.true c.byte_or_zero-t.ensures.value c.open_cell.ensures
