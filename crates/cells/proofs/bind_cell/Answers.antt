-- `cells::bind_cell` meets its contract: the head and the first field's cell are written, and `open_cells` makes the fields, one less deep.
-- Rests on Writing.
use native.Mathlib.Omega.{arith}
use Rattle.cells.proofs.Writing.{binds}
use Rattle.cells.proofs.bind_cell.Goals as goal

pub returns : goal.returns
returns c = binds c.requires.0 c.requires.1 (omega arith) c.open_cells.ensures
