-- `cells::open_cell` meets its contract: its three stores are those of `open_cell`.
-- Rests on specs/Writes.
use mathlib.Core.Path.{refl}
use Rattle.cells.specs.Writes.{open_cell}
use Rattle.cells.proofs.open_cell.Goals as goal

pub returns : goal.returns
unfolding open_cell
returns c = refl
