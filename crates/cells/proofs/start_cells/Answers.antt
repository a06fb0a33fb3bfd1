-- `cells::start_cells` meets its contract. The loop's invariant: the cells before the present one are open, with their types and depths. The cells that are
-- made from cell 0 on stand for the input with every parameter open. Rests on Writing and Binding.
use mathlib.Core.Path.{◌≡◌}
use native.Mathlib.Omega.{arith}
use Rattle.cells.proofs.Writing.{starts_next}
use Rattle.cells.proofs.Binding.{starts}
use Rattle.cells.proofs.start_cells.Goals as goal

pub loop-i-preserved : goal.loop-i-preserved
loop-i-preserved c =
    starts_next _ _ _ _ c.loop-i.invariant c.requires c.loop-i-test.true c.byte_or_zero-t.ensures.value c.depth_at.ensures.value c.open_cell.ensures

pub returns : goal.returns
returns c =
    let all : c.loop-i.i ≡ c.args.parameters.count = omega arith in
    starts c.requires (rw all at c.loop-i.invariant)
