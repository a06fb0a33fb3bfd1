-- `machine::Store::put` meets its contract: four stores are the record that Words speaks of.
use native.Mathlib.Omega.{arith}
use lib.ListN.{length-set}
use Rattle.machine.proofs.Words.{wrote}
use Rattle.machine.proofs.Store.put.Goals as goal

pub bounds-work-at-2 : goal.bounds-work-at-2
bounds-work-at-2 c = simp length-set (omega arith)

pub bounds-work-at-3 : goal.bounds-work-at-3
bounds-work-at-3 c = simp length-set (omega arith)

pub bounds-work-at-4 : goal.bounds-work-at-4
bounds-work-at-4 c = simp length-set (omega arith)

pub returns : goal.returns
returns c =
    wrote c.args.work.now c.args.self.at c.args.top c.narrow.ensures c.narrow-2.ensures c.narrow-3.ensures c.narrow-4.ensures c.requires.top_in_bounds
