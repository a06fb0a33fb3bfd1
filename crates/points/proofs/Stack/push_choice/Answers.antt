-- `points::Stack::push_choice` meets its contract: six stores are the choice point that Writing speaks of.
use lib.ListN.{length-set}
use Rattle.points.proofs.Writing.{pushed}
use native.Mathlib.Omega.{arith}
use Rattle.points.proofs.Stack.push_choice.Goals as goal

pub bounds-work-at-2 : goal.bounds-work-at-2
bounds-work-at-2 c = simp length-set (omega arith)

pub bounds-work-at-3 : goal.bounds-work-at-3
bounds-work-at-3 c = simp length-set (omega arith)

pub bounds-work-at-4 : goal.bounds-work-at-4
bounds-work-at-4 c = simp length-set (omega arith)

pub bounds-work-at-5 : goal.bounds-work-at-5
bounds-work-at-5 c = simp length-set (omega arith)

pub bounds-work-at-6 : goal.bounds-work-at-6
bounds-work-at-6 c = simp length-set (omega arith)

pub shape_of-work : goal.shape_of-work
shape_of-work c = simp length-set

pub returns : goal.returns
returns c =
    let choice = c.args.choice in
    pushed c.args.work.now c.args.self.at c.args.h choice.cell choice.frame choice.records choice.cells choice.done c.cell_word-first.ensures.0 c.narrow.ensures c.narrow-2.ensures c.narrow-3.ensures c.narrow-4.ensures c.narrow-5.ensures c.narrow-6.ensures c.requires.h_in_bounds.0
