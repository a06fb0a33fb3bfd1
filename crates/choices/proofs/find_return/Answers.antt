-- `choices::find_return` meets its contract. Rests on Returning.
use mathlib.Core.Path.{refl, ◌∙◌}
use Rattle.choices.proofs.Returning.{came_first, came_bounds, came_nowhere, drops, leads}
use native.Mathlib.Omega.{arith}
use Rattle.choices.proofs.find_return.Goals as goal

pub loop-h-init : goal.loop-h-init
loop-h-init c =
    let f = c.args.rules.now in
    (refl, came_first f.file.now f.types.now c.args.least.of c.args.work.now c.args.stack.at c.args.height)

pub candidate-requires : goal.candidate-requires
candidate-requires c =
    let f = c.args.rules.now in
    let b = came_bounds f.file.now f.types.now c.args.least.of c.args.work.now c.args.stack.at c.args.height c.loop-h.work c.loop-h.h c.loop-h.invariant.1 c.requires (omega arith) in
    (b.1, b.2)

pub returns-in-Some : goal.returns-in-Some
returns-in-Some c =
    let f = c.args.rules.now in
    leads f.file.now f.types.now c.args.least.of c.args.work.now c.args.stack.at c.args.height c.loop-h.work c.loop-h.h c.loop-h.invariant.1 c.candidate.ensures (omega arith) c.in-Some.is c.loop-h.invariant.0

pub reopen-requires : goal.reopen-requires
reopen-requires c =
    let f = c.args.rules.now in
    let b = came_bounds f.file.now f.types.now c.args.least.of c.args.work.now c.args.stack.at c.args.height c.loop-h.work c.loop-h.h c.loop-h.invariant.1 c.requires (omega arith) in
    (b.1, b.3)

pub loop-h-preserved : goal.loop-h-preserved
loop-h-preserved c =
    let f = c.args.rules.now in
    (c.reopen.auto.work ∙ c.loop-h.invariant.0, drops f.file.now f.types.now c.args.least.of c.args.work.now c.args.stack.at c.args.height c.loop-h.work c.loop-h.h c.loop-h.invariant.1 c.candidate.ensures (omega arith) c.in_default.is c.reopen.ensures)

pub returns : goal.returns
returns c =
    let f = c.args.rules.now in
    came_nowhere f.file.now f.types.now c.args.least.of c.args.work.now c.args.stack.at c.args.height c.loop-h.work c.loop-h.h c.loop-h.invariant.1 (omega arith) c.loop-h.invariant.0
