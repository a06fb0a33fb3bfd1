-- `running::go_on` meets its contract. The invariant: from the beginning the run came to here. The measure is the steps left: each turn makes at least one.
-- Rests on Looping.
use Prim.Native.Nat.{◌≤◌, ◌-◌}
use Rattle.running.specs.Running.{LedTo}
use Rattle.running.proofs.go_on.Given as goal

abbrev pub invariant-loop-x : goal.invariant-loop-x
invariant-loop-x l =
    let rules = l.run.program.rules in
    (l.done ≤ l.limit)
    × LedTo rules.file.now rules.types.now rules.functions.now l.input l.run.label l.limit l.initial.work l.run.store.at l.first l.fn.from l.work l.at.cells l.done l.at.registers

abbrev pub decreases-loop-x : goal.decreases-loop-x
decreases-loop-x l = l.limit - l.done
