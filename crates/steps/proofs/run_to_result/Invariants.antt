-- `steps::run_to_result` meets its contract. The invariant: so many steps as were made led to here. The measure is what is left of them. Rests on Running.
use Prim.Native.Nat.{◌-◌, ◌≤◌}
use mathlib.Core.Path.{◌≡◌}
use lib.ListN.{length}
use Rattle.steps.specs.Running.{StepsTo}
use Rattle.steps.proofs.run_to_result.Given as goal

abbrev pub invariant-loop-x : goal.invariant-loop-x
invariant-loop-x l = (length l.work ≡ length l.initial.work) × (l.done ≤ l.left) × StepsTo l.run.program.rules.file.now l.run.program.rules.types.now l.run.program.rules.functions.now l.run.label l.run.store.at l.done l.initial.work l.initial.r l.work l.r

abbrev pub decreases-loop-x : goal.decreases-loop-x
decreases-loop-x l = l.left - l.done
