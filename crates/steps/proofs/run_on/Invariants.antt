-- `steps::run_on` meets its contract. The invariant: so many steps as were made led to here. The measure is what is left of them. Rests on Running.
use Prim.Native.Nat.{◌-◌, ◌≤◌}
use mathlib.Core.Path.{◌≡◌}
use lib.ListN.{length}
use Rattle.steps.specs.Running.{StepsTo}
use Rattle.steps.proofs.run_on.Given as goal

abbrev pub invariant-loop-here : goal.invariant-loop-here
invariant-loop-here l = (length l.work ≡ length l.initial.work) × (l.done ≤ l.left) × StepsTo l.run.program.rules.file.now l.run.program.rules.types.now l.run.program.rules.functions.now l.run.label l.run.store.at l.done l.initial.work l.initial.r l.work l.r

abbrev pub decreases-loop-here : goal.decreases-loop-here
decreases-loop-here l = l.left - l.done
