-- `steps::run_on` meets its contract. The invariant: so many steps as were made led to here. The measure is what is left of them. Rests on Running.
use Prim.Native.Nat.{suc, ◌+◌}
use mathlib.Core.Path.{◌≡◌, refl, ap}
use Rattle.registers.specs.declared.Next.TheVariants as Next
use Rattle.steps.specs.declared.Halt.TheVariants as Halt
use Rattle.turning.specs.Turning.{turned}
use Rattle.steps.specs.Running.{no_step, one_more}
use Rattle.steps.proofs.Running.{stepped_so, onward_from, ran_behind, at_a_result, ran}
use native.Mathlib.Omega.{arith}
use mir.Facts.{Fits-le}
use Rattle.std.proofs.Common.{rules}
use Rattle.steps.proofs.run_on.Goals as goal

pub loop-here-init : goal.loop-here-init
loop-here-init c = (refl, omega arith, no_step)

pub run_to_result-ran-requires : goal.run_to_result-ran-requires
run_to_result-ran-requires c =
    record { onward = onward_from _ _ _ _ c.requires.onward c.loop-here.invariant.1 c.loop-here.invariant.2; ends = c.requires.ends }

pub overflow_add-done : goal.overflow_add-done
overflow_add-done c = Fits-le (omega (arith, c.loop-here.invariant.1, c.run_to_result-ran.ensures.no_more)) c.ranges.left

pub returns-in_default : goal.returns-in_default
returns-in_default c = ran_behind _ _ _ _ c.run_to_result-ran.result c.loop-here.invariant.2 c.loop-here.invariant.1 c.run_to_result-ran.ensures c.in_default.not-Stops

pub step_result-requires : goal.step_result-requires
step_result-requires c = let (led, most, result) = at_a_result _ _ _ _ c.run_to_result-ran.result c.loop-here.invariant.2 c.loop-here.invariant.1 c.run_to_result-ran.ensures c.in-Stops.is in
    ((c.args.run.now.program.rules.functions.now, c.requires.onward _ _ _ most led), result)

pub returns-in_default-step_result : goal.returns-in_default-step_result
returns-in_default-step_result c = let (led, most, result) = at_a_result _ _ _ _ c.run_to_result-ran.result c.loop-here.invariant.2 c.loop-here.invariant.1 c.run_to_result-ran.ensures c.in-Stops.is in
    rw c.in-Stops.is (ran _ _ _ _ Halt.Stops led most (stepped_so _ _ _ _ Next.Stops (c.step_result.ensures c.args.run.now.program.rules.functions.now c.args.run.now.label c.requires.ends) (ap turned c.in_default-step_result.is)))

pub returns-then-done-left : goal.returns-then-done-left
returns-then-done-left c = let (led, most, result) = at_a_result _ _ _ _ c.run_to_result-ran.result c.loop-here.invariant.2 c.loop-here.invariant.1 c.run_to_result-ran.ensures c.in-Stops.is in
    ran _ _ _ _ Halt.Spent led most (_, stepped_so _ _ _ _ (Next.Goes _) (c.step_result.ensures c.args.run.now.program.rules.functions.now c.args.run.now.label c.requires.ends) (ap turned c.in-Some.is), omega (arith, c.if-done-left.true))

pub overflow_add-done-in-loop-here : goal.overflow_add-done-in-loop-here
overflow_add-done-in-loop-here c = Fits-le (omega (arith, c.loop-here.invariant.1, c.run_to_result-ran.ensures.no_more, c.if-done-left.false)) c.ranges.left

pub loop-here-smaller : goal.loop-here-smaller
loop-here-smaller c = omega (arith, c.loop-here.invariant.1, c.run_to_result-ran.ensures.no_more, c.if-done-left.false)

pub loop-here-preserved : goal.loop-here-preserved
loop-here-preserved c = let (led, most, result) = at_a_result _ _ _ _ c.run_to_result-ran.result c.loop-here.invariant.2 c.loop-here.invariant.1 c.run_to_result-ran.ensures c.in-Stops.is in
    let one : c.loop-here.done + c.run_to_result-ran.result.steps + 1 ≡ suc (c.loop-here.done + c.run_to_result-ran.result.steps) = omega arith in
    (search rules, omega (arith, most, c.if-done-left.false), rw one (one_more led (stepped_so _ _ _ _ (Next.Goes _) (c.step_result.ensures c.args.run.now.program.rules.functions.now c.args.run.now.label c.requires.ends) (ap turned c.in-Some.is))))
