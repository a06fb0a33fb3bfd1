-- `steps::run_to_result` meets its contract. The invariant: so many steps as were made led to here. The measure is what is left of them. Rests on Running.
use Prim.Native.Nat.{suc, ◌+◌}
use mathlib.Core.Path.{◌≡◌, refl}
use Rattle.registers.specs.declared.Next.TheVariants as Next
use Rattle.steps.specs.declared.Halt.TheVariants as Halt
use Rattle.steps.specs.Running.{no_step, one_more}
use Rattle.steps.proofs.Running.{looked_so, looked_stepped, ran}
use native.Mathlib.Omega.{arith}
use Rattle.std.proofs.Common.{rules}
use Rattle.steps.proofs.run_to_result.Goals as goal

pub loop-x-init : goal.loop-x-init
loop-x-init c = (refl, omega arith, no_step)

pub step-next-requires : goal.step-next-requires
step-next-requires c = record { standing = c.requires.onward _ _ _ c.loop-x.invariant.1 c.loop-x.invariant.2; ends = c.requires.ends }

pub returns-in-Demands : goal.returns-in-Demands
returns-in-Demands c =
    ran _ _ _ _ Halt.Demands c.loop-x.invariant.2 c.loop-x.invariant.1
    (looked_so _ _ _ _ Next.Demands c.step-next.ensures c.in-Demands.is)

pub returns-in-Lacks : goal.returns-in-Lacks
returns-in-Lacks c =
    ran _ _ _ _ Halt.Lacks c.loop-x.invariant.2 c.loop-x.invariant.1
    (looked_so _ _ _ _ Next.Lacks c.step-next.ensures c.in-Lacks.is)

pub returns-in-Stops : goal.returns-in-Stops
returns-in-Stops c =
    ran _ _ _ _ Halt.Stops c.loop-x.invariant.2 c.loop-x.invariant.1
    (looked_so _ _ _ _ Next.Stops c.step-next.ensures c.in-Stops.is)

pub returns-in-Waits : goal.returns-in-Waits
returns-in-Waits c =
    ran _ _ _ _ (Halt.Waits _) c.loop-x.invariant.2 c.loop-x.invariant.1
    (looked_so _ _ _ _ (Next.Waits _) c.step-next.ensures c.in-Waits.is)

pub returns-in-Goes : goal.returns-in-Goes
returns-in-Goes c =
    ran _ _ _ _ Halt.Spent c.loop-x.invariant.2 c.loop-x.invariant.1
    (_, looked_so _ _ _ _ (Next.Goes _) c.step-next.ensures c.in-Goes.is, omega arith)

pub loop-x-preserved : goal.loop-x-preserved
loop-x-preserved c = let one : c.loop-x.done + 1 ≡ suc c.loop-x.done = omega arith in
    (search rules, omega arith, rw one (one_more c.loop-x.invariant.2 (looked_stepped _ _ _ _ tt (looked_so _ _ _ _ (Next.Goes _) c.step-next.ensures c.in-Goes-2.is))))
