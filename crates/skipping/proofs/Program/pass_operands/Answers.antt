-- `skipping::Program::pass_operands` meets its contract. The loop's invariant: what is left to pass over leads where the whole does. Rests on Finding.
use Prim.Native.Nat.{◌+◌, ◌-◌}
use mathlib.Core.Path.{◌≡◌, sym, ◌∙◌}
use native.Mathlib.Omega.{arith}
use Rattle.skipping.proofs.Finding.{operands_none, operands_more}
use Rattle.skipping.proofs.Program.pass_operands.Goals as goal

pub loop-preserved : goal.loop-preserved
loop-preserved c =
    let z : c.args.n - c.loop.counter - 1 ≡ c.args.n - (c.loop.counter + 1) = omega arith in
    rw (← z, c.end-place.ensures.0) (operands_more _ (c.args.n - c.loop.counter) _ (omega arith) ∙ c.loop.invariant)

pub returns : goal.returns
returns c = sym (operands_none _ (c.args.n - c.loop.counter) _ (omega arith)) ∙ c.loop.invariant
