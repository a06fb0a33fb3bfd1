-- `skipping::Program::pass_alternatives` meets its contract. The loop's invariant: what is left to pass over leads where the whole does, and the place is at most
-- one higher for each alternative passed than the start or the highest entry. Rests on Finding.
use Prim.Native.Nat.{◌+◌, ◌-◌}
use mathlib.Core.Path.{◌≡◌, sym, ◌∙◌}
use native.Mathlib.Omega.{arith}
use Rattle.skipping.proofs.Finding.{alternatives_none, alternatives_more}
use Rattle.skipping.proofs.Program.pass_alternatives.Goals as goal

pub loop-preserved : goal.loop-preserved
loop-preserved c =
    let z : c.args.n - c.loop.counter - 1 ≡ c.args.n - (c.loop.counter + 1) = omega arith in
    (rw (← z, c.pass_alternative-place.ensures.value) (alternatives_more _ _ (c.args.n - c.loop.counter) _ (omega arith) ∙ c.loop.invariant.0), omega arith)

pub returns : goal.returns
returns c =
    record { value = sym (alternatives_none _ _ (c.args.n - c.loop.counter) _ (omega arith)) ∙ c.loop.invariant.0; near = omega arith }
