-- `typerecord::skip_constructors` meets its contract: each turn of the loop reads one constructor more. Rests on Passing.
use Prim.Native.Nat.{◌+◌, ◌-◌}
use mathlib.Core.Path.{◌≡◌, sym, ◌∙◌}
use native.Mathlib.Omega.{arith}
use Rattle.reach.specs.RuleFile.{constructor_record}
use Rattle.marks.proofs.Answers.{handed_on}
use Rattle.typerecord.proofs.Passing.{times_done, times_next, times_stops}
use Rattle.typerecord.proofs.skip_constructors.Goals as goal

pub returns-in_err-place : goal.returns-in_err-place
returns-in_err-place c =
    handed_on _ c.from_residual.ensures
    ∙ sym (times_stops constructor_record _ _ _ (omega arith) (sym c.in_err-place.ensures))
    ∙ c.loop.invariant

pub loop-preserved : goal.loop-preserved
loop-preserved c =
    let left : c.args.n - c.loop.counter - 1 ≡ c.args.n - (c.loop.counter + 1) = omega arith in
    rw (← left) (sym (times_next constructor_record _ _ _ (omega arith) (sym c.in_ok-place.ensures)) ∙ c.loop.invariant)

pub returns : goal.returns
returns c = sym (times_done constructor_record _ _ _ (omega arith)) ∙ c.loop.invariant
