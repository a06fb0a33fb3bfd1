-- `skipping::fill_ends` meets its contract. The loop's invariant: the entries from the place on are filled. Rests on Filling.
use Prim.Native.Nat.{◌+◌, ◌-◌}
use mathlib.Core.Path.{◌≡◌}
use native.Mathlib.Omega.{arith}
use Rattle.skipping.proofs.Filling.{none_filled, one_filled, all_filled}
use Rattle.skipping.proofs.fill_ends.Goals as goal

pub loop-at-init : goal.loop-at-init
loop-at-init c = none_filled _ _ _ c.args.ends.now

pub end_of-requires : goal.end_of-requires
end_of-requires c =
    let z : c.loop-at.at - 1 + 1 ≡ c.loop-at.at = omega arith in
    (rw z c.loop-at.invariant, omega arith)

pub loop-at-preserved : goal.loop-at-preserved
loop-at-preserved c =
    let z : c.loop-at.at - 1 + 1 ≡ c.loop-at.at = omega arith in
    one_filled _ _ _ c.loop-at.ends (c.loop-at.at - 1) _ _ (rw z c.loop-at.invariant) (omega arith) (omega arith) c.end_of.ensures c.entry_of.ensures

pub returns : goal.returns
returns c =
    let z : c.loop-at.at ≡ 0 = omega arith in
    all_filled _ _ _ c.loop-at.ends (rw z at c.loop-at.invariant)
