-- `unfolding::group_of` meets its contract. The loop's invariant: the group is on the walk outward, and no later a record than where the walk began. The
-- measure is the group's record: the one outside it is earlier. Rests on Walks.
use native.Mathlib.Omega.{arith}
use Rattle.registers.proofs.Walks.{walk_here, walk_outward, walk_less}
use Rattle.unfolding.proofs.group_of.Goals as goal

pub loop-store-init : goal.loop-store-init
loop-store-init c = (walk_here _ _ _ _, omega arith)

pub loop-store-smaller : goal.loop-store-smaller
loop-store-smaller c = walk_less _ _ _ _ _ c.requires.0 c.loop-store.invariant.0 c.word-group.ensures.0

pub loop-store-preserved : goal.loop-store-preserved
loop-store-preserved c = (
  walk_outward _ _ _ _ _ c.loop-store.invariant.0 c.outside_of.ensures c.loop-store-test.true c.word-group.ensures.0,
  omega (arith, walk_less _ _ _ _ _ c.requires.0 c.loop-store.invariant.0 c.word-group.ensures.0),
)

pub returns : goal.returns
returns c = record { outward = c.loop-store.invariant.0; inside = omega (arith, c.outside_of.ensures); no_later = c.loop-store.invariant.1 }
