-- `unfolding::group_of` meets its contract. The loop's invariant: the group is on the walk outward, and no later a record than where the walk began. The
-- measure is the group's record: the one outside it is earlier. Rests on Walks.
use Prim.Native.Nat.{◌≤◌}
use Rattle.registers.specs.Stepping.{Outward}
use Rattle.unfolding.proofs.group_of.Given as goal

abbrev pub invariant-loop-store : goal.invariant-loop-store
invariant-loop-store l = Outward l.work l.store.at l.n l.env l.group × (l.group ≤ l.env)

abbrev pub decreases-loop-store : goal.decreases-loop-store
decreases-loop-store l = l.group
