-- `run_vectors::lay_often` is safe: what was laid down ends inside the input, and each turn lays down more.
use Prim.Native.Nat.{◌-◌}
use Rattle.std.proofs.Common.{◌≡◌, ◌≤◌, length}
use Rattle.run_vectors.proofs.lay_often.Given as goal

abbrev pub invariant-loop-at : goal.invariant-loop-at
invariant-loop-at l = (l.at ≤ l.size) × (length l.input ≡ length l.initial.input)

abbrev pub decreases-loop-at : goal.decreases-loop-at
decreases-loop-at l = l.size - l.at
