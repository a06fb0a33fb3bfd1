-- `depths::Depths::next_round` meets its contract. The loop's invariant: the numbers before type t are those after the round, the others as before.
-- Rests on Rounds.
use Prim.Native.Nat.{◌+◌}
use mathlib.Core.Path.{◌≡◌}
use Rattle.depths.specs.Table.{array_after}
use Rattle.depths.proofs.Rounds.{written_to}
use Rattle.depths.proofs.Depths.next_round.Given as goal

abbrev pub invariant-loop-t : goal.invariant-loop-t
invariant-loop-t l = l.table.of ≡ written_to l.t (array_after l.rules.file.now l.rules.types.now (l.made + 1)) l.self.of
