-- `depths::Depths::least` meets its contract. The loop's invariant: the array is the one after the rounds made. A round that changes nothing, or the
-- last, leaves the least depths. Rests on Rounds.
use mathlib.Core.Path.{◌≡◌}
use Rattle.depths.specs.Table.{array_after}
use Rattle.depths.proofs.Depths.least.Given as goal

abbrev pub invariant-loop-made : goal.invariant-loop-made
invariant-loop-made l = l.table.of ≡ array_after l.rules.file.now l.rules.types.now l.made
