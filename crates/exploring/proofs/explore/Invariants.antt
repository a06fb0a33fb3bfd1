-- `exploring::explore` meets its contract. The invariant: from the beginning the search came to here, and the entries listed and still to come are the
-- program's list. The measure is the weight of where it stands. Rests on Exploring.
use mathlib.Core.Path.{◌≡◌}
use lib.ListN.{length}
use Rattle.headers.specs.Writes.{Kept}
use Rattle.arriving.specs.Moving.{walk_weight}
use Rattle.exploring.proofs.Exploring.{CameIn}
use Rattle.exploring.proofs.explore.Given as goal

abbrev pub invariant-loop-walk : goal.invariant-loop-walk
invariant-loop-walk l = (length l.work ≡ length l.initial.work) × Kept l.initial.writer l.writer × CameIn l.search l.parameters l.initial.work l.initial.writer.list.now l.initial.walk l.work l.walk l.writer.list.now l.writer.at l.verdict

abbrev pub decreases-loop-walk : goal.decreases-loop-walk
decreases-loop-walk l = walk_weight l.search.stack.at l.search.limit l.work l.walk
