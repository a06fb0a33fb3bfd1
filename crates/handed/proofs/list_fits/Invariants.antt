-- `handed::list_fits` meets its contract: the entries one behind the other, up to the end of the list. Rests on Lists.
use Prim.Native.Nat.{ℕ, ◌+◌, ◌≤◌}
use mathlib.Core.Path.{◌≡◌}
use lib.ListN.{length}
use Rattle.reach.specs.Syntax.{Program}
use Rattle.lists.specs.Handed.{entry, entries_by}
use Rattle.handed.specs.Fits.{AcceptedTables}
use Rattle.handed.proofs.Lists.{found}
use Rattle.handed.proofs.list_fits.Given as goal

-- what is left of the list, from the place reached, is read as all of it is
abbrev pub invariant-loop-entry : goal.invariant-loop-entry
invariant-loop-entry l =
    let each = l.entry-iterator in
    goal.iterator-loop-entry.can_next each × goal.iterator-loop-entry.is_finite each
    × (each.list.now ≡ l.list) × (each.at ≡ l.at)
    × ((more : ℕ) × (length l.list ≤ l.at + more)
    × ((p : Program) → AcceptedTables l.rules.file.now l.rules.types.now l.rules.functions.now l.fn.least.of l.goal.source l.goal.depths l.goal.steps p → found (entries_by (entry p) more l.list l.at) ≡ found (entries_by (entry p) (length l.list) l.list 0)))
