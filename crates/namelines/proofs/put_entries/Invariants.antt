-- `namelines::put_entries` meets its contract: each turn of the loop writes the lines of one entry, and goes on behind it.
-- Rests on Entries.
use mathlib.Core.Path.{◌≡◌}
use mathlib.Core.List.{map}
use Rattle.reach.specs.Places.{type_at}
use Rattle.namelines.specs.Rows.{types_asked}
use Rattle.namelines.specs.Lists.{list_names}
use Rattle.namelines.proofs.Entries.{NamesLeft}
use Rattle.namelines.proofs.put_entries.Given as goal

-- the rest of the list stands from the place reached on, and its names are still to be written
abbrev pub invariant-loop-entry : goal.invariant-loop-entry
invariant-loop-entry l =
    let each = l.entry-iterator in
    goal.iterator-loop-entry.can_next each × goal.iterator-loop-entry.is_finite each
    × (each.list.now ≡ l.values.list.now)
    × NamesLeft (map (type_at l.values.rules.file.now) l.values.rules.types.now) l.asked.named (types_asked l.values.rules.file.now l.asked) l.values.list.now l.initial.page
    (list_names (map (type_at l.values.rules.file.now) l.values.rules.types.now) l.asked.named (types_asked l.values.rules.file.now l.asked) l.values.list.now) l.page each.at
