-- `namelines::put_entry` meets its contract: each turn of the loop writes the line of one parameter, if it is a name, and passes over it.
-- Rests on Onward.
use Prim.Native.Nat.{◌+◌, ◌-◌}
use mathlib.Core.List.{map}
use Rattle.reach.specs.Places.{bytes_at, type_at}
use Rattle.namelines.specs.Rows.{row_names, row_read, types_asked}
use Rattle.namelines.proofs.Onward.{Onward}
use Rattle.namelines.proofs.put_entry.Given as goal

-- the rest of the row stands from the place reached on, and its names are still to be written; the types of the rest stand in the file from `field` on
abbrev pub invariant-loop-field : goal.invariant-loop-field
invariant-loop-field l = Onward (map (type_at l.values.rules.file.now) l.values.rules.types.now) l.asked.named l.values.list.now l.initial.page
    (row_names (map (type_at l.values.rules.file.now) l.values.rules.types.now) l.asked.named (types_asked l.values.rules.file.now l.asked) (row_read (map (type_at l.values.rules.file.now) l.values.rules.types.now) (types_asked l.values.rules.file.now l.asked) l.values.list.now l.at))
    (bytes_at l.values.rules.file.now l.field (l.asked.parameters.at + l.asked.parameters.count - l.field)) l.page l.place
