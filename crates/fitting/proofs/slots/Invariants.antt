-- `fitting::slots` meets its contract: each turn of the loop reads one value. Rests on Fitting and on rows' Rows.
use Prim.Native.Nat.{◌+◌, ◌-◌}
use mathlib.Core.Path.{◌≡◌}
use lib.ListN.{drop}
use Rattle.reach.specs.Places.{bytes_at}
use Rattle.rows.specs.Values.{of_row, slots_at, table_of}
use Rattle.rows.specs.Stack.{joined}
use Rattle.fitting.proofs.slots.Given as goal

-- what is left of the row, from the place reached and this deep, comes to what all of it comes to
abbrev pub invariant-loop-i : goal.invariant-loop-i
invariant-loop-i l =
    let v = l.values in
    joined l.deep (of_row (slots_at v.rules.file.now v.rules.types.now (table_of v.least) (drop l.i l.depths) (bytes_at v.rules.file.now (l.fields.at + l.i) (l.fields.count - l.i)) v.list.now l.next))
    ≡ of_row (slots_at v.rules.file.now v.rules.types.now (table_of v.least) l.depths (bytes_at v.rules.file.now l.fields.at l.fields.count) v.list.now l.at)
