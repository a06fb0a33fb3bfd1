-- `expressions::View::extended` meets its contract. The loop's invariant: the view so far with the bytes still to come is the whole, and the counts
-- agree. Rests on Views.
use Prim.Native.Nat.{◌+◌, ◌-◌}
use mathlib.Core.Path.{◌≡◌}
use mathlib.Core.List.{◌++◌}
use Rattle.reach.specs.Places.{bytes_at}
use Rattle.expressions.specs.Readers.{view_of}
use Rattle.expressions.proofs.View.extended.Given as goal

abbrev pub invariant-loop-i : goal.invariant-loop-i
invariant-loop-i l = (view_of l.wider ++ bytes_at l.s (l.fields.at + l.i) (l.fields.count - l.i) ≡ view_of l.initial.wider ++ bytes_at l.s l.fields.at l.fields.count)
    × (l.wider.count ≡ l.initial.wider.count + l.i)
