-- `values::note_values` meets its contract. The loop's invariant: the places of the values before the present one are noted, and where the row is read and
-- one is left the present one stands at `place`. Rests on Noting.
use Prim.Native.Nat.{◌<◌}
use Rattle.reach.specs.Places.{bytes_at}
use Rattle.values.specs.Notes.{NotedFirst}
use Rattle.values.proofs.Noting.{Reached}
use Rattle.values.proofs.note_values.Given as goal

abbrev pub invariant-loop-i : goal.invariant-loop-i
invariant-loop-i l =
    let types = bytes_at l.rules.file.now l.fields.at l.fields.count in (
    NotedFirst l.rules.file.now l.rules.types.now l.input l.initial.work l.work l.first types l.at l.i
    × (l.i < l.fields.count → Reached l.rules.file.now l.rules.types.now l.input types l.at l.i l.place)
    )
