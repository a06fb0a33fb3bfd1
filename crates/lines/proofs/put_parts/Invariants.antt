-- `lines::put_parts` meets its contract. The invariant: what is left of the parameters gives what all of them give, and no byte takes more
-- than 257 bytes of text.
-- Rests on Writing and Lines.
use Prim.Native.Nat.{◌+◌, ◌*◌, ◌≤◌}
use mathlib.Core.List.{map}
use lib.ListN.{drop}
use Rattle.lists.specs.Text.{spaced, part_word}
use Rattle.writing.proofs.Writing.{Left}
use Rattle.lines.proofs.put_parts.Given as goal

abbrev pub invariant-loop-b : goal.invariant-loop-b
invariant-loop-b l = (l.page.at ≤ l.initial.page.at + 257 * l.b-index)
    × Left l.initial.page (spaced (map part_word l.parameters)) l.page (spaced (map part_word (drop l.b-index l.parameters)))
