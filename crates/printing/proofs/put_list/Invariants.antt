-- `printing::put_list` meets its contract. The invariant: what is left of the text, from a place inside the list and with the counts so far,
-- gives what the whole gives.
-- Rests on Walk and on writing's Writing.
use Prim.Native.Nat.{ℕ, ◌+◌, ◌*◌, ◌≤◌}
use mathlib.Core.Path.{◌≡◌}
use lib.ListN.{length}
use Rattle.reach.specs.Lists.{decoded_from}
use Rattle.lists.specs.Text.{text_of}
use Rattle.lines.specs.Counting.{Few}
use Rattle.writing.proofs.Writing.{Left}
use Rattle.printing.proofs.Walk.{text_from}
use Rattle.printing.proofs.put_list.Given as goal

abbrev pub invariant-loop-entry : goal.invariant-loop-entry
invariant-loop-entry l =
    let each = l.entry-iterator in
    goal.iterator-loop-entry.can_next each × goal.iterator-loop-entry.is_finite each
    × (each.list.now ≡ l.list)
    × ((more : ℕ) × (length l.list ≤ each.at + more) × Few l.counts each.at × (l.page.at ≤ 70000 * each.at)
    × Left l.initial.page (text_of l.full (decoded_from (length l.list) l.list 0)) l.page (text_from l.full l.counts (decoded_from more l.list each.at)))
