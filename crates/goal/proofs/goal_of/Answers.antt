-- `goal::goal_of` meets its contract: the bytes of the goal's record, of which the last two make one number, and the one before them is the depth of all
-- parameters. Where a place is too high for a number, it is past the end. Rests on the answers of crate marks.
use Prim.Native.Nat.{◌+◌, ◌≤◌}
use lib.ListN.{length}
use Rattle.std.proofs.Common.{rules}
use Rattle.reach.specs.Places.{goal_at}
use Rattle.marks.proofs.Answers.{byte_far, word_far}
use Rattle.goal.proofs.goal_of.Goals as goal

pub returns : goal.returns
unfolding goal_at
returns c =
    let s = c.args.file.now in
    let at = c.args.at in
    let short : length s ≤ 9223372036854775807 = search rules in
    rw (
      ← (byte_far s (at + 1) short c.saturating_add-2.ensures),
      ← (byte_far s (at + 2) short c.saturating_add.ensures),
      ← (word_far s (at + 3) short c.saturating_add-3.ensures),
      c.byte_or_zero.ensures.value,
      c.byte_or_zero-2.ensures.value,
      c.byte_or_zero-depth.ensures.value,
      c.word_or_zero.ensures.value,
    )
