-- `marks::word_or_zero` meets its contract. Rests on Answers.
use Prim.Native.Nat.{◌+◌}
use Rattle.std.proofs.Common.{rules}
use Rattle.reach.specs.Places.{word_at}
use Rattle.marks.proofs.Answers.{byte_far}
use Rattle.marks.proofs.word_or_zero.Goals as goal

pub returns-clause-value : goal.returns-clause-value
unfolding word_at
returns-clause-value c =
    rw (← (byte_far c.args.s.now (c.args.at + 1) (search rules) c.saturating_add.ensures), c.byte_or_zero.ensures.value, c.byte_or_zero-2.ensures.value)
