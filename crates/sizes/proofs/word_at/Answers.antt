-- `sizes::word_at` meets its contract: two bytes, the low byte first. Rests on reach's Places.
use Rattle.std.proofs.Common.{rules}
use Rattle.reach.specs.Places.{word_at}
use Rattle.sizes.proofs.word_at.Goals as goal

pub returns : goal.returns
unfolding word_at
returns c = search rules
