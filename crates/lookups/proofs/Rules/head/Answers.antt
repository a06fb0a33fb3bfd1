-- `lookups::Rules::head` meets its contract: the numbers of a function's record stand behind each other, from the place of the record on.
-- Rests on reach's Places.
use Rattle.reach.specs.Places.{head_at}
use Rattle.lookups.proofs.Rules.head.Goals as goal

pub returns-clause-result_value : goal.returns-clause-result_value
unfolding head_at
returns-clause-result_value c =
    rw (← c.place_or_zero-place.ensures.0, ← c.byte_or_zero-count.ensures.value, c.byte_or_zero.ensures.value, c.word_or_zero.ensures.value)
