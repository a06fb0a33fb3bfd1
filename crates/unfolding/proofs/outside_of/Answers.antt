-- `unfolding::outside_of` meets its contract: word 1 of the record that word 0 names.
use mathlib.Core.Path.{◌∙◌}
use Rattle.unfolding.proofs.outside_of.Goals as goal

pub returns : goal.returns
returns c = c.word-2.ensures.0 ∙ rw c.word.ensures.0
