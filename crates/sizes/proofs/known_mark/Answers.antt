-- `sizes::known_mark` meets its contract: a kind was found or not.
-- Rests on Standing and `kind_of`.
use mathlib.Core.Path.{◌∙◌}
use Rattle.reach.specs.Lists.{known_mark}
use Rattle.sizes.proofs.Standing.{found_some}
use Rattle.sizes.proofs.known_mark.Goals as goal

pub returns : goal.returns
unfolding known_mark
returns c = rw (← c.kind_of.ensures) (c.is_some.ensures ∙ found_some _)
