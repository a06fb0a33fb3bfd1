-- `sizes::kind_at` meets its contract: the kind that was found, or the definition's other answer.
-- Rests on Standing and `kind_of`.
use mathlib.Core.Path.{◌∙◌}
use Rattle.reach.specs.declared.Kind.TheVariants.{UN}
use Rattle.reach.specs.Lists.{kind_at}
use Rattle.sizes.proofs.Standing.{found_or}
use Rattle.sizes.proofs.kind_at.Goals as goal

pub returns : goal.returns
unfolding kind_at
returns c = rw (← c.kind_of.ensures) (c.unwrap_or.ensures ∙ found_or UN c.kind_of.result)
