-- `sizes::kind_of` meets its contract: the marks are tried in the definition's order.
-- Rests on `is_mark` of crate marks.
use Rattle.std.proofs.Common.{rules}
use Rattle.reach.specs.Lists.{kind_bytes, is_mark, kind_of}
use Rattle.sizes.proofs.kind_of.Goals as goal

pub returns-then-is_mark : goal.returns-then-is_mark
unfolding kind_bytes is_mark kind_of
returns-then-is_mark c = search rules

pub returns-then-is_mark-2 : goal.returns-then-is_mark-2
unfolding kind_bytes is_mark kind_of
returns-then-is_mark-2 c = search rules

pub returns-then-is_mark-3 : goal.returns-then-is_mark-3
unfolding kind_bytes is_mark kind_of
returns-then-is_mark-3 c = search rules

pub returns : goal.returns
unfolding kind_bytes is_mark kind_of
returns c = search rules
