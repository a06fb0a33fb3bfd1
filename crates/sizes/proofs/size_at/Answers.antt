-- `sizes::size_at` meets its contract: the code tries the three tests of the definition in its order, a whole header, a known mark, and a
-- length inside the list.
-- Rests on `known_mark` and `word_at`.
use Rattle.std.proofs.Common.{rules, tests}
use Rattle.reach.specs.Lists.{entry_size}
use Rattle.sizes.proofs.size_at.Goals as goal

pub returns-then-list-at-lt6 : goal.returns-then-list-at-lt6
unfolding entry_size
returns-then-list-at-lt6 c = search (rules, tests)

pub returns-then-not-known_mark : goal.returns-then-not-known_mark
unfolding entry_size
returns-then-not-known_mark c = search (rules, tests)

pub returns-then-list-at : goal.returns-then-list-at
unfolding entry_size
returns-then-list-at c = search (rules, tests)

pub returns : goal.returns
unfolding entry_size
returns c = search (rules, tests)
