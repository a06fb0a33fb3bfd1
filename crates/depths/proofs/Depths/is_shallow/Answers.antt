-- `depths::Depths::is_shallow` meets its contract: its two tests are those of the definition. Rests on what `depth_of` ensures.
use mathlib.Core.Bool.{and-true}
use borrow.Author.Tests.{lt-ltb, le-ltb}
use Rattle.reach.specs.Types.{shallow}
use Rattle.depths.proofs.Depths.is_shallow.Goals as goal

pub returns-then-least-gt0 : goal.returns-then-least-gt0
unfolding shallow
returns-then-least-gt0 c = rw (and-true, ← c.depth_of-least.ensures.value, lt-ltb _ _ c.if-least-gt0.true)

pub returns-else-least-gt0 : goal.returns-else-least-gt0
unfolding shallow
returns-else-least-gt0 c = rw (and-true, ← c.depth_of-least.ensures.value, le-ltb _ _ c.if-least-gt0.false)
