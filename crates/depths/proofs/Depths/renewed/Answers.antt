-- `depths::Depths::renewed` meets its contract, case by case. Rests on what `depth_of` and `is_inhabited` ensure.
use borrow.Author.Tests.{lt-ltb, le-ltb}
use Rattle.depths.proofs.Depths.renewed.Goals as goal

pub returns-then-number-gt0 : goal.returns-then-number-gt0
returns-then-number-gt0 c = rw (← c.depth_of-number.ensures.value, lt-ltb _ _ c.if-number-gt0.true)

pub returns-then-is_inhabited : goal.returns-then-is_inhabited
returns-then-is_inhabited c =
    rw (← c.depth_of-number.ensures.value, le-ltb _ _ c.if-number-gt0.false, ← c.is_inhabited.ensures, c.if-is_inhabited.true)

pub returns-else-is_inhabited : goal.returns-else-is_inhabited
returns-else-is_inhabited c =
    rw (← c.depth_of-number.ensures.value, le-ltb _ _ c.if-number-gt0.false, ← c.is_inhabited.ensures, c.if-is_inhabited.false)
