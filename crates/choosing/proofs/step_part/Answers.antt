-- `choosing::step_part` meets its contract: a case looks at the part, or it is a result, which is left alone.
use mathlib.Core.Path.{refl}
use Rattle.registers.specs.Stepping.{a_part, at_result}
use Rattle.choosing.proofs.step_part.Goals as goal

pub returns-then-r-ge-NO_CASE : goal.returns-then-r-ge-NO_CASE
returns-then-r-ge-NO_CASE c = λ functions label filled. at_result refl (a_part c.requires.1 c.if-r-ge-NO_CASE.true)

pub returns : goal.returns
returns c = λ functions label filled. c.inspect.ensures functions label filled
