-- `choosing::alternative_at` meets its contract: a byte 0 where the alternatives before it end, or another. Rests on Walks.
use mathlib.Core.Path.{sym, ◌∙◌}
use Rattle.registers.proofs.Walks.{found_absent, found_present}
use Rattle.choosing.proofs.alternative_at.Goals as goal

pub returns-then-byte_or_zero-eq0 : goal.returns-then-byte_or_zero-eq0
returns-then-byte_or_zero-eq0 c = λ types functions filled.
    found_absent _ types functions _ filled c.args.at c.args.c c.pass_alternatives-place.ensures.value (sym c.byte_or_zero.ensures.value ∙ c.if-byte_or_zero-eq0.true)

pub returns-else-byte_or_zero-eq0 : goal.returns-else-byte_or_zero-eq0
returns-else-byte_or_zero-eq0 c = λ types functions filled.
    found_present _ types functions _ filled c.args.at c.args.c c.pass_alternatives-place.ensures.value (λ is. c.if-byte_or_zero-eq0.false (c.byte_or_zero.ensures.value ∙ is))
