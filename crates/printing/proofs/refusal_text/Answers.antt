-- `printing::refusal_text` meets its contract: the line is written from the front on.
-- Rests on Writing.
use mathlib.Core.Path.{refl}
use Rattle.std.proofs.Common.{rules}
use Rattle.writing.proofs.Writing.{puts_front}
use Rattle.printing.proofs.refusal_text.Goals as goal

pub returns : goal.returns
returns c = puts_front refl c.put_refusal.ensures (search rules)
