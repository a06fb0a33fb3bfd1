-- `words::put_part` meets its contract: an open part is tried first, as in the definition.
-- Rests on nothing of this crate.
use borrow.Author.Tests.{ne_eqb}
use native.Mathlib.Omega.{arith}
use Rattle.lists.specs.Text.{part_word}
use Rattle.words.proofs.put_part.Goals as goal

pub returns-in-255 : goal.returns-in-255
unfolding part_word
returns-in-255 c = rw c.in-255.is c.bytes.ensures

pub returns-in_default : goal.returns-in_default
unfolding part_word
returns-in_default c = rw (ne_eqb c.args.b 255 (λ e. omega arith), ← c.from.ensures) c.number.ensures
