-- `packing::text_number` meets its contract: the length leaves room for it in 64 bits. Rests on Numbered.
use mathlib.Core.Path.{sym, ap, ◌∙◌}
use native.Mathlib.Omega.{arith}
use Rattle.results.specs.Results.{text_length_in}
use Rattle.packing.proofs.Numbered.{no_text_number, length_number}
use Rattle.packing.proofs.text_number.Goals as goal

pub overflow_mul-result : goal.overflow_mul-result
overflow_mul-result c = omega (arith, c.requires, ap text_length_in c.in-Ok.is)

pub returns-in-Err : goal.returns-in-Err
returns-in-Err c a is = c.number.ensures ∙ no_text_number _ a (sym c.in-Err.is ∙ is)

pub returns-in-Ok : goal.returns-in-Ok
returns-in-Ok c a is = length_number _ a (sym c.in-Ok.is ∙ is)
