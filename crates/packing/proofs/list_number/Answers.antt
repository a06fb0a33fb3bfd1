-- `packing::list_number` meets its contract: the length leaves room for it in 64 bits. Rests on Numbered.
use mathlib.Core.Path.{sym, ap, ◌∙◌}
use native.Mathlib.Omega.{arith}
use Rattle.std.specs.Prelude.{Ok}
use Rattle.results.specs.Results.{length_of}
use Rattle.packing.proofs.Numbered.{complete_number, full_number}
use Rattle.packing.proofs.list_number.Goals as goal

pub overflow_mul-result-in-Complete : goal.overflow_mul-result-in-Complete
overflow_mul-result-in-Complete c = omega (arith, c.requires, ap length_of c.in-Complete.is)

pub overflow_add-result : goal.overflow_add-result
overflow_add-result c = omega (arith, c.requires, ap length_of c.in-Complete.is, c.verdict_number.ensures.small)

pub overflow_mul-result-in-Full : goal.overflow_mul-result-in-Full
overflow_mul-result-in-Full c = omega (arith, c.requires, ap length_of c.in-Full.is)

pub overflow_add-result-in-Full : goal.overflow_add-result-in-Full
overflow_add-result-in-Full c = omega (arith, c.requires, ap length_of c.in-Full.is, c.number.ensures)

pub returns-in-Complete : goal.returns-in-Complete
returns-in-Complete c a is = rw c.verdict_number.ensures.value (complete_number _ _ a (ap Ok (sym c.in-Complete.is) ∙ is))

pub returns-in-Full : goal.returns-in-Full
returns-in-Full c a is = rw c.number.ensures (full_number _ a (ap Ok (sym c.in-Full.is) ∙ is))
