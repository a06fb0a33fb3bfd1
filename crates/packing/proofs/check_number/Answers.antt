-- `packing::check_number` meets its contract. Rests on Numbered.
use mathlib.Core.Path.{sym, ◌∙◌}
use Rattle.packing.proofs.Numbered.{accepted_number, refused_number}
use Rattle.packing.proofs.check_number.Goals as goal

pub returns-in-Ok : goal.returns-in-Ok
returns-in-Ok c a is = accepted_number a (sym c.in-Ok.is ∙ is)

pub returns-in-Err : goal.returns-in-Err
returns-in-Err c a is = c.number.ensures ∙ refused_number _ a (sym c.in-Err.is ∙ is)
