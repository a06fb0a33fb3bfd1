-- `packing::run_number` meets its contract. Rests on Numbered.
use mathlib.Core.Path.{sym, ◌∙◌}
use Rattle.packing.proofs.Numbered.{no_run_number, ran_number}
use Rattle.packing.proofs.run_number.Goals as goal

pub returns-in-Err : goal.returns-in-Err
returns-in-Err c a is = c.number.ensures ∙ no_run_number _ a (sym c.in-Err.is ∙ is)

pub returns-in-Ok : goal.returns-in-Ok
returns-in-Ok c a is = rw (c.steps_of.ensures.value, c.outcome_number.ensures.value) (ran_number _ _ a (sym c.in-Ok.is ∙ is))
