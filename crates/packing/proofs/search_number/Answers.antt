-- `packing::search_number` meets its contract. Rests on Numbered.
use mathlib.Core.Path.{sym, ap, ◌∙◌}
use native.Mathlib.Omega.{arith}
use Rattle.results.specs.Results.{list_length_in}
use Rattle.packing.proofs.Numbered.{no_search_number}
use Rattle.packing.proofs.search_number.Goals as goal

pub list_number-requires : goal.list_number-requires
list_number-requires c = omega (arith, c.requires, ap list_length_in c.in-Ok.is)

pub returns-in-Err : goal.returns-in-Err
returns-in-Err c a is = c.number.ensures ∙ no_search_number _ a (sym c.in-Err.is ∙ is)

pub returns-in-Ok : goal.returns-in-Ok
returns-in-Ok c a is = c.list_number.ensures a (sym c.in-Ok.is ∙ is)
