-- `printout::text_length` meets its contract. Rests on Answering.
use native.Mathlib.Omega.{arith}
use Rattle.results.proofs.Shown.{handed_on}
use Rattle.printout.proofs.Answering.{measures_refused, measures_length}
use Rattle.printout.proofs.text_length.Goals as goal

pub returns-in_err-judge : goal.returns-in_err-judge
returns-in_err-judge c =
    rw (handed_on _ c.from_residual.ensures)
    (measures_refused c.args.file.now c.args.list.now (λ i. omega (arith, c.type_inv.list i)) _ _ c.in_err-judge.ensures)

pub returns : goal.returns
returns c =
    measures_length c.args.file.now c.args.list.now (λ i. omega (arith, c.type_inv.list i)) _ _ c.in_ok-judge.ensures c.list_length.ensures
