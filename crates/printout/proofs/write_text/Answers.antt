-- `printout::write_text` meets its contract: a refusal comes before a byte is written. Rests on Answering.
use native.Mathlib.Omega.{arith}
use Rattle.results.proofs.Shown.{handed_on}
use Rattle.printout.proofs.Answering.{writes_refused, writes_short, writes_text}
use Rattle.printout.proofs.write_text.Goals as goal

pub returns-in_err-n : goal.returns-in_err-n
returns-in_err-n c =
    rw (handed_on _ c.from_residual.ensures)
    (writes_refused c.args.file.now c.args.list.now (λ i. omega (arith, c.type_inv.list i)) c.args.full c.args.text.now _ c.in_err-n.ensures)

pub returns-then-text-n : goal.returns-then-text-n
returns-then-text-n c =
    writes_short c.args.file.now c.args.list.now (λ i. omega (arith, c.type_inv.list i)) c.args.full c.args.text.now _ c.in_ok-n.ensures c.if-text-n.true

pub returns : goal.returns
returns c =
    writes_text c.args.file.now c.args.list.now (λ i. omega (arith, c.type_inv.list i)) c.args.full c.args.text.now
    c.in_ok-n.n _ _ c.in_ok-n.ensures (omega arith) c.list_text.ensures
