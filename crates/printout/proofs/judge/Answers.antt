-- `printout::judge` meets its contract, by what the check of the file and the reading of the list found. Rests on Answering.
use Rattle.results.proofs.Shown.{handed_on}
use Rattle.printout.proofs.Answering.{judge_refused, judge_fits, judge_bad}
use Rattle.printout.proofs.judge.Goals as goal

pub returns-in_err-loaded : goal.returns-in_err-loaded
returns-in_err-loaded c = rw (handed_on _ c.from_residual.ensures) (judge_refused c.args.file.now c.args.list.now c.in_err-loaded.ensures)

pub returns-then-list_fits : goal.returns-then-list_fits
returns-then-list_fits c =
    judge_fits c.args.file.now c.args.list.now _ c.in_ok-loaded.ensures
    (rw c.in_ok-loaded.ensures.2.of_file at c.list_fits.ensures) c.if-list_fits.true

pub returns-else-list_fits : goal.returns-else-list_fits
returns-else-list_fits c =
    judge_bad c.args.file.now c.args.list.now _ c.in_ok-loaded.ensures
    (rw c.in_ok-loaded.ensures.2.of_file at c.list_fits.ensures) c.if-list_fits.false
