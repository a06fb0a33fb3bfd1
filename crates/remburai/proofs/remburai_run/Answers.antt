-- `remburai::remburai_run` meets its contract: the number is that of the run's answer, and the words are as the run leaves them.
use lib.ListN.{length}
use Rattle.reach.specs.Answers.{run_answer}
use Rattle.closed.proofs.Answering.{run_so}
use Rattle.remburai.proofs.remburai_run.Goals as goal

pub returns : goal.returns
returns c =
    record { number_is = c.run_number.ensures (run_answer c.args.file.now c.args.input.now (length c.args.work.now)) c.run.ensures.answer_is; leaves = run_so c.run.ensures }
