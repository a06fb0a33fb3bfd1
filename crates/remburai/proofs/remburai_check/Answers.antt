-- `remburai::remburai_check` meets its contract: the number is that of the check's answer.
use Rattle.reach.specs.Answers.{check}
use Rattle.remburai.proofs.remburai_check.Goals as goal

pub returns : goal.returns
returns c =
    record { number_is = c.check_number.ensures (check c.args.file.now) c.check.ensures.answer_is }
