-- `remburai::remburai_text_length` meets its contract: the number is that of the call's answer. Rests on Answers.
use native.Mathlib.Omega.{arith}
use Rattle.lists.specs.Printouts.{printout_of, length_answer}
use Rattle.remburai.proofs.Answers.{length_text_small}
use Rattle.remburai.proofs.remburai_text_length.Goals as goal

pub text_number-requires : goal.text_number-requires
text_number-requires c =
    omega (arith, length_text_small c.args.file.now c.args.list.now (λ i. omega (arith, c.type_inv.list i)) c.args.full c.text_length.result c.text_length.ensures)

pub returns : goal.returns
returns c =
    record { number_is = c.text_number.ensures (length_answer (printout_of c.args.file.now c.args.list.now c.args.full)) c.text_length.ensures.answer_is }
