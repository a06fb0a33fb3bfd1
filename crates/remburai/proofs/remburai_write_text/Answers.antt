-- `remburai::remburai_write_text` meets its contract: the number is that of the call's answer, and the slice is as that call leaves it. Rests on Answers.
use native.Mathlib.Omega.{arith}
use lib.ListN.{length}
use Rattle.lists.specs.Printouts.{printout_of, write_answer}
use Rattle.remburai.proofs.Answers.{write_text_small}
use Rattle.remburai.proofs.remburai_write_text.Goals as goal

pub text_number-requires : goal.text_number-requires
text_number-requires c =
    omega (arith, write_text_small c.args.file.now c.args.list.now (λ i. omega (arith, c.type_inv.list i)) c.args.full _ _ c.write_text.result c.write_text.ensures)

pub returns : goal.returns
returns c =
    record {
      number_is = c.text_number.ensures (write_answer (length c.args.text.now) (printout_of c.args.file.now c.args.list.now c.args.full)) c.write_text.ensures.answer_is;
      text_is = c.write_text.ensures.text_is;
    }
