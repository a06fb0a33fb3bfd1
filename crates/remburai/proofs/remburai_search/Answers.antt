-- `remburai::remburai_search` meets its contract: the number is that of the search's answer, and the slices are as the search leaves them.
-- Rests on Answers.
use native.Mathlib.Omega.{arith}
use lib.ListN.{length}
use Rattle.reach.specs.Answers.{search_answer}
use Rattle.search.proofs.Called.{searched_so}
use Rattle.remburai.proofs.Answers.{list_small}
use Rattle.remburai.proofs.remburai_search.Goals as goal

pub search_number-requires : goal.search_number-requires
search_number-requires c =
    omega (arith, list_small c.args.file.now (length c.args.work.now) (length c.args.list.now) c.search.result c.search.ensures.answer_is)

pub returns : goal.returns
returns c =
    record {
      number_is = c.search_number.ensures (search_answer c.args.file.now (length c.args.work.now) (length c.args.list.now)) c.search.ensures.answer_is;
      leaves = searched_so c.search.ensures;
    }
