-- What the two calls promise of the printed text of a list that is handed in with its rule file, in terms of the definitions of crate lists.
-- Rests on reach's Answers, on lists' Handed and Printouts, and on Results of crate results.
use Rattle.std.specs.Prelude.{ℕ, ◌≡◌, Bool, List, length, Result, Ok, Err}
use Rattle.reach.specs.declared.Refusal.{Refusal}
use Rattle.reach.specs.declared.Refusal.TheVariants.{BadList}
use Rattle.reach.specs.Lists.{on_found}
use Rattle.reach.specs.Answers as Answers
use Rattle.lists.specs.Handed.{handed}
use Rattle.lists.specs.Printouts.{printout_of, length_answer, write_answer, text_slice}
use Rattle.results.specs.Results.{text_result}

-- the file's refusal, or 14, or none
abbrev pub judged_of : List ℕ → Answers.Checked → Result (Unit {0}) Refusal
judged_of list (Answers.turned_back why) = Err why
judged_of list (Answers.accepted p) = on_found (Err BadList) (λ es. Ok tt) (handed p list)

pub record Judges (file list : List ℕ) (r : Result (Unit {0}) Refusal) : Type 0 where
  pub answer_is : r ≡ judged_of list (Answers.check file)

-- What `text_length` promises, and all that it promises: its answer is the definition's.
pub record LengthPromise (file list : List ℕ) (full : Bool) (r : Result ℕ Refusal) : Type 0 where
  pub answer_is : r ≡ text_result (length_answer (printout_of file list full))

-- What `write_text` promises, and all that it promises: its answer, and the slice that held `text` and holds `text'`, are the definition's.
pub record WritePromise (file list : List ℕ) (full : Bool) (text text' : List ℕ) (r : Result ℕ Refusal) : Type 0 where
  pub answer_is : r ≡ text_result (write_answer (length text) (printout_of file list full))
  pub text_is : text' ≡ text_slice text (printout_of file list full)
