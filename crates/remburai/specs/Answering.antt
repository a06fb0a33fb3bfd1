-- What the calls for C promise, and all that they promise: the number that they answer with, and the slices as the call behind them leaves them.
-- Rests on reach's Answers and lists' Printouts, on packing's Packing, and on Answering of search and closed.
use Rattle.std.specs.Prelude.{ℕ, ◌≡◌, Bool, List, length}
use Rattle.reach.specs.Answers.{check, search_answer, run_answer}
use Rattle.lists.specs.Printouts.{printout_of, length_answer, write_answer, text_slice}
use Rattle.search.specs.Answering.{Searched}
use Rattle.closed.specs.Answering.{HasRun}
use Rattle.packing.specs.Packing.{check_number, search_number, run_number, text_number, part_number, PartAt}

-- `remburai_check` of this file answered r
pub record Checks (file : List ℕ) (r : ℕ) : Type 0 where
  pub number_is : r ≡ check_number (check file)

-- `remburai_search` answered r; the slices that held `work` and `list` hold `work'` and `list'`
pub record Searches (file work work' list list' : List ℕ) (r : ℕ) : Type 0 where
  pub number_is : r ≡ search_number (search_answer file (length work) (length list))
  pub leaves : Searched file work work' list list'

-- `remburai_run` answered r; the slice that held `work` holds `work'`
pub record Runs (file input work work' : List ℕ) (r : ℕ) : Type 0 where
  pub number_is : r ≡ run_number (run_answer file input (length work))
  pub leaves : HasRun file input work work'

-- `remburai_entry` for this number answered r: the part of the caller's own list
pub record Finds (list : List ℕ) (number r : ℕ) : Type 0 where
  pub number_is : r ≡ part_number list number
  pub part_is : PartAt list number r

-- `remburai_text_length` answered r for a list that was handed in with its file; `full` says that the search ended in 12
pub record Measures (file list : List ℕ) (full : Bool) (r : ℕ) : Type 0 where
  pub number_is : r ≡ text_number (length_answer (printout_of file list full))

-- `remburai_write_text` answered r; the slice that held `text` holds `text'`
pub record Writes (file list : List ℕ) (full : Bool) (text text' : List ℕ) (r : ℕ) : Type 0 where
  pub number_is : r ≡ text_number (write_answer (length text) (printout_of file list full))
  pub text_is : text' ≡ text_slice text (printout_of file list full)
