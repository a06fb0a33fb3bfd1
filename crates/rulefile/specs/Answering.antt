-- What the call `check` answers, in terms of reach's definition.
-- Rests on reach's Answers and on Results of crate results.
use Rattle.std.specs.Prelude.{ℕ, ◌≡◌, List, Result}
use Rattle.reach.specs.declared.Refusal.{Refusal}
use Rattle.reach.specs.Answers.{check}
use Rattle.results.specs.Results.{check_result}

-- What the call promises, the one sentence of its contract: its answer for the bytes of the file is the definition's.
pub record CheckPromise (file : List ℕ) (r : Result (Unit {0}) Refusal) : Type 0 where
  pub answer_is : r ≡ check_result (check file)
