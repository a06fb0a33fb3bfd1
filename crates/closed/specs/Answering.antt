-- What a caller of `run` reads: the answer and the words afterwards, in terms of reach's definition.
-- Rests on reach's Answers and Input, on running's Looked for what the words stand for, and on Results of crate results.
use Rattle.std.specs.Prelude.{ℕ, ◌≡◌, List, length, drop, Result, Ok, Err}
use Rattle.std.proofs.Math.Option.{some}
use Rattle.reach.specs.declared.Refusal.{Refusal}
use Rattle.reach.specs.Limits.{work_words}
use Rattle.reach.specs.Syntax.{Program}
use Rattle.reach.specs.Parts.{Parts, prefix}
use Rattle.reach.specs.Types.{WithinDepth}
use Rattle.reach.specs.Input.{input_of}
use Rattle.reach.specs.Answers.{check, accepted, run_answer}
use Rattle.running.specs.Looked.{LookedAt}
use Rattle.results.specs.declared.Ran.{Ran}
use Rattle.results.specs.Results.{run_result}

-- A refusal changes no word, and a run none behind its first 64 S + 1,024 words.
abbrev pub Unchanged : Result Ran Refusal → List ℕ → List ℕ → List ℕ → Type 0
Unchanged (Err why) file w w' = w' ≡ w
Unchanged (Ok x) file w w' = (p : Program) → check file ≡ accepted p → drop (work_words p.steps) w' ≡ drop (work_words p.steps) w

-- After a run the words stand for a part of the closed input that has all that its steps looked at. What the evaluation's records left behind the
-- cells is not said.
abbrev pub Leaves : Result Ran Refusal → List ℕ → List ℕ → List ℕ → Type 0
Leaves (Err why) file input w' = Unit {0}
Leaves (Ok x) file input w' = (p : Program) (j : Parts) → check file ≡ accepted p → input_of p input ≡ some j → LookedAt p j p.steps w'

-- What the call promises, and all that it promises: of its answer, of the words that it may not change, and of those that it may.
pub record RunPromise (file input work work' : List ℕ) (r : Result Ran Refusal) : Type 0 where
  pub answer_is : r ≡ run_result (run_answer file input (length work))
  pub words_are : Unchanged r file work work'
  pub cells_are : Leaves r file input work'

-- the same of a call that runs and does not hand on the run's own answer
abbrev pub HasRun : List ℕ → List ℕ → List ℕ → List ℕ → Type 0
HasRun file input work work' = RunPromise file input work work' (run_result (run_answer file input (length work)))

-- the bytes are one closed, fitting value per parameter: the prefix form of j
abbrev pub IsInput : Program → List ℕ → Parts → Type 0
IsInput p input j = WithinDepth p j × (prefix j ≡ input)
