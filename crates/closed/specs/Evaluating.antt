-- What the run of a checked file's rule starts from, and what it comes to.
-- Rests on reach's Eval and Answers, on goal's Goals, on binding's Underway and running's Looked.
use Rattle.std.specs.Prelude.{ℕ, ◌≡◌, List, length}
use Rattle.reach.specs.declared.Outcome.{Outcome}
use Rattle.reach.specs.Limits.{work_words}
use Rattle.reach.specs.Syntax.{Program}
use Rattle.reach.specs.Parts.{Parts}
use Rattle.reach.specs.Eval.{run}
use Rattle.reach.specs.Answers.{outcome_of}
use Rattle.goal.specs.declared.Goal.{Goal}
use Rattle.goal.specs.Goals.{Asks}
use Rattle.running.specs.Looked.{LookedAt}
use Rattle.binding.specs.Underway.{GivenInput}

-- the closed run of a program on an input, which ends in words w'
abbrev pub RunsAs : List ℕ → List ℕ → List ℕ → List ℕ → Goal → List ℕ → Outcome → Type 0
RunsAs file types functions input goal w' o =
    (p : Program) (j : Parts) → GivenInput file types functions input p j → Asks goal p → (o ≡ outcome_of (run p j)) × LookedAt p j p.steps w'

-- there is such a program and input, and the words are as many as the run needs
abbrev pub Runnable : List ℕ → List ℕ → List ℕ → List ℕ → Goal → List ℕ → Type 0
Runnable file types functions input goal w =
    (p : Program) × (j : Parts) × GivenInput file types functions input p j × Asks goal p × (length w ≡ work_words p.steps)
