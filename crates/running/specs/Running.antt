-- What the loop of the closed run promises: the end that it comes to.
-- Rests on Looked, on binding's Underway and on reach's Eval and Answers.
use Rattle.std.specs.Prelude.{ℕ, ◌-◌, ◌≡◌, List}
use Rattle.reach.specs.declared.Outcome.{Outcome}
use Rattle.reach.specs.Syntax.{Program}
use Rattle.reach.specs.Parts.{Parts}
use Rattle.reach.specs.Eval.{State, eval}
use Rattle.reach.specs.Answers.{outcome_of}
use Rattle.registers.specs.declared.Registers.{Registers}
use Rattle.binding.specs.Underway.{Underway}
use Rattle.running.specs.Looked.{LookedAt}

-- the run of at most `limit` steps from where it is under way ends so, in words w'
abbrev pub EndsAs : List ℕ → List ℕ → List ℕ → List ℕ → ℕ → ℕ → List ℕ → List ℕ → ℕ → ℕ → Registers → Outcome → Type 0
EndsAs file types functions input label limit w w' base cells r o =
    (p : Program) (j : Parts) (s : State) → Underway file types functions input label limit w base cells 0 r p j s
    → (o ≡ outcome_of (eval p j limit 0 s)) × LookedAt p j limit w'

-- some run begins here
abbrev pub RunBegins : List ℕ → List ℕ → List ℕ → List ℕ → ℕ → ℕ → List ℕ → ℕ → ℕ → Registers → Type 0
RunBegins file types functions input label limit w base cells r =
    (p : Program) × (j : Parts) × (s : State) × Underway file types functions input label limit w base cells 0 r p j s

-- the run came from the beginning to here
abbrev pub LedTo : (file types functions input : List ℕ) (label limit : ℕ) (w₀ : List ℕ) (base first : ℕ) (from : Registers) (w : List ℕ) (cells done : ℕ) (r : Registers) → Type 0
LedTo file types functions input label limit w₀ base first from w cells done r =
    (p : Program) (j : Parts) (s : State) → Underway file types functions input label limit w₀ base first 0 from p j s
    → (s' : State) × Underway file types functions input label limit w base cells done r p j s' × (eval p j limit 0 s ≡ eval p j (limit - done) done s')
