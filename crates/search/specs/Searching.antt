-- What the search of a checked file starts from, and what it comes to.
-- Rests on reach's Types and Limits, on goal's Goals, on machine's Layout, loaded's Beginning, choices' Returning and exploring's Exploring.
use Rattle.std.specs.Prelude.{ℕ, ◌≡◌, List, length}
use Rattle.reach.specs.Limits.{work_words}
use Rattle.reach.specs.Syntax.{Program}
use Rattle.reach.specs.Types.{least_depths}
use Rattle.goal.specs.declared.Goal.{Goal}
use Rattle.goal.specs.Goals.{Asks}
use Rattle.machine.specs.Layout.{records_at, choices_at}
use Rattle.loaded.specs.Beginning.{GivenFile}
use Rattle.depths.specs.Table.{padded}
use Rattle.choices.specs.Choices.{Setting}
use Rattle.choices.specs.Returning.{setting}
use Rattle.results.specs.declared.Listed.{Listed}
use Rattle.exploring.specs.Exploring.{Explored}

-- A checked file with its tables, its least depths and its goal, and as many words as its search needs.
pub record Searchable (file types functions least : List ℕ) (goal : Goal) (w : List ℕ) (p : Program) : Type 0 where
  pub of_file : GivenFile file types functions p
  pub asks : Asks goal p
  pub least_are : least ≡ padded (least_depths p.types)
  pub long : length w ≡ work_words p.steps

-- the setting of its search
abbrev pub setting_of : List ℕ → List ℕ → List ℕ → List ℕ → Program → Setting
setting_of file types functions least p = setting file types functions least p p.steps (records_at p.steps) (choices_at p.steps)

-- some program is searchable in these words
abbrev pub SomeSearchable : (file types functions least : List ℕ) (goal : Goal) (w : List ℕ) → Type 0
SomeSearchable file types functions least goal w = (p : Program) × Searchable file types functions least goal w p

-- the list and the answer are those of every program that is
abbrev pub ExploresThem : (file types functions least : List ℕ) (goal : Goal) (w w' l l' : List ℕ) → Listed → Type 0
ExploresThem file types functions least goal w w' l l' a =
    (p : Program) → Searchable file types functions least goal w p → Explored (setting_of file types functions least p) l l' w' a
