-- What a return finds: the last choice point with a constructor left, the choice points behind it having been dropped and their cells opened again.
-- Rests on Choices and Weights, on reach's Moves, on points' Points and on the struct of src/lib.rt.
use Rattle.std.specs.Prelude.{ℕ, suc, ◌≤◌, ◌<◌, ◌≡◌, List, [], ◌∷◌, length, Option, Some, None}
use Rattle.std.proofs.Math.Option.{some}
use Rattle.reach.specs.Syntax.{Program, field_types}
use Rattle.reach.specs.Types.{Fork, least_depths}
use Rattle.reach.specs.Places.{bytes_at}
use Rattle.reach.specs.Search.{Entry}
use Rattle.reach.specs.Moves.{Choice, behind, take_fork, return}
use Rattle.machine.specs.Cells.{cell_word}
use Rattle.forks.specs.Untried.{untried}
use Rattle.points.specs.Points.{choice_word, reopened}
use Rattle.choices.specs.declared.Return.{Return}
use Rattle.choices.specs.Choices.{Setting, Given, ChoiceAt, ChoicesAt}
use Rattle.choices.specs.Weights.{weight}

-- the setting of a call
abbrev pub setting : List ℕ → List ℕ → List ℕ → List ℕ → Program → ℕ → ℕ → ℕ → Setting
setting file types functions least p limit base stack =
    record { file = file; types = types; functions = functions; least = least; program = p; limit = limit; base = base; stack = stack }

-- The choice point at h has constructor n next, whose k fields' types stand at place i of the file.
pub record NextAt (g : Setting) (w : List ℕ) (c : Choice) (h n i k : ℕ) : Type 0 where
  pub choice_at : ChoiceAt g w h c
  pub rest : List Fork
  pub untried_is : c.untried ≡ record { constructor = n; fields = k } ∷ rest
  pub rest_is :
      rest ≡ untried g.program.types (least_depths g.program.types) (cell_word w (choice_word g.stack w h 0) 2) (cell_word w (choice_word g.stack w h 0) 3) (suc n)
  pub known : field_types g.program.types (cell_word w (choice_word g.stack w h 0) 2) n ≡ some (bytes_at g.file i k)
  pub deep : 1 ≤ cell_word w (choice_word g.stack w h 0) 3
  pub from : cell_word w (choice_word g.stack w h 0) 0 ≤ n
  pub small : n ≤ 255
  pub near : i ≤ 1000000

-- The return from these choice points, so high in words w, leads to the one at h, with these before it.
pub record ReturnsTo (g : Setting) (w w' : List ℕ) (height : ℕ) (cs : List Choice) (h n i k : ℕ) : Type 0 where
  pub lower : h < height
  pub choice : Choice
  pub before : List Choice
  pub next_at : NextAt g w' choice h n i k
  pub before_at : ChoicesAt g (reopened g.stack w' h) h (choice_word g.stack w' h 4) (choice_word g.stack w' h 3) before
  pub returns : (es : List Entry)
      → return g.program (least_depths g.program.types) cs es
      ≡ take_fork g.program (least_depths g.program.types) choice (record { constructor = n; fields = k }) next_at.rest before es
  pub no_heavier : weight g.stack g.limit w' (suc h) ≤ weight g.stack g.limit w height

-- or there is none, and the search is over, every parameter being open again
abbrev pub ReturnMeans : Setting → List ℕ → List ℕ → ℕ → List Choice → Option Return → Type 0
ReturnMeans g w w' height cs (Some r) = ReturnsTo g w w' height cs r.to r.next.number r.next.fields.at r.next.fields.count
ReturnMeans g w w' height cs None =
    ((es : List Entry) → return g.program (least_depths g.program.types) cs es ≡ behind [] es)
    × ((cells records : ℕ) × ChoicesAt g w' 0 cells records [])

-- so it is for every program and all choice points that the words stand for
abbrev pub Returns : List ℕ → List ℕ → List ℕ → List ℕ → List ℕ → ℕ → ℕ → Option Return → Type 0
Returns file types least w w' stack height r =
    (functions : List ℕ) (p : Program) (limit base cells records : ℕ) (cs : List Choice) → Given (setting file types functions least p limit base stack)
    → ChoicesAt (setting file types functions least p limit base stack) w height cells records cs → length w' ≡ length w × ReturnMeans (setting file types functions least p limit base stack) w w' height cs r

-- the words stand for some
abbrev pub SomeChoices : List ℕ → List ℕ → List ℕ → List ℕ → ℕ → ℕ → Type 0
SomeChoices file types least w stack height =
    (functions : List ℕ) × (p : Program) × (limit : ℕ) × (base : ℕ) × (cells : ℕ) × (records : ℕ) × (cs : List Choice)
    × Given (setting file types functions least p limit base stack) × ChoicesAt (setting file types functions least p limit base stack) w height cells records cs
