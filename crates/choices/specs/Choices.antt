-- The search in the lent words: the path under way, and the choice points behind it. What a choice point stands for is said of the words in which its
-- cell is open again: those are the words to which a return leads.
-- Rests on points' Points, machine's Layout and Cells, registers' Stepping, forks' Untried and reach's Moves and States.
use Rattle.std.specs.Prelude.{ℕ, suc, ◌+◌, ◌*◌, ◌-◌, ◌≤◌, ◌<◌, ◌≡◌, List, [], ◌∷◌, length}
use Rattle.reach.specs.Limits.{work_words}
use Rattle.reach.specs.Syntax.{Program, source_types}
use Rattle.reach.specs.Parts.{Parts}
use Rattle.reach.specs.Types.{Typed, source_slots, least_depths}
use Rattle.reach.specs.Eval.{State, next, waits}
use Rattle.reach.specs.Search.{open_input}
use Rattle.reach.specs.Moves.{Choice}
use Rattle.reach.specs.Answers.{check, accepted}
use Rattle.reach.specs.States.{Steps}
use Rattle.machine.specs.Layout.{records_at, choices_at}
use Rattle.machine.specs.Cells.{cell_word, cell_of, Cells}
use Rattle.depths.specs.Table.{padded}
use Rattle.forks.specs.Untried.{untried}
use Rattle.points.specs.Points.{choice_word, reopened}
use Rattle.registers.specs.declared.Registers.{Registers}
use Rattle.registers.specs.Stepping.{FileOf, StandsFor, part_kind}

-- What stays throughout a search: the file with the places of its types and functions and the least depths, its program, the step limit, and
-- where the records and the choice points begin in the words.
pub record Setting : Type 0 where
  pub file : List ℕ
  pub types : List ℕ
  pub functions : List ℕ
  pub least : List ℕ
  pub program : Program
  pub limit : ℕ
  pub base : ℕ
  pub stack : ℕ

-- The file is checked, and the words, as many as S steps need, have room for the cells, the records and the choice points of S steps.
pub record Given (g : Setting) : Type 0 where
  pub checked : check g.file ≡ accepted g.program
  pub file_of : FileOf g.file g.types g.functions g.program
  pub least_are : g.least ≡ padded (least_depths g.program.types)
  pub limit_is : g.limit ≡ g.program.steps
  pub base_is : g.base ≡ records_at g.limit
  pub stack_is : g.stack ≡ choices_at g.limit

-- the registers with which the case of choice point h waits
abbrev pub waiting_state_at : ℕ → List ℕ → ℕ → Registers
waiting_state_at stack w h = record { kind = part_kind; place = choice_word stack w h 0; env = 0; frame = choice_word stack w h 2; records = choice_word stack w h 3 }

-- A path: the words and registers stand for the state to which so many steps lead on the input, with cells for at most so many binds and records for
-- the steps.
pub record Path (g : Setting) (w : List ℕ) (cells done binds : ℕ) (r : Registers) (e : Parts) (s : State) : Type 0 where
  pub stands : StandsFor g.file g.types g.functions g.program w g.base cells r e s
  pub typed : Typed g.program.types (source_types g.program) e
  pub steps : Steps g.program e done s
  pub few_cells : cells ≤ 8 + 6 * binds
  pub few_records : r.records ≤ done + 2
  pub long : length w ≡ work_words g.limit

-- Choice point h is this one: before its cell is bound its case waits on the open part in the cell, and the constructors not taken yet are those
-- from the cell's head on.
pub record ChoiceAt (g : Setting) (w : List ℕ) (h : ℕ) (c : Choice) : Type 0 where
  pub state : State
  pub path : Path g (reopened g.stack w h) (choice_word g.stack w h 4) (choice_word g.stack w h 5) (choice_word g.stack w h 5) (waiting_state_at g.stack w h) c.input state
  pub asks : next g.program c.input state ≡ waits c.question
  pub cell_is : cell_of (reopened g.stack w h) c.question.place ≡ choice_word g.stack w h 0
  pub in_time : choice_word g.stack w h 5 < g.limit
  pub no_higher : h ≤ choice_word g.stack w h 5
  pub left_is : c.left ≡ g.limit - suc (choice_word g.stack w h 5)
  pub done_is : c.done ≡ suc (choice_word g.stack w h 5)
  pub untried_are :
      c.untried
      ≡ untried g.program.types (least_depths g.program.types) (cell_word w (choice_word g.stack w h 0) 2) (cell_word w (choice_word g.stack w h 0) 3)
      (cell_word w (choice_word g.stack w h 0) 0)

-- every parameter is open, in the first cells, of which so many are in use
abbrev pub AllOpen : Setting → List ℕ → ℕ → Type 0
AllOpen g w cells =
    (length (source_types g.program) ≤ cells)
    × Cells g.program.types (source_slots g.program) w (length (source_types g.program)) (open_input g.program)

-- So many choice points are these, the last first, and none has more cells and records than so many. Before the first of them every parameter is open.
pub data ChoicesAt (g : Setting) : List ℕ → ℕ → ℕ → ℕ → List Choice → Type 0 where
  no_choice : {w : List ℕ} {cells records : ℕ} → AllOpen g w cells → ChoicesAt g w 0 cells records []
  one_choice : {w : List ℕ} {h cells records : ℕ} {c : Choice} {cs : List Choice} → ChoiceAt g w h c → choice_word g.stack w h 4 ≤ cells → choice_word g.stack w h 3 ≤ records
      → ChoicesAt g (reopened g.stack w h) h (choice_word g.stack w h 4) (choice_word g.stack w h 3) cs → ChoicesAt g w (suc h) cells records (c ∷ cs)
