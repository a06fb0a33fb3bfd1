-- Where the values of a closed input stand, noted in open cells: the place in one cell, and the places of a row of values.
-- Rests on machine's Cells, on rows' Values and on Positions.
use Rattle.std.specs.Prelude.{ℕ, ◌+◌, ◌*◌, ◌/◌, ◌%◌, ◌<◌, ◌≡◌, List, map, ◌≢◌, length, get_or, set, Option, Some, None}
use Rattle.reach.specs.Limits.{depth_limit}
use Rattle.reach.specs.Syntax.{Types}
use Rattle.reach.specs.Parts.{Parts, Place, free, at, part, ◌⊑◌}
use Rattle.reach.specs.Types.{Slot}
use Rattle.reach.specs.Partial.{OpenApart}
use Rattle.reach.specs.Places.{type_at}
use Rattle.machine.specs.Cells.{cell_word, cell_of, Cells}
use Rattle.rows.specs.declared.Measured.{Measured}
use Rattle.rows.specs.Values.{of_value, value_at}
use Rattle.values.specs.Positions.{ClosedRowStands, byte_of}

-- the place noted in cell x: its low half is word 4, its high half word 1
abbrev pub noted_place : List ℕ → ℕ → ℕ
noted_place w x = cell_word w x 4 + 4294967296 * cell_word w x 1

-- place i noted in cell x; every other word is as before
unfoldable pub note_place : List ℕ → ℕ → ℕ → List ℕ
note_place w x i = set (set w (5 * x + 1) (i / 4294967296)) (5 * x + 4) (i % 4294967296)

-- the place behind what was read, or this one if nothing was
abbrev pub place_or : ℕ → Option Measured → ℕ
place_or i (Some m) = m.next
place_or i None = i

-- the place behind the closed value of type t that stands at place i; i itself where there is none
unfoldable pub behind_value : List ℕ → List ℕ → List ℕ → ℕ → ℕ → ℕ
behind_value file types input i t = place_or i (of_value (value_at file types None depth_limit t input i))

-- Cells from cell `first` on, one for each of these types, and closed values of the types that stand one behind the other from a place of the input on: in
-- each of the first n cells is noted where its value stands. Only words 1 and 4 of these cells may differ from before.
pub record NotedFirst (file types input w w' : List ℕ) (first : ℕ) (ts : List ℕ) (at n : ℕ) : Type 0 where
  pub same_length : length w' ≡ length w
  pub elsewhere : (i : ℕ) → ((m : ℕ) → m < n → (i ≢ 5 * (first + m) + 1) × (i ≢ 5 * (first + m) + 4)) → get_or w' i 0 ≡ get_or w i 0
  pub there : OpenApart (map (type_at file) types) → (j : Parts) → ClosedRowStands (map (type_at file) types) ts input at j → (m : ℕ) → m < n
      → noted_place w' (first + m) ≡ byte_of j (part m) at

-- in every cell
abbrev pub Noted : List ℕ → List ℕ → List ℕ → List ℕ → List ℕ → ℕ → List ℕ → ℕ → Type 0
Noted file types input w w' first ts at = NotedFirst file types input w w' first ts at (length ts)

-- in the cell of each open part of e is noted where its value in the closed input j stands
abbrev pub NotesStand : List ℕ → Parts → Parts → Type 0
NotesStand w e j = (r : Place) → at e r ≡ free → noted_place w (cell_of w r) ≡ byte_of j r 0

-- The words stand for the input e, which the closed input j completes, with these notes.
pub record FollowsInput (types : Types) (ss : List Slot) (w : List ℕ) (top : ℕ) (e j : Parts) : Type 0 where
  pub cells : Cells types ss w top e
  pub below : e ⊑ j
  pub notes : NotesStand w e j
