-- What is written to make one open cell, a row of them, and the cells of the parameters.
-- Rests on machine's Cells and reach's Types.
use Rattle.std.specs.Prelude.{ℕ, ◌+◌, ◌*◌, ◌≤◌, ◌≡◌, List, length, get_or, set}
use Rattle.reach.specs.Syntax.{Types}
use Rattle.reach.specs.Parts.{all_open}
use Rattle.reach.specs.Types.{Slot}
use Rattle.machine.specs.Cells.{OpenCells, Cells}

-- cell x opened, for a value of this type that may be so deep: its words 0, 2 and 3 are set, and every other word is as before
unfoldable pub open_cell : List ℕ → ℕ → ℕ → ℕ → List ℕ
open_cell w x t room = set (set (set w (5 * x) 0) (5 * x + 2) t) (5 * x + 3) room

-- k open cells from cell b on, with these slots; every other word is as before
pub record Opens (w w' : List ℕ) (b k : ℕ) (ss : List Slot) : Type 0 where
  pub same_length : length w' ≡ length w
  pub cells : OpenCells w' b k ss
  pub elsewhere : (i : ℕ) → (5 * b ≤ i → 5 * (b + k) ≤ i) → get_or w' i 0 ≡ get_or w i 0

-- The n parameters have these slots: with any types of constructors' fields the words stand for the input with every parameter open, and the words behind
-- their cells are as before.
pub record Starts (w w' : List ℕ) (n : ℕ) (ss : List Slot) : Type 0 where
  pub same_length : length w' ≡ length w
  pub stands : (types : Types) → Cells types ss w' n (all_open n)
  pub behind : (i : ℕ) → 5 * n ≤ i → get_or w' i 0 ≡ get_or w i 0
