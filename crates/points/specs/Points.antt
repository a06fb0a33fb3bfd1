-- A choice point in the lent words. It keeps what a return needs: the cell that it binds, that cell's word 1 before, the frame that waits, how many records
-- and cells there were, and the steps done. Which constructor comes next is the head of its cell.
-- Rests on machine's Cells, on forks' Untried and on the structs of src/lib.rt.
use Rattle.std.specs.Prelude.{ℕ, ◌+◌, ◌*◌, ◌≤◌, ◌≡◌, List, length, get_or, set, Option}
use Rattle.machine.specs.Cells.{cell_word}
use Rattle.forks.specs.declared.Candidate.{Candidate}
use Rattle.forks.specs.Untried.{NextFork}
use Rattle.points.specs.declared.ChoicePoint.{ChoicePoint}

-- word k of choice point h: 0 the cell, 1 its word 1 before it was bound, 2 the frame that waits, 3 the number of records, 4 that of cells,
-- 5 the steps done
abbrev pub choice_word : ℕ → List ℕ → ℕ → ℕ → ℕ
choice_word stack w h k = get_or w (stack + 6 * h + k) 0

-- what choice point h says
abbrev pub choice_at : ℕ → List ℕ → ℕ → ChoicePoint
choice_at stack w h =
    record { cell = choice_word stack w h 0; frame = choice_word stack w h 2; records = choice_word stack w h 3; cells = choice_word stack w h 4; done = choice_word stack w h 5 }

-- the words in which the cell of choice point h is open again
unfoldable pub reopened : ℕ → List ℕ → ℕ → List ℕ
reopened stack w h = set (set w (5 * choice_word stack w h 0) 0) (5 * choice_word stack w h 0 + 1) (choice_word stack w h 1)

-- What is written to make choice point h: six words behind the others.
pub record Pushes (stack : ℕ) (w w' : List ℕ) (h x frame records cells done : ℕ) : Type 0 where
  pub same_length : length w' ≡ length w
  pub word_0 : choice_word stack w' h 0 ≡ x
  pub word_1 : choice_word stack w' h 1 ≡ cell_word w x 1
  pub word_2 : choice_word stack w' h 2 ≡ frame
  pub word_3 : choice_word stack w' h 3 ≡ records
  pub word_4 : choice_word stack w' h 4 ≡ cells
  pub word_5 : choice_word stack w' h 5 ≡ done
  pub elsewhere : (i : ℕ) → (stack + 6 * h ≤ i → stack + 6 * (h + 1) ≤ i) → get_or w' i 0 ≡ get_or w i 0

-- what the next constructor of the choice point at h is, by the type, the depth and the head that its cell has
abbrev pub NextForkAt : (file types least : List ℕ) (stack : ℕ) (w : List ℕ) (h : ℕ) → Option Candidate → Type 0
NextForkAt file types least stack w h a =
    NextFork file types least (cell_word w (choice_word stack w h 0) 2) (cell_word w (choice_word stack w h 0) 3) (cell_word w (choice_word stack w h 0) 0) a
