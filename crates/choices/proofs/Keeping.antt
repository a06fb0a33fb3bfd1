-- A path and the choice points behind it are kept while the words that they speak of are: the cells and records in use, and the choice points' own.
-- Rests on specs/Choices, on points' Points, on registers' Standing and machine's laws of cells.
use Prim.Native.Nat.{ℕ, suc, ◌+◌, ◌*◌, ◌≤◌, ◌<◌}
use mathlib.Core.Path.{◌≡◌, refl, sym, ◌∙◌, ap, subst}
use mathlib.Core.List.{List, ◌∷◌}
use mathlib.Core.Logic.{◌≢◌}
use native.Mathlib.Decide.{ℕ_discrete}
use native.Mathlib.Omega.{arith}
use lib.ListN.{length, get_or, set, length-set}
use lib.Seq.{get_or-set_same, get_or-set_other}
use Rattle.reach.specs.Parts.{Parts, at, free, There}
use Rattle.reach.specs.Eval.{State}
use Rattle.reach.specs.Types.{least_depths}
use Rattle.reach.specs.Moves.{Choice}
use Rattle.reach.proofs.Evaluation.{waits_free}
use Rattle.machine.specs.Cells.{cell_word, cell_of}
use Rattle.machine.proofs.Cells.{kept_cells}
use Rattle.machine.proofs.Records.{Same}
use Rattle.forks.specs.Untried.{untried}
use Rattle.registers.specs.declared.Registers.{Registers}
use Rattle.registers.proofs.Standing.{stands_below}
use Rattle.points.specs.Points.{choice_word, reopened}
use Rattle.choices.specs.Choices.{Setting, waiting_state_at, Path, ChoiceAt, ChoicesAt, no_choice, one_choice}

-- The words of the first cells, records and choice points are as before.
pub record Kept (g : Setting) (w w' : List ℕ) (cells records h : ℕ) : Type 0 where
  pub same_length : length w' ≡ length w
  pub cells_kept : (i : ℕ) → i < 5 * cells → get_or w' i 0 ≡ get_or w i 0
  pub records_kept : Same w w' g.base records
  pub choices_kept : (i : ℕ) → g.stack ≤ i → i < g.stack + 6 * h → get_or w' i 0 ≡ get_or w i 0

-- a path is kept
pub path_kept :
    {g : Setting} {w w' : List ℕ} {cells done binds : ℕ} {r : Registers} {e : Parts} {s : State} → Path g w cells done binds r e s → length w' ≡ length w
    → ((i : ℕ) → i < 5 * cells → get_or w' i 0 ≡ get_or w i 0) → Same w w' g.base r.records → Path g w' cells done binds r e s
path_kept {w' = w'} path same_length kept same =
    let moved = kept_cells w' path.stands.input (rw same_length path.stands.input.fits) kept in
    record {
      stands = stands_below path.stands moved.1 moved.0 path.stands.apart same_length same path.stands.there path.stands.sound;
      typed = path.typed;
      steps = path.steps;
      few_cells = path.few_cells;
      few_records = path.few_records;
      long = same_length ∙ path.long;
    }

-- The words in which the cell of a choice point is open again.
module _ (g : Setting) (w : List ℕ) (h : ℕ) where
  pub reopened_length : length (reopened g.stack w h) ≡ length w
  unfolding reopened
  reopened_length = simp length-set

  pub reopened_other : (i : ℕ) → i ≢ 5 * choice_word g.stack w h 0 → i ≢ 5 * choice_word g.stack w h 0 + 1 → get_or (reopened g.stack w h) i 0 ≡ get_or w i 0
  unfolding reopened
  reopened_other i head first =
      get_or-set_other (set w (5 * choice_word g.stack w h 0) 0) _ i (choice_word g.stack w h 1) 0 first ∙ get_or-set_other w _ i 0 0 head

  module _ (fits : 5 * choice_word g.stack w h 0 + 1 < length w) where
    pub reopened_head : get_or (reopened g.stack w h) (5 * choice_word g.stack w h 0) 0 ≡ 0
    unfolding reopened
    reopened_head =
        let apart : 5 * choice_word g.stack w h 0 ≢ 5 * choice_word g.stack w h 0 + 1 = omega arith in
        get_or-set_other (set w (5 * choice_word g.stack w h 0) 0) _ _ (choice_word g.stack w h 1) 0 apart ∙ get_or-set_same w (5 * choice_word g.stack w h 0) 0 0 (omega arith)

    pub reopened_first : get_or (reopened g.stack w h) (5 * choice_word g.stack w h 0 + 1) 0 ≡ choice_word g.stack w h 1
    unfolding reopened
    reopened_first = get_or-set_same (set w (5 * choice_word g.stack w h 0) 0) (5 * choice_word g.stack w h 0 + 1) (choice_word g.stack w h 1) 0 (simp length-set fits)

-- the cell of a choice point is one of those that were in use
module _ {g : Setting} {w : List ℕ} {h : ℕ} {c : Choice} (at-h : ChoiceAt g w h c) where
  pub unbound : at c.input c.question.place ≡ free
  unbound = waits_free g.program c.input at-h.state c.question at-h.asks

  pub there : There (at c.input c.question.place)
  there = subst There (sym unbound) tt

  pub cell_below : choice_word g.stack w h 0 < choice_word g.stack w h 4
  cell_below = rw (← at-h.cell_is) (at-h.path.stands.input.in_use c.question.place there)

  pub cells_fit : 5 * choice_word g.stack w h 4 ≤ length w
  cells_fit = omega (arith, at-h.path.stands.input.fits, reopened_length g w h)

  pub cell_fits : 5 * choice_word g.stack w h 0 + 1 < length w
  cell_fits = omega (arith, cell_below, cells_fit)

-- Words that agree on two cells' words and elsewhere agree.
module _
    {g : Setting} {w : List ℕ} {h : ℕ} {c : Choice} (at-h : ChoiceAt g w h c) (w' : List ℕ) (same_length : length w' ≡ length w)
    (word : (k : ℕ) → k < 6 → choice_word g.stack w' h k ≡ choice_word g.stack w h k)
  where
    same_cell : choice_word g.stack w' h 0 ≡ choice_word g.stack w h 0
    same_cell = word 0 (omega arith)

    -- a word that is as before, but for the head and the first field of the choice point's cell, is as before once the cell is open again
    pub reopened_same : (i : ℕ) → (i ≢ 5 * choice_word g.stack w h 0 → i ≢ 5 * choice_word g.stack w h 0 + 1 → get_or w' i 0 ≡ get_or w i 0)
        → get_or (reopened g.stack w' h) i 0 ≡ get_or (reopened g.stack w h) i 0
    reopened_same i same = by_place (ℕ_discrete i (5 * choice_word g.stack w h 0)) (ℕ_discrete i (5 * choice_word g.stack w h 0 + 1))
      where
        fits' : 5 * choice_word g.stack w' h 0 + 1 < length w'
        fits' = omega (arith, same_cell, same_length, cell_fits at-h)

        head' : get_or (reopened g.stack w' h) (5 * choice_word g.stack w h 0) 0 ≡ 0
        head' = rw same_cell at (reopened_head g w' h fits')

        first' : get_or (reopened g.stack w' h) (5 * choice_word g.stack w h 0 + 1) 0 ≡ choice_word g.stack w h 1
        first' = (rw same_cell at (reopened_first g w' h fits')) ∙ word 1 (omega arith)

        by_place : Dec (i ≡ 5 * choice_word g.stack w h 0) → Dec (i ≡ 5 * choice_word g.stack w h 0 + 1) → get_or (reopened g.stack w' h) i 0 ≡ get_or (reopened g.stack w h) i 0
        by_place (yes is) first = rw is (head' ∙ sym (reopened_head g w h (cell_fits at-h)))
        by_place (no head) (yes is) = rw is (first' ∙ sym (reopened_first g w h (cell_fits at-h)))
        by_place (no head) (no first) =
            reopened_other g w' h i (λ is. head (is ∙ ap (λ x. 5 * x) same_cell)) (λ is. first (is ∙ ap (λ x. 5 * x + 1) same_cell))
            ∙ same head first ∙ sym (reopened_other g w h i head first)

    pub reopened_lengths : length (reopened g.stack w' h) ≡ length (reopened g.stack w h)
    reopened_lengths = reopened_length g w' h ∙ same_length ∙ sym (reopened_length g w h)

    -- so is a path that has no more cells and records than stay
    pub path_same :
        {cells done binds : ℕ} {r : Registers} {e : Parts} {s : State} → Path g (reopened g.stack w h) cells done binds r e s
        → ((i : ℕ) → i < 5 * cells → i ≢ 5 * choice_word g.stack w h 0 → i ≢ 5 * choice_word g.stack w h 0 + 1 → get_or w' i 0 ≡ get_or w i 0)
        → ((i : ℕ) → g.base ≤ i → i < g.base + 4 * r.records → get_or w' i 0 ≡ get_or w i 0) → Path g (reopened g.stack w' h) cells done binds r e s
    path_same path kept same =
        path_kept path reopened_lengths (λ i below. reopened_same i (λ head first. kept i below head first)) (λ i from below. reopened_same i (λ head first. same i from below))

-- A choice point is kept, whichever constructors it has left, while its own words are.
module _
    {g : Setting} {w : List ℕ} {h : ℕ} {c : Choice} (at-h : ChoiceAt g w h c) (w' : List ℕ) (same_length : length w' ≡ length w)
    (word : (k : ℕ) → k < 6 → choice_word g.stack w' h k ≡ choice_word g.stack w h k)
    (kept : (i : ℕ) → i < 5 * choice_word g.stack w h 4 → i ≢ 5 * choice_word g.stack w h 0 → i ≢ 5 * choice_word g.stack w h 0 + 1 → get_or w' i 0 ≡ get_or w i 0)
    (same : (i : ℕ) → g.base ≤ i → i < g.base + 4 * choice_word g.stack w h 3 → get_or w' i 0 ≡ get_or w i 0)
  where
    path_there : Path g (reopened g.stack w' h) (choice_word g.stack w h 4) (choice_word g.stack w h 5) (choice_word g.stack w h 5) (waiting_state_at g.stack w h) c.input at-h.state
    path_there = path_same at-h w' same_length word at-h.path kept same

    -- the part of the choice point is in its cell
    cell_there : cell_of (reopened g.stack w' h) c.question.place ≡ choice_word g.stack w h 0
    cell_there =
        (kept_cells (reopened g.stack w' h) at-h.path.stands.input path_there.stands.input.fits
        (λ i below. reopened_same at-h w' same_length word i (λ head first. kept i below head first))).0 c.question.place (there at-h)
        ∙ at-h.cell_is

    pub choice_same :
        (d : Choice) → d.question ≡ c.question → d.left ≡ c.left → d.done ≡ c.done → d.input ≡ c.input
        → d.untried ≡ untried g.program.types (least_depths g.program.types) (cell_word w (choice_word g.stack w h 0) 2) (cell_word w (choice_word g.stack w h 0) 3) (cell_word w' (choice_word g.stack w h 0) 0)
        → ChoiceAt g w' h d
    choice_same d question left done input untried_are =
        let z₀ = word 0 (omega arith) in
        let z₂ = word 2 (omega arith) in
        let z₃ = word 3 (omega arith) in
        let z₄ = word 4 (omega arith) in
        let z₅ = word 5 (omega arith) in
        let x = choice_word g.stack w h 0 in
        let below = cell_below at-h in
        let type : cell_word w' x 2 ≡ cell_word w x 2 = kept (5 * x + 2) (omega arith) (omega arith) (omega arith) in
        let room : cell_word w' x 3 ≡ cell_word w x 3 = kept (5 * x + 3) (omega arith) (omega arith) (omega arith) in
        record {
          state = at-h.state;
          path = rw (z₀, z₂, z₃, z₄, z₅, input) path_there;
          asks = rw (input, question) at-h.asks;
          cell_is = rw (z₀, question) cell_there;
          in_time = rw z₅ at-h.in_time;
          no_higher = rw z₅ at-h.no_higher;
          left_is = rw z₅ (left ∙ at-h.left_is);
          done_is = rw z₅ (done ∙ at-h.done_is);
          untried_are = rw (z₀, type, room) untried_are;
        }

-- What is kept of the choice point at h, and of those before it, whose words are those in which its cell is open again.
module _
    {g : Setting} {w : List ℕ} (w' : List ℕ) {h cells records : ℕ} {c : Choice} (at-h : ChoiceAt g w h c) (few_cells : choice_word g.stack w h 4 ≤ cells)
    (few_records : choice_word g.stack w h 3 ≤ records) (kept : Kept g w w' cells records (suc h))
  where
    pub word_kept : (k : ℕ) → k < 6 → choice_word g.stack w' h k ≡ choice_word g.stack w h k
    word_kept k small = kept.choices_kept (g.stack + 6 * h + k) (omega arith) (omega arith)

    pub head_kept : cell_word w' (choice_word g.stack w h 0) 0 ≡ cell_word w (choice_word g.stack w h 0) 0
    head_kept = let used = cell_below at-h in kept.cells_kept (5 * choice_word g.stack w h 0 + 0) (omega arith)

    choice_kept : ChoiceAt g w' h c
    choice_kept =
        choice_same at-h w' kept.same_length word_kept (λ i l head first. kept.cells_kept i (omega arith)) (λ i from l. kept.records_kept i from (omega arith))
        c refl refl refl refl (rw head_kept at-h.untried_are)

    pub kept_before : Kept g (reopened g.stack w h) (reopened g.stack w' h) (choice_word g.stack w h 4) (choice_word g.stack w h 3) h
    kept_before = record {
      same_length = reopened_lengths at-h w' kept.same_length word_kept;
      cells_kept = λ i l. reopened_same at-h w' kept.same_length word_kept i (λ x y. kept.cells_kept i (omega arith));
      records_kept = λ i from l. reopened_same at-h w' kept.same_length word_kept i (λ x y. kept.records_kept i from (omega arith));
      choices_kept = λ i from l. reopened_same at-h w' kept.same_length word_kept i (λ x y. kept.choices_kept i from (omega arith));
    }

    one_kept :
        {cs : List Choice} → ChoicesAt g (reopened g.stack w' h) h (choice_word g.stack w h 4) (choice_word g.stack w h 3) cs
        → ChoicesAt g w' (suc h) cells records (c ∷ cs)
    one_kept {cs} rest =
        let z₃ = word_kept 3 (omega arith) in
        let z₄ = word_kept 4 (omega arith) in
        one_choice {cells = cells} {records = records} {cs = cs} choice_kept (rw z₄ few_cells) (rw z₃ few_records) (rw (z₄, z₃) rest)

-- The choice points are kept.
pub choices_kept :
    {g : Setting} {w : List ℕ} (w' : List ℕ) {h cells records : ℕ} {cs : List Choice} → ChoicesAt g w h cells records cs → Kept g w w' cells records h
    → ChoicesAt g w' h cells records cs
choices_kept w' (no_choice (few, cells)) kept =
    no_choice (few, (kept_cells w' cells (rw kept.same_length cells.fits) (λ i l. kept.cells_kept i (omega arith))).1)
choices_kept {g} w' (one_choice {h = h} at-h few_cells few_records rest) kept =
    one_kept w' at-h few_cells few_records kept (choices_kept (reopened g.stack w' h) rest (kept_before w' at-h few_cells few_records kept))

-- more cells and records may be in use
pub choices_more :
    {g : Setting} {w : List ℕ} {h cells records more_cells more-records : ℕ} {cs : List Choice} → cells ≤ more_cells → records ≤ more-records
    → ChoicesAt g w h cells records cs → ChoicesAt g w h more_cells more-records cs
choices_more {more_cells = cells} more fewer (no_choice (few, stands)) = no_choice {cells = cells} (omega arith, stands)
choices_more {more_cells = cells} {more-records = records} more fewer (one_choice at-h few_cells few_records rest) =
    one_choice {cells = cells} {records = records} at-h (omega arith) (omega arith) rest
