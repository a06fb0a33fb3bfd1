-- The input in the lent words: each part is a cell of five words, the parts of a row are cells one after the other, the parameters from cell 0 on.
-- Rests on reach's Parts and Types.
use Rattle.std.specs.Prelude.{ℕ, suc, ◌+◌, ◌*◌, ◌≤◌, ◌<◌, ◌≡◌, List, ◌≢◌, length, get_or}
use Rattle.std.proofs.Math.Option.{some}
use Rattle.std.proofs.Math.ListN.{get_elem?}
use Rattle.reach.specs.Syntax.{Types}
use Rattle.reach.specs.Parts.{Parts, Place, here, after, inside, free, has, at, prefix, There}
use Rattle.reach.specs.Types.{Slot, even_slots, slot_at}

-- word k of cell x: 0 is 0 for an open part, or 1 more than the constructor's number; 1 the cell of the first field, where it is bound;
-- 2 the type; 3 the depth that it may have; 4 the place of its value in the bytes of a closed input
abbrev pub cell_word : List ℕ → ℕ → ℕ → ℕ
cell_word w x k = get_or w (5 * x + k) 0

-- the cell of a place, in the row that begins at cell b
unfoldable pub cell_from : List ℕ → ℕ → Place → ℕ
cell_from w b here = b
cell_from w b (after q) = cell_from w (b + 1) q
cell_from w b (inside q) = cell_from w (cell_word w b 1) q

abbrev pub cell_of : List ℕ → Place → ℕ
cell_of w q = cell_from w 0 q

-- cell x says what this slot is: the type, and how deep a value may be
abbrev pub SlotIn : List ℕ → ℕ → Slot → Type 0
SlotIn w x s = (cell_word w x 2 ≡ s.type) × (cell_word w x 3 ≡ s.room)

-- The words stand for the input: so many cells are in use, as many as there are parts, every part has a cell of its own, and the cell says what stands there.
pub record Cells (types : Types) (ss : List Slot) (w : List ℕ) (top : ℕ) (e : Parts) : Type 0 where
  pub fits : 5 * top ≤ length w
  pub counted : length (prefix e) ≡ top
  pub in_use : (q : Place) → There (at e q) → cell_of w q < top
  pub apart : (q r : Place) → There (at e q) → There (at e r) → cell_of w q ≡ cell_of w r → q ≡ r
  pub head_free : (q : Place) → at e q ≡ free → cell_word w (cell_of w q) 0 ≡ 0
  pub head_bound : (q : Place) (c k : ℕ) → at e q ≡ has c k → cell_word w (cell_of w q) 0 ≡ suc c
  pub slot : (q : Place) (s : Slot) → There (at e q) → slot_at types e q ss ≡ some s → SlotIn w (cell_of w q) s

-- k open cells from cell b on, with these slots
pub record OpenCells (w : List ℕ) (b k : ℕ) (ss : List Slot) : Type 0 where
  pub no_head : (j : ℕ) → j < k → cell_word w (b + j) 0 ≡ 0
  pub slot_of : (j : ℕ) → j < k → (s : Slot) → get_elem? ss j ≡ some s → SlotIn w (b + j) s

-- What is written to bind cell x to constructor c with k fields, of these types and so deep: its words 0 and 1, and the fields' cells from cell top on;
-- every other word stays.
pub record Binds (w w' : List ℕ) (x c top k : ℕ) (us : List ℕ) (room : ℕ) : Type 0 where
  pub same_length : length w' ≡ length w
  pub new_head : cell_word w' x 0 ≡ suc c
  pub first_field : cell_word w' x 1 ≡ top
  pub fields : OpenCells w' top k (even_slots us room)
  pub elsewhere : (i : ℕ) → i ≢ 5 * x → i ≢ 5 * x + 1 → (5 * top ≤ i → 5 * (top + k) ≤ i) → get_or w' i 0 ≡ get_or w i 0

-- The words of the first `top` cells are as before, but for words 0 and 1 of cell x.
pub record KeptBut (w w' : List ℕ) (x top : ℕ) : Type 0 where
  pub kept : (i : ℕ) → i < 5 * top → i ≢ 5 * x → i ≢ 5 * x + 1 → get_or w' i 0 ≡ get_or w i 0

-- every part of the input is in the cell where it was
abbrev pub Unmoved : List ℕ → List ℕ → Parts → Type 0
Unmoved w w' e = (r : Place) → There (at e r) → cell_of w' r ≡ cell_of w r
