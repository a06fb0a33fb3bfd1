-- What the functions of this crate write keeps the words standing for the input: cells opened for the parameters stand for the input with
-- every part open, a bind for the input with that part bound, and a part opened again for the input before.
-- Rests on specs/Writes and on machine's laws of cells.
use Prim.Native.Nat.{ℕ, suc, ◌+◌, ◌*◌, ◌-◌, ◌≤◌, ◌<◌}
use mathlib.Core.Path.{◌≡◌, sym, ◌∙◌, ap}
use mathlib.Core.List.{List}
use mathlib.Core.Logic.{◌≢◌}
use mathlib.Core.Option.{some}
use native.Mathlib.Decide.{ℕ_discrete}
use native.Mathlib.Omega.{arith}
use lib.ListN.{length, get_or, set, length-set}
use lib.Seq.{get_or-set_same, get_or-set_other}
use Rattle.reach.specs.Syntax.{Types, field_types}
use Rattle.reach.specs.Parts.{Parts, Place, free, has, at, bind_at, There}
use Rattle.reach.specs.Types.{Slot, slot_at}
use Rattle.reach.specs.Places.{bytes_at}
use Rattle.reach.proofs.Order.{free_unbound, bind_refines, ⊑-there}
use Rattle.machine.specs.Cells.{cell_word, cell_of, Cells, Binds, KeptBut, Unmoved}
use Rattle.machine.proofs.Cells.{field, free_there, has_there, walk_kept, bind_elsewhere, bind_slot, bind_length_exact, bind_keeps, bind_walks, bind_cells, start_cells, open_cells}
use Rattle.cells.specs.Writes.{Opens, Starts}

-- a row of cells opened from cell 0 on stands for the input with every parameter open
pub starts :
    {w w' : List ℕ} {ss : List Slot} {n : ℕ} → 5 * n ≤ length w → Opens w w' 0 n ss → Starts w w' n ss
starts fits made = record {
  same_length = made.same_length;
  stands = λ types. start_cells (omega (arith, made.same_length)) made.cells;
  behind = λ i out. made.elsewhere i (λ h. omega arith);
}

-- a part bound as `bind_cell` does it: the words stand for the input with the part bound, every part is in the cell where it was, and the fields
-- are the cells from the old top on
pub bound_cells :
    {types : Types} {ss : List Slot} {w w' us : List ℕ} {top c k : ℕ} {e : Parts} {s : Slot} (file : List ℕ) (fields : ℕ) (q : Place)
    → Cells types ss w top e → at e q ≡ free → slot_at types e q ss ≡ some s → 1 ≤ s.room → field_types types s.type c ≡ some us
    → us ≡ bytes_at file fields k → 5 * (top + k) ≤ length w
    → Binds w w' (cell_of w q) c top k (bytes_at file fields k) (cell_word w (cell_of w q) 3 - 1)
    → Cells types ss w' (top + k) (bind_at q c k e) × Unmoved w w' e × ((j : ℕ) → cell_of w' (field q j) ≡ top + j)
bound_cells {w = w} {s = s} file fields q cells unbound known deep typed same fits binds =
    let room : cell_word w (cell_of w q) 3 ≡ s.room = (cells.slot q s (free_there unbound) known).1 in
    let walks = bind_walks q cells unbound binds in
    (bind_cells q cells unbound known (omega arith) (rw same at typed) fits binds, walks.0, walks.1)

-- to open a bound part again gives words that stand for the input before the bind, whatever was written since, if they stood for the input with
-- the part bound and every part of the input before is in the cell where it was
pub reopened :
    {types : Types} {ss : List Slot} {w v w' : List ℕ} {top high : ℕ} {e : Parts} (q : Place) (c k : ℕ) → Cells types ss w top e → at e q ≡ free
    → Cells types ss v high (bind_at q c k e) → Unmoved w v e → w' ≡ set v (5 * cell_of w q) 0 → Unmoved w w' e × Cells types ss w' top e
reopened {types} {ss} {w} {v} {w'} {top} {high} {e} q c k before unbound after kept written = (
  moved,
  record {
    fits = rw written (simp length-set (omega (arith, after.fits, higher)));
    counted = before.counted;
    in_use = λ r t. rw (moved r t) (before.in_use r t);
    apart = λ r r' t t' h. before.apart r r' t t' (sym (moved r t) ∙ h ∙ moved r' t');
    head_free = λ r h. rw (moved r (free_there h)) (free_head r h (ℕ_discrete (cell_of w r) (cell_of w q)));
    head_bound = λ r d m h. rw (moved r (has_there h)) (bound_head r d m h);
    slot = slot_of;
  },
)
  where
    higher : top ≤ high
    higher = omega (arith, bind_length_exact q c k e unbound, before.counted, after.counted)

    -- every word is as it was, but for the head of the part
    other : (i : ℕ) → i ≢ 5 * cell_of w q → get_or w' i 0 ≡ get_or v i 0
    other i n = rw written (get_or-set_other v _ i 0 0 n)

    moved : Unmoved w w' e
    moved r t = walk_kept v w' 0 e (λ p d m h. other (5 * cell_of v p + 1) (omega arith)) r t ∙ kept r t

    free_head : (r : Place) → at e r ≡ free → Dec (cell_of w r ≡ cell_of w q) → cell_word w' (cell_of w r) 0 ≡ 0
    free_head r h (yes same) =
        let z : 5 * cell_of w q + 0 ≡ 5 * cell_of w q = omega arith in
        rw (same, z, written) (get_or-set_same v (5 * cell_of w q) 0 0 (omega (arith, after.fits, higher, before.in_use q (free_there unbound))))
    free_head r h (no apart) =
        let here : at (bind_at q c k e) r ≡ free = bind_elsewhere q c k e r (free_there h) (λ equal. apart (ap (cell_of w) equal)) ∙ h in
        other (5 * cell_of w r + 0) (omega arith) ∙ rw (kept r (free_there h)) at (after.head_free r here)

    bound_head : (r : Place) (d m : ℕ) → at e r ≡ has d m → cell_word w' (cell_of w r) 0 ≡ suc d
    bound_head r d m h =
        let another : r ≢ q = λ equal. free_unbound (sym unbound ∙ ap (at e) (sym equal) ∙ h) in
        let apart : cell_of w r ≢ cell_of w q = λ same. another (before.apart r q (has_there h) (free_there unbound) same) in
        let here : at (bind_at q c k e) r ≡ has d m = bind_elsewhere q c k e r (has_there h) another ∙ h in
        other (5 * cell_of w r + 0) (omega arith) ∙ rw (kept r (has_there h)) at (after.head_bound r d m here)

    slot_of : (r : Place) (s : Slot) → There (at e r) → slot_at types e r ss ≡ some s
        → (cell_word w' (cell_of w' r) 2 ≡ s.type) × (cell_word w' (cell_of w' r) 3 ≡ s.room)
    slot_of r s t h =
        let said = after.slot r s (⊑-there (bind_refines q c k e) r t) (bind_slot types q c k e r ss t ∙ h) in
        let same : (n : ℕ) → 0 < n → n < 5 → cell_word w' (cell_of w' r) n ≡ cell_word v (cell_of v r) n =
        λ n some small. rw (moved r t, kept r t) (other (5 * cell_of w r + n) (omega arith)) in
        (same 2 (omega arith) (omega arith) ∙ said.0, same 3 (omega arith) (omega arith) ∙ said.1)

-- what leaves the parts of the input with a part bound in their cells leaves those of the input before in theirs
pub unmoved_since :
    (w v v' : List ℕ) (q : Place) (c k : ℕ) (e : Parts) → Unmoved w v e → Unmoved v v' (bind_at q c k e) → Unmoved w v' e
unmoved_since w v v' q c k e then since r t = since r (⊑-there (bind_refines q c k e) r t) ∙ then r t

-- to open a part again right after the bind
pub reopened_at_once :
    {types : Types} {ss : List Slot} {w v w' us : List ℕ} {top c k room : ℕ} {e : Parts} (q : Place) → Cells types ss w top e → at e q ≡ free
    → Binds w v (cell_of w q) c top k us room → w' ≡ set v (5 * cell_of w q) 0 → Unmoved w w' e × Cells types ss w' top e
reopened_at_once {w = w} {v} {w'} {top = top} q cells unbound binds written =
    open_cells q cells unbound (rw written (simp length-set (omega (arith, binds.same_length, cells.fits)))) keeps cleared
  where
    keeps : KeptBut w w' (cell_of w q) top
    keeps = record { kept = λ i below head first. rw written (get_or-set_other v _ i 0 0 head ∙ (bind_keeps binds).kept i below head first) }

    cleared : cell_word w' (cell_of w q) 0 ≡ 0
    cleared =
        let z : 5 * cell_of w q + 0 ≡ 5 * cell_of w q = omega arith in
        rw (z, written) (get_or-set_same v (5 * cell_of w q) 0 0 (omega (arith, binds.same_length, cells.fits, cells.in_use q (free_there unbound))))
