-- What is noted in the open cells of the input, while it is bound as a closed input says: the place of the part's value in the bytes.
-- Rests on specs/Notes, on Standing, on the cells' Binding and on machine's laws of cells.
use Prim.Native.Nat.{ℕ, ◌+◌, ◌*◌, ◌-◌, ◌≤◌, ◌<◌}
use mathlib.Core.Path.{◌≡◌, refl, sym, ◌∙◌, ap, subst}
use mathlib.Core.List.{List, head?, tail, map}
use mathlib.Core.Logic.{◌⊎◌, inl, inr, ◌≢◌}
use mathlib.Core.Option.{some}
use native.Mathlib.Omega.{arith}
use lib.ListN.{length}
use Rattle.reach.specs.Syntax.{Types, Program, source_types}
use Rattle.reach.specs.Parts.{Parts, end, opened, all_open, Place, here, after, inside, free, has, at, part, within, bind_at, ◌⊑◌, ⊑-end, ⊑-open, ⊑-bind, ⊑-same, There}
use Rattle.reach.specs.Types.{Slot, field_slots, slot_at, source_slots}
use Rattle.reach.specs.Input.{input_of}
use Rattle.reach.specs.Answers.{check, accepted}
use Rattle.reach.specs.Partial.{OpenApart}
use Rattle.reach.specs.Places.{bytes_at, type_at}
use Rattle.reach.proofs.Order.{free_unbound, ⊑-there, bind_refines, bind_has, bind_below, bind_new, open_unbound, open_least}
use Rattle.reach.proofs.Depths.{typed_width}
use Rattle.reach.proofs.Places.{bytes_length}
use Rattle.reach.proofs.WellTyped.{open_apart}
use Rattle.machine.specs.Cells.{cell_word, cell_of, Cells, Binds, Unmoved}
use Rattle.machine.proofs.Cells.{field, free_there, has_there, walk_part, walk_kept, OneOf, bind_places, bind_elsewhere}
use Rattle.cells.proofs.Binding.{bound_cells}
use Rattle.values.specs.Positions.{ClosedRowStands, byte_of}
use Rattle.values.specs.Notes.{noted_place, Noted, NotesStand, FollowsInput}
use Rattle.values.proofs.Standing.{ValueStands, PartStands, input_stands, input_part_law}

-- a part keeps its slot in every row that binds at least as much
pub ⊑-slot : (types : Types) {e j : Parts} → e ⊑ j → (q : Place) (ss : List Slot) → There (at e q) → slot_at types j q ss ≡ slot_at types e q ss
unfolding at slot_at
⊑-slot types ⊑-end q ss t = absurd t
⊑-slot types (⊑-open a) here ss t = refl
⊑-slot types (⊑-open a) (after q) ss t = ⊑-slot types a q (tail ss) t
⊑-slot types (⊑-open a) (inside q) ss t = absurd t
⊑-slot types (⊑-bind a) here ss t = refl
⊑-slot types (⊑-bind a) (after q) ss t = ⊑-slot types a q (tail ss) t
⊑-slot types (⊑-bind a) (inside q) ss t = absurd t
⊑-slot types (⊑-same f a) here ss t = refl
⊑-slot types (⊑-same f a) (after q) ss t = ⊑-slot types a q (tail ss) t
⊑-slot types (⊑-same {c = c} f a) (inside q) ss t = ⊑-slot types f q (field_slots types (head? ss) c) t

-- what is noted in the cells before stays
pub noted_before :
    {file places input w w' ts : List ℕ} {first i : ℕ} → Noted file places input w w' first ts i → (x : ℕ) → x < first
    → noted_place w' x ≡ noted_place w x
noted_before noted x l =
    let low = noted.elsewhere (5 * x + 4) (λ m less. (omega arith, omega arith)) in
    let high = noted.elsewhere (5 * x + 1) (λ m less. (omega arith, omega arith)) in
    rw (low, high)

-- Notes in cells that no bound part has: every part stays in its cell, and the words stand for the same input.
module _
    {types : Types} {ss : List Slot} {file places input w w' ts : List ℕ} {top first i : ℕ} {e : Parts} (cells : Cells types ss w top e)
    (noted : Noted file places input w w' first ts i) (below : (r : Place) (c k : ℕ) → at e r ≡ has c k → cell_of w r < first)
  where
    -- words 0, 2 and 3 of every cell
    kept : (x n : ℕ) → n < 5 → n ≢ 1 → n ≢ 4 → cell_word w' x n ≡ cell_word w x n
    kept x n small high low = noted.elsewhere (5 * x + n) (λ m l. (omega arith, omega arith))

    pub noted_unmoved : Unmoved w w' e
    noted_unmoved =
        walk_kept w w' 0 e (λ r c k h. let l = below r c k h in noted.elsewhere (5 * cell_of w r + 1) (λ m less. (omega arith, omega arith)))

    pub noted_cells : Cells types ss w' top e
    noted_cells = record {
      fits = rw noted.same_length cells.fits;
      counted = cells.counted;
      in_use = λ r t. rw (noted_unmoved r t) (cells.in_use r t);
      apart = λ r r' t t' h. cells.apart r r' t t' (sym (noted_unmoved r t) ∙ h ∙ noted_unmoved r' t');
      head_free = λ r h. rw (noted_unmoved r (free_there h)) (kept (cell_of w r) 0 (omega arith) (omega arith) (omega arith) ∙ cells.head_free r h);
      head_bound = λ r c k h. rw (noted_unmoved r (has_there h)) (kept (cell_of w r) 0 (omega arith) (omega arith) (omega arith) ∙ cells.head_bound r c k h);
      slot = λ r s t h.
          rw (noted_unmoved r t) (
            kept (cell_of w r) 2 (omega arith) (omega arith) (omega arith) ∙ (cells.slot r s t h).0,
            kept (cell_of w r) 3 (omega arith) (omega arith) (omega arith) ∙ (cells.slot r s t h).1,
          );
    }

-- a place of a row of open parts is one of its numbers, as it is of the fields of a part that was just bound
open_places : (n : ℕ) (r : Place) → There (at (all_open n) r) → OneOf n part r
unfolding at bind_at within
open_places n r t = by_place (bind_places here 0 n (opened end) (inside r) refl t)
  where
    by_place : ⊥ ⊎ OneOf n (λ m. inside (part m)) (inside r) → OneOf n part r
    by_place (inl none) = absurd none
    by_place (inr f) = let same = f.2 in (f.0, f.1, cc)

-- The parameters' open cells, and in these the places from the first byte on, as `note_values` notes them: the words stand for the input with every
-- parameter open, and follow the closed one.
pub start_follows :
    {p : Program} (file types : List ℕ) → check file ≡ accepted p → p.types ≡ map (type_at file) types → (input : List ℕ) {j : Parts} {v w' ts : List ℕ} {n : ℕ}
    → input_of p input ≡ some j → ts ≡ source_types p → length ts ≡ n → Cells (map (type_at file) types) (source_slots p) v n (all_open n)
    → Noted file types input v w' 0 ts 0 → FollowsInput (map (type_at file) types) (source_slots p) w' n (all_open n) j
start_follows {p} file types checked there input {j} {v} {w'} {ts} {n} reads source count cells noted = record {
  cells = noted_cells cells noted (λ r c k h. absurd (open_unbound n r h));
  below = rw (← count, ← (typed_width p.types ts j (rw source (input_stands file checked input reads).typed))) (open_least j);
  notes = λ r h. by_part r (open_places n r (free_there h));
}
  where
    whole : ClosedRowStands (map (type_at file) types) ts input 0 j
    whole = rw (source, ← there) (input_stands file checked input reads)

    by_part : (r : Place) → OneOf n part r → noted_place w' (cell_of w' r) ≡ byte_of j r 0
    by_part r f =
        let cell : cell_of w' r ≡ 0 + f.0 = ap (cell_of w') f.2 ∙ walk_part w' 0 f.0 in
        rw cell (noted.there (subst OpenApart there (open_apart file p checked)) j whole f.0 (omega (arith, f.1)) ∙ ap (λ q. byte_of j q 0) (sym f.2))

-- At an open part of the input whose place is noted a value of the closed input j stands, of the type that its cell says; its fields are from the next byte on.
pub record OpenStands (types : Types) (ss : List Slot) (input w : List ℕ) (e j : Parts) (q : Place) : Type 0 where
  pub slot : Slot
  pub slot_there : slot_at types e q ss ≡ some slot
  pub deep : 0 < cell_word w (cell_of w q) 3
  pub number : ℕ
  pub fields : Parts
  pub stands : ValueStands types (cell_word w (cell_of w q) 2) input (noted_place w (cell_of w q)) number fields
  pub seen : at j q ≡ has number (length stands.fields)
  pub field_parts : (r : Place) → byte_of j (within q r) 0 ≡ byte_of fields r (noted_place w (cell_of w q) + 1)

open_by :
    {types : Types} {ss : List Slot} {input w : List ℕ} {e j : Parts} {q : Place} (p : PartStands types input j q ss 0) → slot_at types e q ss ≡ some p.slot
    → cell_word w (cell_of w q) 2 ≡ p.slot.type → cell_word w (cell_of w q) 3 ≡ p.slot.room → noted_place w (cell_of w q) ≡ byte_of j q 0
    → OpenStands types ss input w e j q
open_by p there type room place = record {
  slot = p.slot;
  slot_there = there;
  deep = rw room p.deep;
  number = p.number;
  fields = p.fields;
  stands = record {
    in_bytes = rw place p.stands.in_bytes;
    number = rw place p.stands.number;
    fields = p.stands.fields;
    known = rw type p.stands.known;
    inner = rw place p.stands.inner;
  };
  seen = p.seen;
  field_parts = rw place p.field_parts;
}

-- so it is where the input is bound as its closed bytes say
pub open_stands :
    {p : Program} (file types : List ℕ) → check file ≡ accepted p → p.types ≡ map (type_at file) types → (input : List ℕ) {w : List ℕ} {top : ℕ} {e j : Parts}
    → input_of p input ≡ some j → (q : Place) → FollowsInput (map (type_at file) types) (source_slots p) w top e j → at e q ≡ free
    → OpenStands (map (type_at file) types) (source_slots p) input w e j q
open_stands {p} file types checked types_there input {w} {e = e} {j} reads q follows unbound =
    let there = free_there unbound in
    let stands = subst (λ (known : Types). PartStands known input j q (source_slots p) 0) types_there (input_part_law file checked input reads q (⊑-there follows.below q there)) in
    let slot : slot_at (map (type_at file) types) e q (source_slots p) ≡ some stands.slot =
    sym (⊑-slot (map (type_at file) types) follows.below q (source_slots p) there) ∙ stands.slot_there in
    let says = follows.cells.slot q stands.slot there slot in
    open_by stands slot says.0 says.1 (follows.notes q unbound)

-- The open part at q bound to the constructor that stands at its place, with the cells from the old top on for its fields, as `bind_cell` does it, and
-- in these the places from the next byte on, as `note_values` notes them: the words stand for the input with the part bound, which the closed input
-- still completes, every part is in the cell where it was, and in each open one is noted where its value stands.
module _
    {file types input w v w' : List ℕ} {ss : List Slot} {top c k i : ℕ} {e j : Parts} (few : OpenApart (map (type_at file) types)) (fields : ℕ) (q : Place)
    (follows : FollowsInput (map (type_at file) types) ss w top e j) (unbound : at e q ≡ free)
    (open_part : OpenStands (map (type_at file) types) ss input w e j q) (constructor : c ≡ open_part.number)
    (typed : bytes_at file fields k ≡ open_part.stands.fields) (fits : 5 * (top + k) ≤ length w)
    (binds : Binds w v (cell_of w q) c top k (bytes_at file fields k) (cell_word w (cell_of w q) 3 - 1))
    (place : i ≡ noted_place w (cell_of w q)) (noted : Noted file types input v w' top (bytes_at file fields k) (i + 1))
  where
    after_bind : Cells (map (type_at file) types) ss v (top + k) (bind_at q c k e) × Unmoved w v e × ((n : ℕ) → cell_of v (field q n) ≡ top + n)
    after_bind =
        let says = follows.cells.slot q open_part.slot (free_there unbound) open_part.slot_there in
        bound_cells file fields q follows.cells unbound open_part.slot_there (omega (arith, says.1, open_part.deep))
        (rw (constructor, ← says.0) open_part.stands.known) (sym typed) fits binds

    -- every bound part has a cell below the old top
    bound_below : (r : Place) (d n : ℕ) → at (bind_at q c k e) r ≡ has d n → cell_of v r < top
    bound_below r d n h = by_new (bind_new q c k e r h)
      where
        by_new : (at e r ≡ has d n) ⊎ (r ≡ q) → cell_of v r < top
        by_new (inl old) = rw (after_bind.1 r (has_there old)) (follows.cells.in_use r (has_there old))
        by_new (inr same) = rw (same, after_bind.1 q (free_there unbound)) (follows.cells.in_use q (free_there unbound))

    unmoved : Unmoved w w' e
    unmoved r t =
        noted_unmoved after_bind.0 noted bound_below r (⊑-there (bind_refines q c k e) r t) ∙ after_bind.1 r t

    completes : bind_at q c k e ⊑ j
    completes =
        let count : length open_part.stands.fields ≡ k = ap length (sym typed) ∙ bytes_length file fields k in
        bind_below follows.below q (rw (constructor, ← count) open_part.seen)

    -- the other open parts keep what is noted in their cells
    old_note : (r : Place) → at e r ≡ free → r ≢ q → noted_place w' (cell_of w' r) ≡ byte_of j r 0
    old_note r h other =
        let there = free_there h in
        let used = follows.cells.in_use r there in
        let apart : cell_of w r ≢ cell_of w q = λ same. other (follows.cells.apart r q there (free_there unbound) same) in
        let low = binds.elsewhere (5 * cell_of w r + 4) (omega arith) (omega arith) (λ over. omega arith) in
        let high = binds.elsewhere (5 * cell_of w r + 1) (omega arith) (omega arith) (λ over. omega arith) in
        rw (unmoved r there) (noted_before noted (cell_of w r) used ∙ rw (low, high) (follows.notes r h))

    -- a field's place is noted in its new cell
    new_note : (n : ℕ) → n < k → noted_place w' (top + n) ≡ byte_of j (field q n) 0
    new_note n l =
        noted.there few open_part.fields (rw (typed, place) open_part.stands.inner) n (omega (arith, bytes_length file fields k))
        ∙ rw place (sym (open_part.field_parts (part n)))

    notes : NotesStand w' (bind_at q c k e) j
    notes r h = by_place (bind_places q c k e r unbound (free_there h))
      where
        by_place : There (at e r) ⊎ OneOf k (field q) r → noted_place w' (cell_of w' r) ≡ byte_of j r 0
        by_place (inl there) =
            let other : r ≢ q = λ same. free_unbound (sym h ∙ ap (at (bind_at q c k e)) same ∙ bind_has q c k e unbound) in
            old_note r (sym (bind_elsewhere q c k e r there other) ∙ h) other
        by_place (inr f) =
            let cell : cell_of w' r ≡ top + f.0 =
            noted_unmoved after_bind.0 noted bound_below r (free_there h) ∙ ap (cell_of v) f.2 ∙ after_bind.2 f.0 in
            rw cell (new_note f.0 f.1 ∙ ap (λ p. byte_of j p 0) (sym f.2))

    pub bound_follows : Unmoved w w' e × FollowsInput (map (type_at file) types) ss w' (top + k) (bind_at q c k e) j
    bound_follows = (unmoved, record { cells = noted_cells after_bind.0 noted bound_below; below = completes; notes = notes })
