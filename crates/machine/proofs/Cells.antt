-- The input in the lent words, kept: how the cells of a row are found, and that what the program writes to bind a part, to open it again
-- or to add records above the cells leaves words that stand for the input, with every part in the cell where it was.
-- Rests on specs/Cells and on reach's laws of partial inputs (Order) and of slots (Slots).
use Prim.Native.Nat.{ℕ, zero, suc, ◌+◌, ◌*◌, ◌≤◌, ◌<◌}
use mathlib.Core.Path.{◌≡◌, refl, sym, ◌∙◌, ap, subst}
use mathlib.Core.List.{List, head?, tail}
use mathlib.Core.Option.{some}
use mathlib.Core.Logic.{◌⊎◌, inl, inr, ◌≢◌}
use native.Mathlib.Nat.{not-suc-le-zero, le_of_suc-le-suc}
use native.Mathlib.Decide.{ℕ_discrete}
use native.Mathlib.Omega.{arith}
use lib.ListN.{length, get_or, get_elem?, length-append}
use Rattle.reach.specs.Syntax.{Types, field_types}
use Rattle.reach.specs.Parts.{Parts, end, opened, bound, all_open, Place, here, after, inside, part, within, Seen, gone, free, has, at, bind_at, HasAt, prefix, There}
use Rattle.reach.specs.Types.{Slot, even_slots, field_slots, slot_at}
use Rattle.reach.proofs.Slots.{part_slot, field_slots_law}
use Rattle.reach.proofs.Order.{constructor_of, free_unbound, ⊑-width, bind_refines, open_width, open_unbound, bind_has, bind_new}
use Rattle.machine.specs.Cells.{cell_word, cell_from, cell_of, SlotIn, Cells, OpenCells, Binds, KeptBut, Unmoved}

-- Walking.

-- to walk to a place among the fields of a part is to walk to the part, and from the cell of its first field on
pub walk_within : (w : List ℕ) (b : ℕ) (q r : Place) → cell_from w b (within q r) ≡ cell_from w (cell_word w (cell_from w b q) 1) r
unfolding cell_from within
walk_within w b here r = refl
walk_within w b (after q) r = walk_within w (b + 1) q r
walk_within w b (inside q) r = walk_within w (cell_word w b 1) q r

-- the parts of a row are cells one after the other
pub walk_part : (w : List ℕ) (b n : ℕ) → cell_from w b (part n) ≡ b + n
unfolding cell_from part
walk_part w b zero = omega arith
walk_part w b (suc n) = omega (arith, walk_part w (b + 1) n)

-- field j of the part at q
abbrev pub field : Place → ℕ → Place
field q j = within q (part j)

-- field j of a part is j cells after its first field
pub walk_field : (w : List ℕ) (q : Place) (j : ℕ) → cell_of w (field q j) ≡ cell_word w (cell_of w q) 1 + j
walk_field w q j = walk_within w 0 q (part j) ∙ walk_part w _ j

-- words with the same first field at every bound part have every part in the same cell
pub walk_kept :
    (w w' : List ℕ) (b : ℕ) (e : Parts) → ((p : Place) (c k : ℕ) → at e p ≡ has c k → cell_word w' (cell_from w b p) 1 ≡ cell_word w (cell_from w b p) 1)
    → (r : Place) → There (at e r) → cell_from w' b r ≡ cell_from w b r
unfolding cell_from at
walk_kept w w' b end kept r t = absurd t
walk_kept w w' b (opened s) kept here t = refl
walk_kept w w' b (opened s) kept (after r) t = walk_kept w w' (b + 1) s (λ p. kept (after p)) r t
walk_kept w w' b (opened s) kept (inside r) t = absurd t
walk_kept w w' b (bound c fs s) kept here t = refl
walk_kept w w' b (bound c fs s) kept (after r) t = walk_kept w w' (b + 1) s (λ p. kept (after p)) r t
walk_kept w w' b (bound c fs s) kept (inside r) t = rw (kept here c _ refl) (walk_kept w w' (cell_word w b 1) fs (λ p. kept (inside p)) r t)

-- What a bind does to the places and their slots.

-- a part that is open is there
pub free_there : {s : Seen} → s ≡ free → There s
free_there h = subst There (sym h) tt

not_free : {c k : ℕ} {A : Type 0} → has c k ≡ free → A
not_free h = absurd (free_unbound (sym h))

-- the place is one of the first k places of a row
abbrev pub OneOf : ℕ → (ℕ → Place) → Place → Type 0
OneOf k places r = (j : ℕ) × (j < k) × (r ≡ places j)

-- a row of open parts has open parts at its numbers and nothing elsewhere
open_part : (k j : ℕ) → j < k → at (all_open k) (part j) ≡ free
unfolding at all_open part
open_part zero j l = absurd (not-suc-le-zero l)
open_part (suc k) zero l = refl
open_part (suc k) (suc j) l = open_part k j (le_of_suc-le-suc l)

open_places : (k : ℕ) (r : Place) → There (at (all_open k) r) → OneOf k part r
unfolding at all_open part
open_places zero r t = absurd t
open_places (suc k) here t = (zero, omega arith, refl)
open_places (suc k) (after r) t =
    let h = open_places k r t in
    (suc h.0, omega (arith, h.1), ap after h.2)
open_places (suc k) (inside r) t = absurd t

open_slot : (types : Types) (k j : ℕ) (ss : List Slot) → j < k → slot_at types (all_open k) (part j) ss ≡ get_elem? ss j
open_slot types k j ss l = part_slot types (all_open k) j ss (omega (arith, l, open_width k))

-- the fields of the bound part are open
pub bind_field : (q : Place) (c k j : ℕ) (e : Parts) → at e q ≡ free → j < k → at (bind_at q c k e) (field q j) ≡ free
unfolding at bind_at within
bind_field q c k j end h l = absurd (free_there h)
bind_field here c k j (opened r) h l = open_part k j l
bind_field (after q) c k j (opened r) h l = bind_field q c k j r h l
bind_field (inside q) c k j (opened r) h l = absurd (free_there h)
bind_field here c k j (bound d fs r) h l = not_free h
bind_field (after q) c k j (bound d fs r) h l = bind_field q c k j r h l
bind_field (inside q) c k j (bound d fs r) h l = bind_field q c k j fs h l

further : {A : Type 0} {k : ℕ} {r : Place} {places : ℕ → Place} (f : Place → Place) → A ⊎ OneOf k places r → A ⊎ OneOf k (λ j. f (places j)) (f r)
further f (inl a) = inl a
further f (inr h) = inr (h.0, h.1, ap f h.2)

-- a place that is there after the bind was there before, or is one of the fields
pub bind_places :
    (q : Place) (c k : ℕ) (e : Parts) (r : Place) → at e q ≡ free → There (at (bind_at q c k e) r) → There (at e r) ⊎ OneOf k (field q) r
unfolding at bind_at within
bind_places q c k end r h t = absurd t
bind_places here c k (opened s) here h t = inl tt
bind_places here c k (opened s) (after r) h t = inl t
bind_places here c k (opened s) (inside r) h t =
    let p = open_places k r t in
    inr (p.0, p.1, ap inside p.2)
bind_places (after q) c k (opened s) here h t = inl tt
bind_places (after q) c k (opened s) (after r) h t = further after (bind_places q c k s r h t)
bind_places (after q) c k (opened s) (inside r) h t = absurd t
bind_places (inside q) c k (opened s) r h t = absurd (free_there h)
bind_places here c k (bound d fs s) r h t = not_free h
bind_places (after q) c k (bound d fs s) here h t = inl tt
bind_places (after q) c k (bound d fs s) (after r) h t = further after (bind_places q c k s r h t)
bind_places (after q) c k (bound d fs s) (inside r) h t = inl t
bind_places (inside q) c k (bound d fs s) here h t = inl tt
bind_places (inside q) c k (bound d fs s) (after r) h t = inl t
bind_places (inside q) c k (bound d fs s) (inside r) h t = further inside (bind_places q c k fs r h t)

-- any other place that was there is as before
pub bind_elsewhere : (q : Place) (c k : ℕ) (e : Parts) (r : Place) → There (at e r) → r ≢ q → at (bind_at q c k e) r ≡ at e r
unfolding at bind_at
bind_elsewhere q c k end r t n = refl
bind_elsewhere here c k (opened s) here t n = absurd (n refl)
bind_elsewhere here c k (opened s) (after r) t n = refl
bind_elsewhere here c k (opened s) (inside r) t n = absurd t
bind_elsewhere (after q) c k (opened s) here t n = refl
bind_elsewhere (after q) c k (opened s) (after r) t n = bind_elsewhere q c k s r t (λ e. n (ap after e))
bind_elsewhere (after q) c k (opened s) (inside r) t n = refl
bind_elsewhere (inside q) c k (opened s) r t n = refl
bind_elsewhere here c k (bound d fs s) r t n = refl
bind_elsewhere (after q) c k (bound d fs s) here t n = refl
bind_elsewhere (after q) c k (bound d fs s) (after r) t n = bind_elsewhere q c k s r t (λ e. n (ap after e))
bind_elsewhere (after q) c k (bound d fs s) (inside r) t n = refl
bind_elsewhere (inside q) c k (bound d fs s) here t n = ap (has d) (sym (⊑-width (bind_refines q c k fs)))
bind_elsewhere (inside q) c k (bound d fs s) (after r) t n = refl
bind_elsewhere (inside q) c k (bound d fs s) (inside r) t n = bind_elsewhere q c k fs r t (λ e. n (ap inside e))

-- every place that was there has its slot
pub bind_slot :
    (types : Types) (q : Place) (c k : ℕ) (e : Parts) (r : Place) (ss : List Slot) → There (at e r)
    → slot_at types (bind_at q c k e) r ss ≡ slot_at types e r ss
unfolding at bind_at slot_at
bind_slot types q c k end r ss t = refl
bind_slot types here c k (opened s) here ss t = refl
bind_slot types here c k (opened s) (after r) ss t = refl
bind_slot types here c k (opened s) (inside r) ss t = absurd t
bind_slot types (after q) c k (opened s) here ss t = refl
bind_slot types (after q) c k (opened s) (after r) ss t = bind_slot types q c k s r (tail ss) t
bind_slot types (after q) c k (opened s) (inside r) ss t = refl
bind_slot types (inside q) c k (opened s) r ss t = refl
bind_slot types here c k (bound d fs s) r ss t = refl
bind_slot types (after q) c k (bound d fs s) here ss t = refl
bind_slot types (after q) c k (bound d fs s) (after r) ss t = bind_slot types q c k s r (tail ss) t
bind_slot types (after q) c k (bound d fs s) (inside r) ss t = refl
bind_slot types (inside q) c k (bound d fs s) here ss t = refl
bind_slot types (inside q) c k (bound d fs s) (after r) ss t = refl
bind_slot types (inside q) c k (bound d fs s) (inside r) ss t = bind_slot types q c k fs r (field_slots types (head? ss) d) t

-- field j has the j-th slot of the constructor's fields
pub bind_field_slot :
    (types : Types) (q : Place) (c k j : ℕ) (e : Parts) (ss : List Slot) → at e q ≡ free → j < k
    → slot_at types (bind_at q c k e) (field q j) ss ≡ get_elem? (field_slots types (slot_at types e q ss) c) j
unfolding at bind_at slot_at within
bind_field_slot types q c k j end ss h l = absurd (free_there h)
bind_field_slot types here c k j (opened r) ss h l = open_slot types k j (field_slots types (head? ss) c) l
bind_field_slot types (after q) c k j (opened r) ss h l = bind_field_slot types q c k j r (tail ss) h l
bind_field_slot types (inside q) c k j (opened r) ss h l = absurd (free_there h)
bind_field_slot types here c k j (bound d fs r) ss h l = not_free h
bind_field_slot types (after q) c k j (bound d fs r) ss h l = bind_field_slot types q c k j r (tail ss) h l
bind_field_slot types (inside q) c k j (bound d fs r) ss h l = bind_field_slot types q c k j fs (field_slots types (head? ss) d) h l

-- a row of n open parts has n parts
open_length : (n : ℕ) → length (prefix (all_open n)) ≡ n
unfolding all_open prefix
open_length zero = refl
open_length (suc n) = ap suc (open_length n)

-- a bind adds as many parts as the constructor has fields
pub bind_length_exact : (q : Place) (c k : ℕ) (e : Parts) → at e q ≡ free → length (prefix (bind_at q c k e)) ≡ length (prefix e) + k
unfolding at bind_at prefix
bind_length_exact q c k end h = absurd (free_there h)
bind_length_exact here c k (opened r) h = omega (arith, length-append (prefix (all_open k)) (prefix r), open_length k)
bind_length_exact (after q) c k (opened r) h = omega (arith, bind_length_exact q c k r h)
bind_length_exact (inside q) c k (opened r) h = absurd (free_there h)
bind_length_exact here c k (bound d fs r) h = not_free h
bind_length_exact (after q) c k (bound d fs r) h =
    omega (arith, bind_length_exact q c k r h, length-append (prefix fs) (prefix r), length-append (prefix fs) (prefix (bind_at q c k r)))
bind_length_exact (inside q) c k (bound d fs r) h =
    omega (arith, bind_length_exact q c k fs h, length-append (prefix fs) (prefix r), length-append (prefix (bind_at q c k fs)) (prefix r))

-- Words that are as before but for words 0 and 1 of the cell of an open part.

-- a part that is bound is there
pub has_there : {s : Seen} {c k : ℕ} → s ≡ has c k → There s
has_there h = subst There (sym h) tt

module _
    {types : Types} {ss : List Slot} {w w' : List ℕ} {top : ℕ} {e : Parts} (q : Place)
    (cells : Cells types ss w top e) (unbound : at e q ≡ free) (keeps : KeptBut w w' (cell_of w q) top)
  where
    -- every other part has all its words, since its cell is another
    part_kept : (r : Place) → There (at e r) → r ≢ q → (n : ℕ) → n < 5 → cell_word w' (cell_of w r) n ≡ cell_word w (cell_of w r) n
    part_kept r t other n l =
        let apart : cell_of w r ≢ cell_of w q = λ same. other (cells.apart r q t (free_there unbound) same) in
        keeps.kept (5 * cell_of w r + n) (omega (arith, cells.in_use r t)) (omega arith) (omega arith)

    bound_kept : (r : Place) {c k : ℕ} → at e r ≡ has c k → (n : ℕ) → n < 5 → cell_word w' (cell_of w r) n ≡ cell_word w (cell_of w r) n
    bound_kept r h = part_kept r (has_there h) (λ same. free_unbound (sym unbound ∙ ap (at e) (sym same) ∙ h))

    -- every part has its words from word 2 on
    slot_kept : (r : Place) → There (at e r) → (n : ℕ) → n < 5 → 2 ≤ n → cell_word w' (cell_of w r) n ≡ cell_word w (cell_of w r) n
    slot_kept r t n l late = keeps.kept (5 * cell_of w r + n) (omega (arith, cells.in_use r t)) (omega arith) (omega arith)

    -- and every part is in its cell
    unmoved : Unmoved w w' e
    unmoved = walk_kept w w' 0 e (λ r c k h. bound_kept r h 1 (omega arith))

-- The words after a bind.

-- a bind keeps the words of the cells in use, but for words 0 and 1 of the bound cell
pub bind_keeps : {w w' us : List ℕ} {x c top k d : ℕ} → Binds w w' x c top k us d → KeptBut w w' x top
bind_keeps binds = record { kept = λ i below a b. binds.elsewhere i a b (λ h. absurd (omega arith)) }

-- binding refines exactly one place and moves no other: every part stays in its cell, and the fields are the cells from the old top on
pub bind_walks :
    {types : Types} {ss : List Slot} {w w' us : List ℕ} {top c k d : ℕ} {e : Parts} (q : Place) → Cells types ss w top e → at e q ≡ free
    → Binds w w' (cell_of w q) c top k us d → Unmoved w w' e × ((j : ℕ) → cell_of w' (field q j) ≡ top + j)
bind_walks {w' = w'} q cells unbound binds =
    let old = unmoved q cells unbound (bind_keeps binds) in
    (old, λ j. walk_field w' q j ∙ rw (old q (free_there unbound), binds.first_field))

-- the words after a bind stand for the input with the part bound
pub bind_cells :
    {types : Types} {ss : List Slot} {w w' us : List ℕ} {top c k d : ℕ} {e : Parts} {s : Slot} (q : Place) → Cells types ss w top e → at e q ≡ free
    → slot_at types e q ss ≡ some s → s.room ≡ suc d → field_types types s.type c ≡ some us → 5 * (top + k) ≤ length w
    → Binds w w' (cell_of w q) c top k us d → Cells types ss w' (top + k) (bind_at q c k e)
bind_cells {types} {ss} {w} {w'} {us} {top} {c} {k} {d} {e} {s} q cells unbound known room typed fits binds = record {
  fits = rw binds.same_length fits;
  counted = bind_length_exact q c k e unbound ∙ ap (λ n. n + k) cells.counted;
  in_use = λ r t. use_of r (places r t);
  apart = λ r r' t t'. apart_of r r' (places r t) (places r' t');
  head_free = λ r h. free_of r h (places r (free_there h));
  head_bound = λ r b m h. bound_of r b m h (bind_new q c k e r h);
  slot = λ r z t h. slot_of r z h (places r t);
}
  where
    keeps : KeptBut w w' (cell_of w q) top
    keeps = bind_keeps binds

    old : Unmoved w w' e
    old = (bind_walks q cells unbound binds).0

    new : (r : Place) (f : OneOf k (field q) r) → cell_of w' r ≡ top + f.0
    new r f = ap (cell_of w') f.2 ∙ (bind_walks q cells unbound binds).1 f.0

    places : (r : Place) → There (at (bind_at q c k e) r) → There (at e r) ⊎ OneOf k (field q) r
    places r t = bind_places q c k e r unbound t

    use_of : (r : Place) → There (at e r) ⊎ OneOf k (field q) r → cell_of w' r < top + k
    use_of r (inl t) = omega (arith, old r t, cells.in_use r t)
    use_of r (inr f) = omega (arith, new r f, f.1)

    apart_of : (r r' : Place) → There (at e r) ⊎ OneOf k (field q) r → There (at e r') ⊎ OneOf k (field q) r' → cell_of w' r ≡ cell_of w' r' → r ≡ r'
    apart_of r r' (inl t) (inl t') h = cells.apart r r' t t' (sym (old r t) ∙ h ∙ old r' t')
    apart_of r r' (inl t) (inr f) h = absurd (omega (arith, old r t, cells.in_use r t, h, new r' f))
    apart_of r r' (inr f) (inl t) h = absurd (omega (arith, old r' t, cells.in_use r' t, h, new r f))
    apart_of r r' (inr f) (inr g) h =
        let same : f.0 ≡ g.0 = omega (arith, h, new r f, new r' g) in
        f.2 ∙ ap (field q) same ∙ sym g.2

    free_of : (r : Place) → at (bind_at q c k e) r ≡ free → There (at e r) ⊎ OneOf k (field q) r → cell_word w' (cell_of w' r) 0 ≡ 0
    free_of r h (inl t) =
        let other : r ≢ q = λ same. free_unbound (sym h ∙ ap (at (bind_at q c k e)) same ∙ bind_has q c k e unbound) in
        let before : at e r ≡ free = sym (bind_elsewhere q c k e r t other) ∙ h in
        rw (old r t) (part_kept q cells unbound keeps r t other 0 (omega arith) ∙ cells.head_free r before)
    free_of r h (inr f) = rw (new r f) (binds.fields.no_head f.0 f.1)

    bound_of : (r : Place) (b m : ℕ) → at (bind_at q c k e) r ≡ has b m → (at e r ≡ has b m) ⊎ (r ≡ q) → cell_word w' (cell_of w' r) 0 ≡ suc b
    bound_of r b m h (inl g) = rw (old r (has_there g)) (bound_kept q cells unbound keeps r g 0 (omega arith) ∙ cells.head_bound r b m g)
    bound_of r b m h (inr same) =
        let number : c ≡ b = ap constructor_of (sym (bind_has q c k e unbound) ∙ ap (at (bind_at q c k e)) (sym same) ∙ h) in
        rw (same, old q (free_there unbound), ← number) binds.new_head

    field_slot : (r : Place) (f : OneOf k (field q) r) → slot_at types (bind_at q c k e) r ss ≡ get_elem? (even_slots us d) f.0
    field_slot r f = rw (f.2, ← field_slots_law types s c d us (omega (arith, room)) typed, ← known) (bind_field_slot types q c k f.0 e ss unbound f.1)

    slot_of : (r : Place) (z : Slot) → slot_at types (bind_at q c k e) r ss ≡ some z → There (at e r) ⊎ OneOf k (field q) r → SlotIn w' (cell_of w' r) z
    slot_of r z h (inl t) =
        let before = cells.slot r z t (sym (bind_slot types q c k e r ss t) ∙ h) in
        let kept = slot_kept q cells unbound keeps r t in
        rw (old r t) (kept 2 (omega arith) (omega arith) ∙ before.0, kept 3 (omega arith) (omega arith) ∙ before.1)
    slot_of r z h (inr f) = rw (new r f) (binds.fields.slot_of f.0 f.1 z (sym (field_slot r f) ∙ h))

-- open cells from cell 0 on stand for the input with every parameter open
pub start_cells :
    {types : Types} {ss : List Slot} {w : List ℕ} {n : ℕ} → 5 * n ≤ length w → OpenCells w 0 n ss → Cells types ss w n (all_open n)
start_cells {types} {ss} {w} {n} fits cells = record {
  fits = fits;
  counted = open_length n;
  in_use = λ r t. use_of r (open_places n r t);
  apart = λ r r' t t'. apart_of r r' (open_places n r t) (open_places n r' t');
  head_free = λ r h. free_of r (open_places n r (free_there h));
  head_bound = λ r c k h. absurd (open_unbound n r h);
  slot = λ r s t h. slot_of r s h (open_places n r t);
}
  where
    cell : (r : Place) (f : OneOf n part r) → cell_of w r ≡ 0 + f.0
    cell r f = ap (cell_of w) f.2 ∙ walk_part w 0 f.0

    use_of : (r : Place) → OneOf n part r → cell_of w r < n
    use_of r f = omega (arith, cell r f, f.1)

    apart_of : (r r' : Place) → OneOf n part r → OneOf n part r' → cell_of w r ≡ cell_of w r' → r ≡ r'
    apart_of r r' f g h =
        let same : f.0 ≡ g.0 = omega (arith, h, cell r f, cell r' g) in
        f.2 ∙ ap part same ∙ sym g.2

    free_of : (r : Place) → OneOf n part r → cell_word w (cell_of w r) 0 ≡ 0
    free_of r f = rw (cell r f) (cells.no_head f.0 f.1)

    slot_of : (r : Place) (s : Slot) → slot_at types (all_open n) r ss ≡ some s → OneOf n part r → SlotIn w (cell_of w r) s
    slot_of r s h f =
        let place = ap (λ p. slot_at types (all_open n) p ss) f.2 in
        rw (cell r f) (cells.slot_of f.0 f.1 s (sym (open_slot types n f.0 ss f.1) ∙ sym place ∙ h))

-- Words that stand for the input as before.

-- every part is in its cell, and all words of its cell but word 1 are as before
same_cells :
    {types : Types} {ss : List Slot} {w w' : List ℕ} {top : ℕ} {e : Parts} → Cells types ss w top e → 5 * top ≤ length w' → Unmoved w w' e
    → ((r : Place) → There (at e r) → (n : ℕ) → n < 5 → n ≢ 1 → cell_word w' (cell_of w r) n ≡ cell_word w (cell_of w r) n) → Cells types ss w' top e
same_cells cells fits old same = record {
  fits = fits;
  counted = cells.counted;
  in_use = λ r t. rw (old r t) (cells.in_use r t);
  apart = λ r r' t t' h. cells.apart r r' t t' (sym (old r t) ∙ h ∙ old r' t');
  head_free = λ r h. rw (old r (free_there h)) (same r (free_there h) 0 (omega arith) (omega arith) ∙ cells.head_free r h);
  head_bound = λ r c k h. rw (old r (has_there h)) (same r (has_there h) 0 (omega arith) (omega arith) ∙ cells.head_bound r c k h);
  slot = λ r s t h. rw (old r t) (same r t 2 (omega arith) (omega arith) ∙ (cells.slot r s t h).0, same r t 3 (omega arith) (omega arith) ∙ (cells.slot r s t h).1);
}

-- what is written above the cells in use changes nothing
pub kept_cells :
    {types : Types} {ss : List Slot} {w : List ℕ} (w' : List ℕ) {top : ℕ} {e : Parts} → Cells types ss w top e → 5 * top ≤ length w'
    → ((i : ℕ) → i < 5 * top → get_or w' i 0 ≡ get_or w i 0) → Unmoved w w' e × Cells types ss w' top e
kept_cells {w = w} w' {e = e} cells fits kept = (old, same_cells cells fits old (λ r t n l other. same r t n l))
  where
    same : (r : Place) → There (at e r) → (n : ℕ) → n < 5 → cell_word w' (cell_of w r) n ≡ cell_word w (cell_of w r) n
    same r t n l = kept (5 * cell_of w r + n) (omega (arith, cells.in_use r t))

    old : Unmoved w w' e
    old = walk_kept w w' 0 e (λ r c k h. same r (has_there h) 1 (omega arith))

-- to open a part again its head is set to 0: the words then stand for the input before the bind, with the cells that were in use before it
pub open_cells :
    {types : Types} {ss : List Slot} {w w' : List ℕ} {top : ℕ} {e : Parts} (q : Place) → Cells types ss w top e → at e q ≡ free → 5 * top ≤ length w'
    → KeptBut w w' (cell_of w q) top → cell_word w' (cell_of w q) 0 ≡ 0 → Unmoved w w' e × Cells types ss w' top e
open_cells {w = w} {w' = w'} {e = e} q cells unbound fits keeps cleared =
    (old, same_cells cells fits old (λ r t n l. same r t (ℕ_discrete (cell_of w r) (cell_of w q)) n l))
  where
    old : Unmoved w w' e
    old = unmoved q cells unbound keeps

    same : (r : Place) → There (at e r) → Dec (cell_of w r ≡ cell_of w q) → (n : ℕ) → n < 5 → n ≢ 1 → cell_word w' (cell_of w r) n ≡ cell_word w (cell_of w r) n
    same r t (no apart) n l other = part_kept q cells unbound keeps r t (λ equal. apart (ap (cell_of w) equal)) n l
    same r t (yes equal) zero l other = rw equal (cleared ∙ sym (cells.head_free q unbound))
    same r t (yes equal) (suc n) l other = slot_kept q cells unbound keeps r t (suc n) l (omega arith)

-- What the head of a cell tells: 0 that the part is open, any other number the constructor.

pub head_open :
    {types : Types} {ss : List Slot} {w : List ℕ} {top : ℕ} {e : Parts} → Cells types ss w top e → (r : Place) → There (at e r)
    → cell_word w (cell_of w r) 0 ≡ 0 → at e r ≡ free
head_open {e = e} cells r t head = by_seen (at e r) refl t
  where
    by_seen : (s : Seen) → at e r ≡ s → There s → at e r ≡ free
    by_seen gone h t = absurd t
    by_seen free h t = h
    by_seen (has c k) h t = absurd (omega (arith, head, cells.head_bound r c k h))

pub head_constructor :
    {types : Types} {ss : List Slot} {w : List ℕ} {top : ℕ} {e : Parts} → Cells types ss w top e → (r : Place) → There (at e r) → (c : ℕ)
    → cell_word w (cell_of w r) 0 ≡ suc c → HasAt e r c
head_constructor {e = e} cells r t c head = by_seen (at e r) refl t
  where
    by_seen : (s : Seen) → at e r ≡ s → There s → HasAt e r c
    by_seen gone h t = absurd t
    by_seen free h t = absurd (omega (arith, head, cells.head_free r h))
    by_seen (has b k) h t =
        let same : b ≡ c = omega (arith, head, cells.head_bound r b k h) in
        (k, rw same at h)
