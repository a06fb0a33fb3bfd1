-- What is written to open a cell, a row of cells, and the cells of a bound part's fields: the words after it.
-- Rests on specs/Writes, machine's Cells and reach's Places and Slots.
use Prim.Native.Nat.{ℕ, zero, suc, ◌+◌, ◌*◌, ◌≤◌, ◌<◌}
use mathlib.Core.Path.{◌≡◌, refl, sym, ◌∙◌, ap}
use mathlib.Core.List.{List}
use mathlib.Core.Logic.{◌≢◌}
use mathlib.Core.Option.{some, some-injective}
use native.Mathlib.Numerals.{add-one}
use native.Mathlib.Omega.{arith}
use lib.ListN.{length, get_or, get_elem?, set, length-set}
use lib.Seq.{get_or-set_same, get_or-set_other}
use borrow.Author.Count.{below_more}
use Rattle.reach.specs.Types.{Slot, slots, even_slots}
use Rattle.reach.specs.Places.{bytes_at}
use Rattle.reach.proofs.Places.{bytes_length}
use Rattle.reach.proofs.Slots.{slots_nth, even_nth}
use Rattle.machine.specs.Cells.{cell_word, SlotIn, Binds}
use Rattle.cells.specs.Writes.{open_cell, Opens}

-- The bytes from a place on.

pub bytes_nth : (s : List ℕ) (i n j : ℕ) → j < n → get_or (bytes_at s i n) j 0 ≡ get_or s (i + j) 0
unfolding bytes_at
bytes_nth s i zero j l = absurd (omega arith)
bytes_nth s i (suc n) zero l =
    let z : i + 0 ≡ i = omega arith in
    rw z
bytes_nth s i (suc n) (suc j) l =
    let z : i + 1 + j ≡ i + suc j = omega arith in
    bytes_nth s (i + 1) n j (omega arith) ∙ ap (λ m. get_or s m 0) z

-- One open cell.

module _ (w : List ℕ) (x t room : ℕ) where
  pub open_length : length (open_cell w x t room) ≡ length w
  unfolding open_cell
  open_length = simp length-set

  pub open_other : (i : ℕ) → i ≢ 5 * x → i ≢ 5 * x + 2 → i ≢ 5 * x + 3 → get_or (open_cell w x t room) i 0 ≡ get_or w i 0
  unfolding open_cell
  open_other i head type deep =
      let u = set w (5 * x) 0 in
      get_or-set_other (set u (5 * x + 2) t) _ i room 0 deep ∙ get_or-set_other u _ i t 0 type ∙ get_or-set_other w _ i 0 0 head

module _ (w : List ℕ) (x t room : ℕ) (fits : 5 * x + 5 ≤ length w) where
  pub open_head : cell_word (open_cell w x t room) x 0 ≡ 0
  unfolding open_cell
  open_head =
      let u = set w (5 * x) 0 in
      let z : 5 * x + 0 ≡ 5 * x = omega arith in
      let type : 5 * x ≢ 5 * x + 2 = omega arith in
      let deep : 5 * x ≢ 5 * x + 3 = omega arith in
      rw z (get_or-set_other (set u (5 * x + 2) t) _ _ room 0 deep ∙ get_or-set_other u _ _ t 0 type ∙ get_or-set_same w (5 * x) 0 0 (omega arith))

  pub open_type : cell_word (open_cell w x t room) x 2 ≡ t
  unfolding open_cell
  open_type =
      let u = set w (5 * x) 0 in
      let deep : 5 * x + 2 ≢ 5 * x + 3 = omega arith in
      get_or-set_other (set u (5 * x + 2) t) _ _ room 0 deep ∙ get_or-set_same u (5 * x + 2) t 0 (simp length-set (omega arith))

  pub open_room : cell_word (open_cell w x t room) x 3 ≡ room
  unfolding open_cell
  open_room = get_or-set_same (set (set w (5 * x) 0) (5 * x + 2) t) (5 * x + 3) room 0 (simp length-set (omega arith))

-- A row of open cells, made one after the other.

pub opens_none : (w : List ℕ) (b : ℕ) (ss : List Slot) → Opens w w b 0 ss
opens_none w b ss = record {
  same_length = refl;
  cells = record { no_head = λ j l. absurd (omega arith); slot_of = λ j l. absurd (omega arith) };
  elsewhere = λ i out. refl;
}

pub opens_more :
    {w v : List ℕ} {ss : List Slot} {b n : ℕ} (s : Slot) → Opens w v b n ss → get_elem? ss n ≡ some s → 5 * (b + n) + 5 ≤ length v
    → Opens w (open_cell v (b + n) s.type s.room) b (n + 1) ss
opens_more {w} {v} {ss} {b} {n} s made slot fits = record {
  same_length = open_length v _ _ _ ∙ made.same_length;
  cells = record {
    no_head = below_more _ _ (λ j l. kept j l 0 (omega arith) ∙ made.cells.no_head j l) (open_head v _ _ _ fits);
    slot_of = below_more _ _ said new;
  };
  elsewhere = λ i out.
      open_other v (b + n) _ _ i (λ e. omega (arith, out (omega arith))) (λ e. omega (arith, out (omega arith))) (λ e. omega (arith, out (omega arith)))
      ∙ made.elsewhere i (λ l. omega (arith, out l));
}
  where
    -- the cells that were made before keep their words
    kept : (j : ℕ) → j < n → (m : ℕ) → m < 5 → cell_word (open_cell v (b + n) s.type s.room) (b + j) m ≡ cell_word v (b + j) m
    kept j l m small = open_other v (b + n) _ _ (5 * (b + j) + m) (omega arith) (omega arith) (omega arith)

    said : (j : ℕ) → j < n → (z : Slot) → get_elem? ss j ≡ some z → SlotIn (open_cell v (b + n) s.type s.room) (b + j) z
    said j l z is =
        let before = made.cells.slot_of j l z is in
        (kept j l 2 (omega arith) ∙ before.0, kept j l 3 (omega arith) ∙ before.1)

    new : (z : Slot) → get_elem? ss n ≡ some z → SlotIn (open_cell v (b + n) s.type s.room) (b + n) z
    new z is = rw (← some-injective _ _ (sym slot ∙ is)) (open_type v _ _ _ fits, open_room v _ _ _ fits)

-- the same for a row of one depth whose types are bytes of the file
pub opens_next :
    {w v v' : List ℕ} {first n t : ℕ} (file : List ℕ) (fields k room : ℕ) → Opens w v first n (even_slots (bytes_at file fields k) room)
    → 5 * (first + k) ≤ length w → n < k → t ≡ get_or file (fields + n) 0 → v' ≡ open_cell v (first + n) t room
    → Opens w v' first (n + 1) (even_slots (bytes_at file fields k) room)
opens_next {n = n} file fields k room made fits some_left read written =
    let typed : get_or (bytes_at file fields k) n 0 ≡ get_or file (fields + n) 0 = bytes_nth file fields k n (omega arith) in
    let slot = even_nth (bytes_at file fields k) room n (omega (arith, bytes_length file fields k)) in
    rw (written, read, ← typed) (opens_more _ made slot (omega (arith, made.same_length)))

-- the same for the parameters, of which n are made: each has a depth of its own
pub starts_next :
    {w v v' : List ℕ} {n t room : ℕ} (file : List ℕ) (fields k : ℕ) (depths : List ℕ) → Opens w v 0 n (slots (bytes_at file fields k) depths)
    → 5 * k ≤ length w → n < k → t ≡ get_or file (fields + n) 0 → room ≡ get_or depths n 0
    → v' ≡ open_cell v n t room → Opens w v' 0 (n + 1) (slots (bytes_at file fields k) depths)
starts_next {n = n} file fields k depths made fits some_left read deep written =
    let number : 0 + n ≡ n = omega arith in
    let typed : get_or (bytes_at file fields k) n 0 ≡ get_or file (fields + n) 0 = bytes_nth file fields k n (omega arith) in
    let slot = slots_nth (bytes_at file fields k) depths n (omega (arith, bytes_length file fields k)) in
    let more = opens_more _ made slot (omega (arith, made.same_length)) in
    rw (written, read, deep, ← typed) (rw number at more)

-- A bind: the head and the first field's cell are set, then the fields' cells are opened.
pub binds :
    {w w' ts : List ℕ} {x c top k below room : ℕ} → x < top → 5 * (top + k) ≤ length w → below ≡ room
    → Opens (set (set w (5 * x) (c + 1)) (5 * x + 1) top) w' top k (even_slots ts below) → Binds w w' x c top k ts room
binds {w} {w'} {ts} {x} {c} {top} {k} used fits same made = record {
  same_length = made.same_length ∙ simp length-set;
  new_head =
      let z : 5 * x + 0 ≡ 5 * x = omega arith in
      let first : 5 * x ≢ 5 * x + 1 = omega arith in
      rw z (kept (5 * x) (omega arith) ∙ get_or-set_other (set w (5 * x) (c + 1)) _ _ top 0 first ∙ get_or-set_same w (5 * x) (c + 1) 0 (omega arith) ∙ add-one c);
  first_field = kept (5 * x + 1) (omega arith) ∙ get_or-set_same (set w (5 * x) (c + 1)) (5 * x + 1) top 0 (simp length-set (omega arith));
  fields = rw same at made.cells;
  elsewhere = λ i head first out. made.elsewhere i out ∙ get_or-set_other (set w (5 * x) (c + 1)) _ i top 0 first ∙ get_or-set_other w _ i (c + 1) 0 head;
}
  where
    -- the cells in use keep their words while the fields' cells are opened
    kept : (i : ℕ) → i < 5 * top → get_or w' i 0 ≡ get_or (set (set w (5 * x) (c + 1)) (5 * x + 1) top) i 0
    kept i l = made.elsewhere i (λ h. absurd (omega arith))
