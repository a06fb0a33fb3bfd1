-- Reading a row with a stack: what the rows that wait make of the row above them, and what each turn of the loop does to row and stack.
-- Rests on rows' Stack and Rows.
use Prim.Native.Nat.{ℕ, zero, suc, max, ◌+◌, ◌-◌, ◌≤◌, ◌<◌}
use mathlib.Core.Path.{◌≡◌, refl, sym, ap, ◌∙◌}
use mathlib.Core.List.{List, [], ◌∷◌}
use Rattle.std.specs.Prelude.{Option, Some, None}
use lib.ListN.{length, get_or, set, length-set}
use lib.Seq.{get_or-set_same, get_or-set_other}
use native.Mathlib.Numerals.{add-one}
use native.Mathlib.Omega.{arith}
use Rattle.reach.specs.Places.{bytes_at}
use Rattle.rows.specs.declared.Measured.{Measured}
use Rattle.rows.specs.declared.Row.{Row}
use Rattle.rows.specs.declared.First.{First}
use Rattle.rows.specs.Values.{measured, of_value, of_row, value_at, row_at}
use Rattle.rows.specs.Stack.{joined, above, past_of, Low, of_rest, of_first, NearFirst}
use Rattle.rows.proofs.Rows.{joined_twice, row_done, row_next, row_stops}

-- ---- the rows that wait

-- the row at a place of the stack
abbrev pub row_of : List Row → ℕ → Row
row_of stack i = get_or stack i (record { field = 0; more = 0; deep = 0 })

-- those below place n, the last one first
unfoldable pub frames : List Row → ℕ → List Row
frames stack zero = []
frames stack (suc n) = row_of stack n ∷ frames stack n

pub frames_none : (stack : List Row) (n : ℕ) → n ≤ 0 → frames stack n ≡ []
unfolding frames
frames_none stack zero h = refl
frames_none stack (suc n) h = absurd (omega arith)

pub frames_more : (stack : List Row) (n : ℕ) → 0 < n → frames stack n ≡ row_of stack (n - 1) ∷ frames stack (n - 1)
unfolding frames
frames_more stack zero h = absurd (omega arith)
frames_more stack (suc n) h = let z : suc n - 1 ≡ n = omega arith in rw z

-- what is written above them leaves them as they were
frames_kept : (stack : List Row) (i : ℕ) (row : Row) (n : ℕ) → n ≤ i → frames (set stack i row) n ≡ frames stack n
unfolding frames
frames_kept stack i row zero h = refl
frames_kept stack i row (suc n) h =
    rw (get_or-set_other stack i n row (record { field = 0; more = 0; deep = 0 }) (λ same. omega (arith, same, h)), frames_kept stack i row n (omega (arith, h)))

frames_pushed : (stack : List Row) (row : Row) (n : ℕ) → n < length stack → frames (set stack n row) (n + 1) ≡ row ∷ frames stack n
unfolding frames
frames_pushed stack row n h =
    rw (add-one, get_or-set_same stack n row (record { field = 0; more = 0; deep = 0 }) h, frames_kept stack n row n (omega arith))

-- each of them is at a value, and its values are below one constructor more than those of the row above it
abbrev pub Waiting : ℕ → List Row → Type 0
Waiting levels [] = Unit {0}
Waiting levels (row ∷ rows) = (0 < row.more) × Low (suc levels) row × Waiting (suc levels) rows

-- what is near, by cases
module _ (levels : ℕ) (list : List ℕ) (at : ℕ) (first : Option First) (near : NearFirst levels list at first) where
  pub part_near : {m : Measured} → first ≡ Some (First.Part m) → (at < length list) × (m.next ≡ suc at) × (m.deep ≤ 255)
  part_near found = rw found at near

  pub node_near : {next : ℕ} {below : Row} → first ≡ Some (First.Node next below) → (at < length list) × (next ≡ suc at) × Low (levels - 1) below × (0 < levels)
  node_near found = rw found at near

module _ (file types : List ℕ) (table : Option (List ℕ)) (list : List ℕ) where
  -- what a row comes to, by what its next value comes to
  abbrev onward : ℕ → Row → Option Measured → Option Measured
  onward levels row (Some m) = of_rest file types table levels list m.next (past_of row m.deep)
  onward levels row None = None

  -- what the rows that wait come to, by what the row above them comes to
  abbrev pub resume : ℕ → List Row → Option Measured → Option Measured
  resume levels [] m = m
  resume levels (row ∷ rows) m = resume (suc levels) rows (onward (suc levels) row (above m))

  resume_bad : (levels : ℕ) (rows : List Row) → resume levels rows None ≡ None
  resume_bad levels [] = refl
  resume_bad levels (row ∷ rows) = resume_bad (suc levels) rows

  -- a row at its end, and a row by its next value
  row_ended : (levels at : ℕ) (row : Row) → row.more ≤ 0 → of_rest file types table levels list at row ≡ measured at row.deep
  row_ended levels at row h =
      let flat : max row.deep 0 ≡ row.deep = omega arith in
      ap (joined row.deep) (row_done file types table list levels row.field row.more at h) ∙ ap (measured at) flat

  row_onward : (levels at : ℕ) (row : Row) → 0 < row.more
      → of_rest file types table levels list at row ≡ onward levels row (of_value (value_at file types table levels (get_or file row.field 0) list at))
  row_onward levels at row more = by (of_value (value_at file types table levels (get_or file row.field 0) list at)) refl
    where
      by : (m : Option Measured) → m ≡ of_value (value_at file types table levels (get_or file row.field 0) list at) → of_rest file types table levels list at row ≡ onward levels row m
      by (Some m) told =
          ap (joined row.deep) (row_next file types table list levels row.field row.more at more told) ∙ joined_twice row.deep m.deep (of_row (row_at file types table levels (bytes_at file (row.field + 1) (row.more - 1)) list m.next))
      by None told = ap (joined row.deep) (row_stops file types table list levels row.field row.more at more told)

  -- at the end of a row the one that waits below it is past its value
  resume_ended : (levels place : ℕ) (row waits : Row) (rows : List Row) → row.more ≤ 0
      → resume levels (waits ∷ rows) (of_rest file types table levels list place row)
      ≡ resume (suc levels) rows (of_rest file types table (suc levels) list place (past_of waits (row.deep + 1)))
  resume_ended levels place row waits rows done =
      let one_more : suc row.deep ≡ row.deep + 1 = omega arith in
      ap (resume levels (waits ∷ rows)) (row_ended levels place row done)
      ∙ ap (λ (d : ℕ). resume (suc levels) rows (of_rest file types table (suc levels) list place (past_of waits d))) one_more

  -- ---- the loop

  -- The present row is read from a place on, below the rows that wait: together they come to the whole.
  pub record Reading (levels : ℕ) (stack : List Row) (top : ℕ) (row : Row) (place : ℕ) (whole : Option Measured) : Type 0 where
    pub holds : resume (levels - top) (frames stack top) (of_rest file types table (levels - top) list place row) ≡ whole
    pub low : Low (levels - top) row
    pub waiting : Waiting (levels - top) (frames stack top)
    pub within : top ≤ levels
    pub few : levels ≤ 64
    pub long : length stack ≡ 64

  pub begun : (levels : ℕ) (stack : List Row) (row : Row) (place : ℕ) → Low levels row → levels ≤ 64 → length stack ≡ 64
      → Reading levels stack 0 row place (of_rest file types table levels list place row)
  unfolding frames
  begun levels stack row place low few long =
      let z : levels - 0 ≡ levels = omega arith in
      record { holds = rw z refl; low = rw z low; waiting = tt; within = omega arith; few = few; long = long }

  module _ {levels : ℕ} {stack : List Row} {top : ℕ} {row : Row} {place : ℕ} {whole : Option Measured} (now : Reading levels stack top row place whole) where
    -- the rows that wait, where there are any
    pub last_waits : 0 < top → (0 < (row_of stack (top - 1)).more) × Low (levels - (top - 1)) (row_of stack (top - 1)) × Waiting (levels - (top - 1)) (frames stack (top - 1))
    last_waits some =
        let z : suc (levels - top) ≡ levels - (top - 1) = omega (arith, now.within, some) in
        rw (frames_more stack top some, z) at now.waiting

    -- the row is at its end, and so is the reading
    pub ended : row.more ≤ 0 → top ≤ 0 → whole ≡ measured place row.deep
    ended done none =
        sym (rw (frames_none stack top none) at now.holds) ∙ row_ended (levels - top) place row done

    -- the row is at its end: the last of those that wait goes on
    pub popped : row.more ≤ 0 → 0 < top → Reading levels stack (top - 1) (past_of (row_of stack (top - 1)) (row.deep + 1)) place whole
    popped done some =
        let z : suc (levels - top) ≡ levels - (top - 1) = omega (arith, now.within, some) in
        let waits = last_waits some in
        let held : resume (levels - top) (row_of stack (top - 1) ∷ frames stack (top - 1)) (of_rest file types table (levels - top) list place row) ≡ whole =
        rw (frames_more stack top some) at now.holds in
        record {
          holds = rw z at (sym (resume_ended (levels - top) place row (row_of stack (top - 1)) (frames stack (top - 1)) done) ∙ held);
          low = (omega (arith, waits.0, waits.1.0), omega (arith, waits.1.1, now.low.1, now.within, some));
          waiting = waits.2;
          within = omega (arith, now.within);
          few = now.few;
          long = now.long;
        }

    -- the row goes on, by the first byte of its next value
    module _ (more : 0 < row.more) {t : ℕ} (is : t ≡ get_or file row.field 0) (first : Option First)
        (told : of_value (value_at file types table (levels - top) t list place) ≡ of_first file types table (levels - top) list first)
        (near : NearFirst (levels - top) list place first) where
      goes_on : resume (levels - top) (frames stack top) (onward (levels - top) row (of_first file types table (levels - top) list first)) ≡ whole
      goes_on =
          sym (ap (resume (levels - top) (frames stack top)) (row_onward (levels - top) place row more ∙ ap (onward (levels - top) row) (rw is at told))) ∙ now.holds

      pub stopped : first ≡ None → whole ≡ None
      stopped found = sym (sym (resume_bad (levels - top) (frames stack top)) ∙ (rw found at goes_on))

      pub passed : {m : Measured} → first ≡ Some (First.Part m) → Reading levels stack top (past_of row m.deep) m.next whole
      passed found =
          let taken = part_near (levels - top) list place first near found in
          record {
            holds = rw found at goes_on;
            low = (omega (arith, more, now.low.0), omega (arith, taken.2, now.low.1));
            waiting = now.waiting;
            within = now.within;
            few = now.few;
            long = now.long;
          }

      pub pushed : {next : ℕ} {below : Row} → first ≡ Some (First.Node next below) → Reading levels (set stack top row) (top + 1) below next whole
      pushed found =
          let taken = node_near (levels - top) list place first near found in
          let z : levels - top ≡ suc (levels - (top + 1)) = omega (arith, taken.3) in
          let y : levels - top - 1 ≡ levels - (top + 1) = omega arith in
          let room : top < length stack = omega (arith, now.long, now.few, taken.3) in
          record {
            holds = rw (frames_pushed stack row top room) (rw (y, z) at (rw found at goes_on));
            low = rw y at taken.2;
            waiting = rw (frames_pushed stack row top room) (more, (rw z at now.low), (rw z at now.waiting));
            within = omega (arith, taken.3);
            few = now.few;
            long = length-set stack top row ∙ now.long;
          }
