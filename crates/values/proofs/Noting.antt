-- Noting where the values of a row stand, one after the other: one note, and what the loop over a row of values has noted so far.
-- Rests on specs/Notes and on Standing.
use Prim.Native.Nat.{ℕ, ◌+◌, ◌*◌, ◌/◌, ◌%◌, ◌≤◌, ◌<◌}
use mathlib.Core.Path.{◌≡◌, refl, sym, ◌∙◌, ap}
use mathlib.Core.List.{List, map}
use mathlib.Core.Logic.{◌≢◌}
use native.Mathlib.Numerals.{add-one}
use native.Mathlib.Omega.{arith}
use lib.ListN.{length, get_or, set, length-set}
use lib.Seq.{get_or-set_same, get_or-set_other}
use borrow.Author.Count.{below_more}
use Rattle.reach.specs.Parts.{Parts, part}
use Rattle.reach.specs.Partial.{OpenApart}
use Rattle.reach.specs.Places.{bytes_at, type_at}
use Rattle.reach.proofs.Places.{bytes_length}
use Rattle.cells.proofs.Writing.{bytes_nth}
use Rattle.values.specs.Positions.{ClosedRowStands, byte_of}
use Rattle.values.specs.Notes.{noted_place, note_place, behind_value, NotedFirst}
use Rattle.values.proofs.Standing.{next_read}

-- One note.

module _ (w : List ℕ) (x i : ℕ) where
  pub note_length : length (note_place w x i) ≡ length w
  unfolding note_place
  note_length = simp length-set

  pub note_other : (n : ℕ) → n ≢ 5 * x + 1 → n ≢ 5 * x + 4 → get_or (note_place w x i) n 0 ≡ get_or w n 0
  unfolding note_place
  note_other n high low = get_or-set_other (set w (5 * x + 1) (i / 4294967296)) _ n _ 0 low ∙ get_or-set_other w _ n _ 0 high

  -- what is noted is read back
  pub note_there : 5 * x + 5 ≤ length w → noted_place (note_place w x i) x ≡ i
  unfolding note_place
  note_there fits =
      let v = set w (5 * x + 1) (i / 4294967296) in
      let apart : 5 * x + 1 ≢ 5 * x + 4 = omega arith in
      let low : get_or (set v (5 * x + 4) (i % 4294967296)) (5 * x + 4) 0 ≡ i % 4294967296 = get_or-set_same v (5 * x + 4) _ 0 (simp length-set (omega arith)) in
      let high : get_or (set v (5 * x + 4) (i % 4294967296)) (5 * x + 1) 0 ≡ i / 4294967296 =
      get_or-set_other v _ _ _ 0 apart ∙ get_or-set_same w (5 * x + 1) _ 0 (omega arith) in
      rw (low, high) (omega arith)

-- The next value of a row.

module _ (file types input : List ℕ) (ts : List ℕ) (at : ℕ) where
  -- where a row stands, value n of it stands at this place
  abbrev pub Reached : ℕ → ℕ → Type 0
  Reached n place = OpenApart (map (type_at file) types) → (j : Parts) → ClosedRowStands (map (type_at file) types) ts input at j → place ≡ byte_of j (part n) at

  pub reached_first : Reached 0 at
  unfolding byte_of part
  reached_first few j row = refl

  -- behind a value stands the next one
  pub reached_next : (n : ℕ) {place : ℕ} → n < length ts → Reached n place → Reached (n + 1) (behind_value file types input place (get_or ts n 0))
  unfolding behind_value
  reached_next n l reached few j row =
      let (v, read) = next_read few j n ts at row l in
      rw (reached few j row, read) (ap (λ (m : ℕ). byte_of j (part m) at) (sym (add-one n)))

  module _ (first : ℕ) where
    pub noted_none : (w : List ℕ) → NotedFirst file types input w w first ts at 0
    noted_none w = record { same_length = refl; elsewhere = λ i out. refl; there = λ few j row m l. absurd (omega arith) }

    -- one more place noted
    pub noted_more :
        {w v : List ℕ} {n place : ℕ} → NotedFirst file types input w v first ts at n → Reached n place → 5 * (first + n) + 5 ≤ length v
        → NotedFirst file types input w (note_place v (first + n) place) first ts at (n + 1)
    noted_more {w} {v} {n} {place} noted reached fits = record {
      same_length = note_length v _ _ ∙ noted.same_length;
      elsewhere = λ i out.
          note_other v (first + n) place i (out n (omega arith)).0 (out n (omega arith)).1
          ∙ noted.elsewhere i (λ m l. out m (omega arith));
      there = λ few j row.
          below_more _ _ (λ m l. kept m l ∙ noted.there few j row m l) (note_there v _ _ fits ∙ reached few j row);
    }
      where
        -- the cells before keep what is noted in them
        kept : (m : ℕ) → m < n → noted_place (note_place v (first + n) place) (first + m) ≡ noted_place v (first + m)
        kept m l =
            let low = note_other v (first + n) place (5 * (first + m) + 4) (omega arith) (omega arith) in
            let high = note_other v (first + n) place (5 * (first + m) + 1) (omega arith) (omega arith) in
            rw (low, high)

-- the same where the types are bytes of the file
module _ (file types input : List ℕ) (fields k at : ℕ) {n place : ℕ} (some : n < k)
    (reached : Reached file types input (bytes_at file fields k) at n place) where
  pub noted_next :
      {w v v' : List ℕ} (first : ℕ) → NotedFirst file types input w v first (bytes_at file fields k) at n
      → 5 * (first + k) ≤ length w → v' ≡ note_place v (first + n) place → NotedFirst file types input w v' first (bytes_at file fields k) at (n + 1)
  noted_next first noted fits written =
      rw written (noted_more file types input (bytes_at file fields k) at first noted reached (omega (arith, noted.same_length)))

  pub reached_more :
      {next t : ℕ} → t ≡ get_or file (fields + n) 0 → next ≡ behind_value file types input place t
      → Reached file types input (bytes_at file fields k) at (n + 1) next
  reached_more read told =
      let typed : get_or (bytes_at file fields k) n 0 ≡ get_or file (fields + n) 0 = bytes_nth file fields k n (omega arith) in
      rw (told, read, ← typed) (reached_next file types input (bytes_at file fields k) at n (omega (arith, bytes_length file fields k)) reached)
