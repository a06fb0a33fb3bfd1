-- Rows that are being read, and what the first byte of a value says: what each comes to by the bytes that stand behind.
-- Rests on Values and on the declared types of src/lib.rt.
use Rattle.std.specs.Prelude.{ℕ, suc, max, ◌+◌, ◌-◌, ◌≤◌, ◌<◌, ◌≡◌, List, length, Option, Some, None}
use Rattle.reach.specs.Places.{bytes_at}
use Rattle.rows.specs.declared.Measured.{Measured}
use Rattle.rows.specs.declared.Row.{Row}
use Rattle.rows.specs.declared.First.{First}
use Rattle.rows.specs.Values.{measured, of_row, row_at}

-- what was read before is this deep
abbrev pub joined : ℕ → Option Measured → Option Measured
joined d (Some m) = measured m.next (max d m.deep)
joined d None = None

-- one constructor above what was read
abbrev pub above : Option Measured → Option Measured
above (Some m) = measured m.next (suc m.deep)
above None = None

-- the row past its next value, which is so deep
abbrev pub past_of : Row → ℕ → Row
past_of row one = record { field = row.field + 1; more = row.more - 1; deep = max row.deep one }

-- the types of the row stand in reach, as lookups finds the fields of a constructor; and no value goes below more constructors than it may
abbrev pub Low : ℕ → Row → Type 0
Low levels row = (row.field + row.more ≤ 1000255) × (row.deep ≤ 255 + levels)

-- what is left of the row, from a place on, with what was read before
abbrev pub of_rest : List ℕ → List ℕ → Option (List ℕ) → ℕ → List ℕ → ℕ → Row → Option Measured
of_rest file types table levels list at row = joined row.deep (of_row (row_at file types table levels (bytes_at file row.field row.more) list at))

-- a value by its first byte: the fields of a constructor go one level less deep
abbrev pub of_first : List ℕ → List ℕ → Option (List ℕ) → ℕ → List ℕ → Option First → Option Measured
of_first file types table levels list (Some (First.Part m)) = Some m
of_first file types table levels list (Some (First.Node next row)) = above (of_rest file types table (levels - 1) list next row)
of_first file types table levels list None = None

-- one byte is taken; the least depth of a type is a byte; a constructor takes one level
abbrev pub NearFirst : ℕ → List ℕ → ℕ → Option First → Type 0
NearFirst levels list at (Some (First.Part m)) = (at < length list) × (m.next ≡ suc at) × (m.deep ≤ 255)
NearFirst levels list at (Some (First.Node next row)) = (at < length list) × (next ≡ suc at) × Low (levels - 1) row × (0 < levels)
NearFirst levels list at None = Unit {0}
