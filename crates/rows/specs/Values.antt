-- Values as reach's Partial reads them, the types being those at the places of a checked file.
-- Rests on reach's Partial and Places, on lists' Handed and on the struct of src/lib.rt.
use Rattle.std.specs.Prelude.{ℕ, ◌+◌, ◌≤◌, List, map, Some, None}
use Rattle.std.proofs.Common.{Bor}
use Rattle.std.specs.Prelude as Std
use Rattle.std.proofs.Math.Option.{Option, none, some}
use Rattle.reach.specs.Limits.{depth_limit}
use Rattle.reach.specs.Parts.{Parts}
use Rattle.reach.specs.Types.{slots}
use Rattle.reach.specs.Reader.{Got, got, refused, Reader}
use Rattle.reach.specs.Partial.{Value, deep_of, values_by, Manner, in_inputs, value, slotted}
use Rattle.lists.specs.Handed.{in_entries}
use Rattle.reach.specs.Places.{type_at}
use Rattle.rows.specs.declared.Measured.{Measured}

-- what was read ends before this place and is so deep
abbrev pub measured : ℕ → ℕ → Std.Option Measured
measured next deep = Some (record { next = next; deep = deep })

-- a reading, with its value and its reason forgotten
abbrev pub of_value : Got Value → Std.Option Measured
of_value (got v next) = measured next (deep_of v)
of_value (refused why) = None

abbrev pub of_row : Got (Parts × ℕ) → Std.Option Measured
of_row (got row next) = measured next row.1
of_row (refused why) = None

-- an open part, behind which the next place stands, by how deep it is
abbrev pub of_open : ℕ → Option ℕ → Std.Option Measured
of_open next none = None
of_open next (some d) = measured next d

-- partial values, by this table of least depths, or closed ones where there is none
abbrev pub manner_of : Std.Option (List ℕ) → Manner
manner_of None = in_inputs
manner_of (Some table) = in_entries table

-- the numbers of the table that is lent
abbrev pub table_of : Std.Option (Bor (List ℕ)) → Std.Option (List ℕ)
table_of None = None
table_of (Some least) = Some least.now

-- a value of type t, one for each of these types, and one for each of them that is at most as deep as its depth says
abbrev pub value_at : List ℕ → List ℕ → Std.Option (List ℕ) → ℕ → ℕ → Reader Value
value_at file types table levels t = value (map (type_at file) types) (manner_of table) levels t

abbrev pub row_at : List ℕ → List ℕ → Std.Option (List ℕ) → ℕ → List ℕ → Reader (Parts × ℕ)
row_at file types table levels ts = values_by (value_at file types table levels) ts

abbrev pub slots_at : List ℕ → List ℕ → Std.Option (List ℕ) → List ℕ → List ℕ → Reader (Parts × ℕ)
slots_at file types table depths ts = slotted (map (type_at file) types) (manner_of table) depth_limit (slots ts depths)

-- no value goes below more constructors than it may, and the least depth of a type is a byte
abbrev pub DeepAtMost : ℕ → Std.Option Measured → Type 0
DeepAtMost levels (Some m) = m.deep ≤ 255 + levels
DeepAtMost levels None = Unit {0}
