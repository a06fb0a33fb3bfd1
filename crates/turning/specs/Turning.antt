-- What comes behind a result: its own fields, those that wait, or the end.
-- Rests on registers' Stepping, machine's Records and lookups' Fields.
use Rattle.std.specs.Prelude.{ℕ, ◌+◌, ◌*◌, ◌≤◌, ◌<◌, ◌≡◌, List, get_or, Option, Some, None}
use Rattle.machine.specs.Records.{record_word, no_case, FrameBelow, OnlyTop}
use Rattle.skipping.specs.Ends.{Ends}
use Rattle.registers.specs.declared.Registers.{Registers}
use Rattle.registers.specs.declared.Next.{Next}
use Rattle.lookups.specs.Fields.{FieldCount}
use Rattle.registers.specs.Stepping.{expression_kind, Turned}

-- the fields of a result that are to be evaluated: as many as the construction's type says, and none of a part of the input
abbrev pub OwnFields : List ℕ → List ℕ → Registers → ℕ → Type 0
OwnFields file types r k =
    (r.kind ≡ expression_kind → FieldCount file types (get_or file (r.place + 1) 0) (get_or file (r.place + 2) 0) k) × ((r.kind ≡ expression_kind → ⊥) → k ≡ 0)

-- the words of record x are those of fields that wait, and small
abbrev pub FitWords : List ℕ → ℕ → Registers → ℕ → Type 0
FitWords w base r x =
    (0 < record_word w base x 1) × (record_word w base x 1 ≤ 255 * r.records) × (record_word w base x 2 < r.records) × FrameBelow (record_word w base x 3) r.records

-- if it is the innermost frame
abbrev pub FieldsFit : List ℕ → ℕ → Registers → Type 0
FieldsFit w base r = (x : ℕ) → r.frame ≡ no_case + x → 0 < x → FitWords w base r x

-- What comes behind a result with nothing to go into: the end with no frame, or the next field that waits.
pub data GoesOn (file types functions w w' : List ℕ) (base : ℕ) (r : Registers) : Next → Type 0 where
  at_the_end : r.frame ≡ no_case → OnlyTop w w' base r.records → GoesOn file types functions w w' base r Next.Stops
  to_field : {r' : Registers} (x : ℕ) → r.frame ≡ no_case + x → 0 < x
      → Turned file types functions w w' base r (record_word w base x 0) (record_word w base x 1) (record_word w base x 2) (record_word w base x 3) r'
      → GoesOn file types functions w w' base r (Next.Goes r')

-- the same by a table of the ends
abbrev pub GoesOnBy : (file ends w w' : List ℕ) (base : ℕ) (r : Registers) → Next → Type 0
GoesOnBy file ends w w' base r n = (types functions : List ℕ) → Ends file types functions ends → GoesOn file types functions w w' base r n

-- what comes next behind a result: a turn to a field, or the end
abbrev pub turned : Option Registers → Next
turned (Some to) = Next.Goes to
turned None = Next.Stops
