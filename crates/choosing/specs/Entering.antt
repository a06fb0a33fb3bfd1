-- A case that goes on with a part of the input that is bound.
-- Rests on registers' Stepping, on skipping's Ends, on machine's Cells and Records, and on lookups' Fields.
use Rattle.std.specs.Prelude.{ℕ, suc, ◌<◌, ◌≡◌, List}
use Rattle.machine.specs.Cells.{cell_word}
use Rattle.machine.specs.Records.{no_case, part_in}
use Rattle.lookups.specs.Fields.{FieldCount}
use Rattle.skipping.specs.Ends.{Ends}
use Rattle.registers.specs.declared.Registers.{Registers}
use Rattle.registers.specs.declared.Next.TheVariants as Next
use Rattle.registers.specs.Stepping.{control_in, Standing, Stepped}

-- A case looks at the part in this cell, which is bound to constructor c with its k fields in the cells from `first` on.
pub record AtBoundPart (file types functions w : List ℕ) (base cell : ℕ) (r : Registers) (c k first : ℕ) : Type 0 where
  pub standing : Standing file types functions w base r
  pub is_part : control_in r ≡ part_in cell
  pub case_waits : r.frame < no_case
  pub head_is : cell_word w cell 0 ≡ suc c
  pub first_is : cell_word w cell 1 ≡ first
  pub fields : FieldCount file types (cell_word w cell 2) c k
  pub small : (c < 4294967296) × (first < 4294967296)

-- the case goes on with that part in one step
abbrev pub EntersBy : (file ends w w' : List ℕ) (base : ℕ) (r : Registers) (c k first : ℕ) → Registers → Type 0
EntersBy file ends w w' base r c k first x =
    (types functions : List ℕ) (cell label : ℕ) → AtBoundPart file types functions w base cell r c k first → Ends file types functions ends
    → Stepped file types functions w w' base label r (Next.Goes x)
