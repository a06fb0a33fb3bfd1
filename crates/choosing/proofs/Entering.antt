-- A case that goes on with a part that is bound is the step of that part.
-- Rests on specs/Entering and on Inspecting.
use Prim.Native.Nat.{ℕ, suc, ◌-◌, ◌<◌}
use mathlib.Core.Path.{◌≡◌, refl, sym, subst}
use mathlib.Core.List.{List}
use native.Mathlib.Omega.{arith}
use Rattle.machine.specs.Cells.{cell_word}
use Rattle.machine.specs.Records.{record_word}
use Rattle.lookups.specs.Fields.{FieldCount}
use Rattle.registers.specs.declared.Registers.{Registers}
use Rattle.registers.specs.declared.Next.TheVariants as Next
use Rattle.registers.specs.Stepping.{Stepped, Chose}
use Rattle.choosing.specs.Entering.{AtBoundPart}
use Rattle.choosing.proofs.Inspecting.{part_chooses, part_goes}

module _
    (file types functions w : List ℕ) (base cell : ℕ) (r : Registers) (c k first : ℕ) (bound : AtBoundPart file types functions w base cell r c k first)
  where
    pub enters : record_word w base r.frame 2 < r.records
    enters =
        part_chooses file types functions w base cell r bound.is_part {head = suc c} bound.case_waits (sym bound.head_is) (λ none. absurd (omega arith)) bound.standing

    pub entered :
        {w' : List ℕ} {r' : Registers} → Chose file types functions w w' base r c k first 0 r' → (label : ℕ)
        → Stepped file types functions w w' base label r (Next.Goes r')
    entered {w'} {r'} chose =
        let same : suc c - 1 ≡ c = omega arith in
        part_goes file types functions w base cell r bound.is_part {head = suc c} bound.case_waits (sym bound.head_is) (λ none. absurd (omega arith))
        (sym bound.first_is) refl (subst (λ (d : ℕ). FieldCount file types (cell_word w cell 2) d k) (sym same) bound.fields)
        (subst (λ (d : ℕ). Chose file types functions w w' base r d k first 0 r') (sym same) chose)
