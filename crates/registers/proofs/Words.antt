-- The record at the top is written: what the words below stand for is kept.
-- Rests on Stepping, and on machine's laws of cells and of words.
use Prim.Native.Nat.{ℕ, ◌+◌, ◌*◌, ◌≤◌}
use mathlib.Core.Path.{◌≡◌}
use mathlib.Core.List.{List}
use native.Mathlib.Omega.{arith}
use native.Mathlib.Decide.{ℕ_discrete}
use Rattle.reach.specs.Parts.{Parts}
use Rattle.reach.specs.Types.{source_slots}
use Rattle.reach.specs.Syntax.{Program}
use Rattle.reach.specs.Eval.{State}
use Rattle.machine.specs.Cells.{Cells, Unmoved}
use Rattle.machine.specs.Records.{record_word, OnlyTop}
use Rattle.machine.proofs.Cells.{kept_cells}
use Rattle.machine.proofs.Words.{records_same}
use Rattle.registers.specs.declared.Registers.{Registers}
use Rattle.registers.specs.Stepping.{CountsSmall, StandsFor}

module _ {w w' : List ℕ} {base top : ℕ} (only : OnlyTop w w' base top) where
  -- the cells are kept, which stand below all records
  pub cells_same :
      {file types functions : List ℕ} {p : Program} {cells : ℕ} {r : Registers} {e : Parts} {s : State} → StandsFor file types functions p w base cells r e s
      → Unmoved w w' e × Cells p.types (source_slots p) w' cells e
  cells_same stands =
      kept_cells w' stands.input (rw only.same_length stands.input.fits) (λ i below. only.elsewhere i (λ h. absurd (omega (arith, stands.apart))))

  -- the counts stay small, with the new record's
  pub few_kept : CountsSmall w base top → CountsSmall w' base top
  few_kept few j below = rw (records_same only (base + 4 * j + 1) (omega arith) (omega arith)) (few j below)

  pub few_more : CountsSmall w base top → record_word w' base top 1 ≤ 255 * top → CountsSmall w' base (top + 1)
  few_more few new j below = by_place (ℕ_discrete j top)
    where
      by_place : Dec (j ≡ top) → record_word w' base j 1 ≤ 255 * j
      by_place (yes is) = rw is new
      by_place (no apart) = few_kept few j (omega arith)
