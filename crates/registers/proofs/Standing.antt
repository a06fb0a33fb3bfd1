-- The words and registers stand for a state: after a step, and after the cells below the records were written.
-- Rests on Stepping, on Words, and on machine's laws of cells and records.
use Prim.Native.Nat.{ℕ, ◌+◌, ◌*◌, ◌≤◌}
use mathlib.Core.Path.{◌≡◌}
use mathlib.Core.List.{List}
use native.Mathlib.Omega.{arith}
use lib.ListN.{length}
use Rattle.reach.specs.Syntax.{Program}
use Rattle.reach.specs.Parts.{Parts}
use Rattle.reach.specs.Types.{source_slots}
use Rattle.reach.specs.Eval.{State, next, goes}
use Rattle.reach.specs.States.{StateIn, Sound}
use Rattle.reach.proofs.Evaluation.{next_in}
use Rattle.machine.specs.Cells.{Cells, cell_of, Unmoved}
use Rattle.machine.specs.Records.{OnlyTop}
use Rattle.machine.proofs.Records.{Same, holds_kept, state_kept}
use Rattle.registers.specs.declared.Registers.{Registers}
use Rattle.registers.specs.Stepping.{declarations_of, StandsFor, Follows}
use Rattle.machine.proofs.Words.{records_same}
use Rattle.registers.proofs.Words.{cells_same}

-- After a step to other registers, with room for one record more.
pub stands_after :
    {file types functions w w' : List ℕ} {p : Program} {base cells : ℕ} {r r' : Registers} {e : Parts} {s s' : State}
    → StandsFor file types functions p w base cells r e s → OnlyTop w w' base r.records → Follows file types functions w' base r.records r' s'
    → next p e s ≡ goes s' → Sound p e s' → base + 4 * (r.records + 2) ≤ length w → StandsFor file types functions p w' base cells r' e s'
stands_after {w = w} {w'} {p} {base} {r = r} {r'} {e} {s} {s'} stands only follows on sound room = record {
  input = (cells_same only stands).1;
  apart = stands.apart;
  zeros = holds_kept w w' base r.records (records_same only) stands.space.some_record stands.zeros;
  state = follows.state;
  there = next_in p e s stands.there (goes s') on;
  sound = sound;
  space = record {
    some_record = omega (arith, follows.no_fewer, stands.space.some_record);
    environment_below = follows.environment_below;
    frame_below = follows.frame_below;
    room = rw only.same_length (omega (arith, follows.one_more));
    narrow = rw only.same_length stands.space.narrow;
    few = follows.few;
  };
}

-- After the words of the cells changed so that they stand for an input that binds at least as much, every part in its cell, and the records in use as before.
pub stands_below :
    {file types functions w w' : List ℕ} {p : Program} {base cells cells' : ℕ} {r : Registers} {e e' : Parts} {s : State}
    → StandsFor file types functions p w base cells r e s → Cells p.types (source_slots p) w' cells' e' → Unmoved w w' e → 5 * cells' ≤ base
    → length w' ≡ length w → Same w w' base r.records → StateIn e' s → Sound p e' s
    → StandsFor file types functions p w' base cells' r e' s
stands_below {file} {types} {functions} {w} {w'} {base = base} {r = r} {e = e} stands cells unmoved apart same_length same there sound = record {
  input = cells;
  apart = apart;
  zeros = holds_kept w w' base r.records same stands.space.some_record stands.zeros;
  state =
      state_kept file (declarations_of file types functions) w w' base r.records (cell_of w) (cell_of w') e same unmoved
      stands.space.environment_below stands.space.frame_below stands.state stands.there;
  there = there;
  sound = sound;
  space = record {
    some_record = stands.space.some_record;
    environment_below = stands.space.environment_below;
    frame_below = stands.space.frame_below;
    room = rw same_length stands.space.room;
    narrow = rw same_length stands.space.narrow;
    few = λ j below. rw (same (base + 4 * j + 1) (omega arith) (omega arith)) (stands.space.few j below);
  };
}
