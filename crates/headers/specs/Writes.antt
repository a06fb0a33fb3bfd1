-- Bytes written to a lent list from a place on.
-- Rests on the library's lists and on the struct of src/lib.rt.
use Rattle.std.specs.Prelude.{ℕ, ◌+◌, ◌≡◌, List, length}
use Rattle.std.proofs.lemmas.List.Edits.{sets}
use Rattle.headers.specs.declared.Writer.{Writer}

-- the bytes were stored from the place on, and the place goes on behind them in the same list
pub record Writes (before : Writer) (s : List ℕ) (after : Writer) : Type 0 where
  pub same : after.list.ghost_name ≡ before.list.ghost_name
  pub place : after.at ≡ before.at + length s
  pub bytes : after.list.now ≡ sets before.list.now before.at s

-- the same list, as long as it was
pub record Kept (before after : Writer) : Type 0 where
  pub same : after.list.ghost_name ≡ before.list.ghost_name
  pub room : length after.list.now ≡ length before.list.now
