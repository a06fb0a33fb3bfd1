-- Text written into a lent slice from a place on: the place goes on behind the text also where the slice is too short for it.
-- Rests on the library's lists.
use Rattle.std.specs.Prelude.{ℕ, ◌+◌, ◌≡◌, List, ◌++◌, length, take, drop}
use Rattle.std.proofs.lemmas.List.Edits.{sets}
use Rattle.writing.specs.declared.Page.{Page}

-- a slice with a text written to its front: as many of its bytes as the slice holds, and behind them the bytes as before
unfoldable pub fronted : List ℕ → List ℕ → List ℕ
fronted before s = take (length before) s ++ drop (length s) before

-- the text's length, and the slice with the text at its front
pub record Fronts (before s after : List ℕ) (r : ℕ) : Type 0 where
  pub size : r ≡ length s
  pub bytes : after ≡ fronted before s

-- a page has the text written from its place on, byte by byte, as far as its slice reaches, and goes on behind it in the same slice
pub record Puts (before : Page) (s : List ℕ) (after : Page) : Type 0 where
  pub same : after.text.ghost_name ≡ before.text.ghost_name
  pub place : after.at ≡ before.at + length s
  pub bytes : after.text.now ≡ sets before.text.now before.at s
