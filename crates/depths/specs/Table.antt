-- The table of least depths as an array of 32 numbers, and what a round does to it.
-- Rests on reach's Types and Places and on the struct of src/lib.rt.
use Rattle.std.specs.Prelude.{ℕ, ◌+◌, ◌-◌, ◌≤◌, ◌≡◌, List, ◌++◌, map, length, replicate, Option, Some, None}
use Rattle.reach.specs.Types.{rounds}
use Rattle.reach.specs.Places.{type_at}
use Rattle.depths.specs.declared.Depths.{Depths}

-- a table with 0 behind its end, up to 32 numbers
unfoldable pub padded : List ℕ → List ℕ
padded table = table ++ replicate (32 - length table) 0

-- the array after d rounds, the types being those at these places
abbrev pub array_after : List ℕ → List ℕ → ℕ → List ℕ
array_after s places d = padded (rounds (map (type_at s) places) d)

-- The array is the one after d rounds.
pub record RoundsMade (s places : List ℕ) (d : ℕ) (array : List ℕ) : Type 0 where
  pub few : length places ≤ 32
  pub reached : d ≤ 32
  pub holds : array ≡ array_after s places d

-- the table after one round more, and none where that round changes nothing
abbrev pub RoundMade : List ℕ → List ℕ → ℕ → Depths → Option Depths → Type 0
RoundMade s places d old (Some table) = table.of ≡ array_after s places (d + 1)
RoundMade s places d old None = old.of ≡ array_after s places (d + 1)
