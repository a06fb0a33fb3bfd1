-- How a letter of a name is written as its Latin-1 byte (as its UTF-8 bytes: names' NameList), and what it is for an encoding to be short.
-- Rests on lists' Text.
use Rattle.std.specs.Prelude.{ℕ, ◌≤◌, ◌<◌, length}
use mathlib.Core.List.{List, [], ◌∷◌, map}
use Rattle.lists.specs.Text.{spaced, decimal}

-- a letter as its Latin-1 byte
abbrev pub latin1 : ℕ → List ℕ
latin1 b = b ∷ []

-- these bytes of a letter, in decimal and each behind a space, are eight bytes of text at most
abbrev pub Short : (ℕ → List ℕ) → Type 0
Short bytes = (b : ℕ) → b < 256 → length (spaced (map decimal (bytes b))) ≤ 8
