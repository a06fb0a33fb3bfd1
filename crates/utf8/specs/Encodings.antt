-- The bytes of an encoding, by its first byte and its second one, and a number of the table of encodings as the bytes that it stands for.
-- Rests on reach's Base.
use Rattle.std.specs.Prelude.{ℕ, ◌/◌, ◌%◌, List, [], ◌∷◌, Option, Some, None, ltb}
use Rattle.reach.specs.Base.{pick}

-- the first byte, and the second where there is one
abbrev pub bytes_of : ℕ × Option ℕ → List ℕ
bytes_of (first, None) = first ∷ []
bytes_of (first, Some second) = first ∷ second ∷ []

-- a number below 256 is one byte; else the first byte is what it leaves over by 256, and the second the rest
unfoldable pub encoding_bytes : ℕ → List ℕ
encoding_bytes n = pick (ltb n 256) (n ∷ []) (n % 256 ∷ n / 256 ∷ [])
