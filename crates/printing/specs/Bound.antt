-- How many bytes hold every text of a list, be it the printed text or the text of its names: a caller may reserve by this.
-- Rests on numbers alone.
use Rattle.std.specs.Prelude.{ℕ, ◌+◌, ◌*◌}

-- at most four bytes for each byte of the list, and a last line
abbrev pub text_bound : ℕ → ℕ
text_bound n = 4 * n + 64
