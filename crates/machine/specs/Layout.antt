-- Where the parts of the lent words begin, for a step limit S: the input's cells from word 0 on, then the records, then a search's choice points.
-- A path of n steps has at most 8 + 6 n cells of five words, n + 2 records of four and n choice points of six, so 40 S + 96 words are used of the
-- work_words S that are lent.
use Rattle.std.specs.Prelude.{ℕ, ◌+◌, ◌*◌}

-- the first word of the records
abbrev pub records_at : ℕ → ℕ
records_at s = 30 * s + 80

-- the first word of the choice points
abbrev pub choices_at : ℕ → ℕ
choices_at s = 34 * s + 96
