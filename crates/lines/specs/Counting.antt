-- Counts that are small enough to be counted on and printed.
-- Rests on the counts of crate reach.
use Rattle.std.specs.Prelude.{ℕ, ◌≤◌}
use Rattle.reach.specs.declared.Counts.{Counts}

-- none of them exceeds so much
abbrev pub Few : Counts → ℕ → Type 0
Few c most = (c.reach ≤ most) × (c.unfinished ≤ most) × (c.missing ≤ most)
