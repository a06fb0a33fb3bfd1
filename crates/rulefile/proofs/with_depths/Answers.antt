-- `rulefile::with_depths` meets its contract: the two tests of depth on the array of least depths, the test of names, and what an accepted
-- file hands on.
-- Rests on Answers.
use mathlib.Core.Path.{refl}
use Rattle.rulefile.proofs.Answers.{type_empty, depth_small, misspelled, all_passed}
use Rattle.rulefile.proofs.with_depths.Goals as goal

pub least-table-requires : goal.least-table-requires
least-table-requires c = c.requires.outlined.types_limit

pub returns-then-not-none_empty : goal.returns-then-not-none_empty
returns-then-not-none_empty c = type_empty _ _ c.requires {least = c.least-table.result} c.least-table.ensures refl c.none_empty.ensures c.if-not-none_empty.true

pub returns-then-not-source_shallow : goal.returns-then-not-source_shallow
returns-then-not-source_shallow c =
    depth_small _ _ c.requires {least = c.least-table.result} c.least-table.ensures refl c.none_empty.ensures c.if-not-none_empty.false c.source_shallow.ensures c.if-not-source_shallow.true

pub returns-then-not-well_spelled : goal.returns-then-not-well_spelled
returns-then-not-well_spelled c =
    misspelled _ _ c.requires {least = c.least-table.result} c.least-table.ensures refl c.none_empty.ensures c.if-not-none_empty.false c.source_shallow.ensures
    c.if-not-source_shallow.false c.well_spelled.ensures c.if-not-well_spelled.true

pub returns : goal.returns
returns c =
    all_passed _ _ c.requires {least = c.least-table.result} c.least-table.ensures refl c.none_empty.ensures c.if-not-none_empty.false c.source_shallow.ensures
    c.if-not-source_shallow.false c.well_spelled.ensures c.if-not-well_spelled.false
