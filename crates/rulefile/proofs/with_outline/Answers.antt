-- `rulefile::with_outline` meets its contract: the second pass, and the third, for which the first one has left what it asks for.
-- Rests on Passes and Answers, and on results' Shown.
use Rattle.results.proofs.Shown.{handed_on}
use Rattle.rulefile.proofs.Passes.{tables_small, bodies_inside}
use Rattle.rulefile.proofs.Answers.{unknown_number, body_refused, bodies_passed}
use Rattle.rulefile.proofs.with_outline.Goals as goal

pub returns-then-not-numbers_exist : goal.returns-then-not-numbers_exist
returns-then-not-numbers_exist c = unknown_number _ _ c.requires c.numbers_exist.ensures c.if-not-numbers_exist.true

pub bodies-requires : goal.bodies-requires
bodies-requires c = record { small = tables_small _ _ _ _ _ c.requires.read; there = bodies_inside _ _ _ _ _ c.requires.read }

pub with_depths-requires : goal.with_depths-requires
with_depths-requires c = bodies_passed _ _ c.requires c.numbers_exist.ensures c.if-not-numbers_exist.false c.in_ok-bodies.ensures

pub returns-in_err-bodies : goal.returns-in_err-bodies
returns-in_err-bodies c =
    rw (handed_on _ c.from_residual.ensures) (body_refused _ _ c.requires c.numbers_exist.ensures c.if-not-numbers_exist.false c.in_err-bodies.ensures)
