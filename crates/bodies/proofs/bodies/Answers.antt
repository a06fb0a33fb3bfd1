-- `bodies::bodies` meets its contract: each turn of the loop checks one body more. Rests on Functions.
use mathlib.Core.Path.{◌∙◌}
use native.Mathlib.Omega.{arith}
use Rattle.marks.proofs.Answers.{handed_on}
use Rattle.bodies.proofs.Functions.{body_next, body_stops, bodies_done}
use Rattle.bodies.proofs.bodies.Goals as goal

pub body_of-requires : goal.body_of-requires
body_of-requires c = record { small = c.requires.small; known = omega arith; there = c.requires.there _ (omega arith) }

pub returns-in_err-body_of : goal.returns-in_err-body_of
returns-in_err-body_of c =
    handed_on _ c.from_residual.ensures
    ∙ body_stops _ _ _ _ c.loop-f-test.true c.in_err-body_of.ensures
    ∙ c.loop-f.invariant

pub loop-f-preserved : goal.loop-f-preserved
loop-f-preserved c = body_next _ _ _ _ c.loop-f-test.true c.in_ok-body_of.ensures ∙ c.loop-f.invariant

pub returns : goal.returns
returns c = bodies_done _ _ _ _ c.loop-f-test.false ∙ c.loop-f.invariant
