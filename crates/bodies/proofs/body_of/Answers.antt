-- `bodies::body_of` meets its contract: what the record says, the parameters in view, the expression inside the body's length, and nothing behind it.
-- Rests on Functions.
use mathlib.Core.Path.{◌∙◌}
use native.Mathlib.Omega.{arith}
use Rattle.expressions.specs.Readers.{view_of}
use Rattle.marks.proofs.Answers.{handed_on}
use Rattle.bodies.proofs.Functions.{few_parameters, body_length, body_refused, body_trailing, body_ends}
use Rattle.bodies.proofs.body_of.Goals as goal

pub extended-parameters-requires : goal.extended-parameters-requires
extended-parameters-requires c =
    omega (arith, few_parameters c.requires.small c.requires.known c.head-head.result c.head-head.ensures.result_value)

pub slice_bounds-body-end : goal.slice_bounds-body-end
slice_bounds-body-end c = body_length _ _ c.head-head.result c.head-head.ensures.result_value c.requires.there

pub returns-in_err-behind : goal.returns-in_err-behind
returns-in_err-behind c =
    handed_on _ c.from_residual.ensures
    ∙ body_refused _ _ c.head-head.result c.head-head.ensures.result_value c.requires.there
    _ _
    (view_of c.extended-parameters.result)
    (rw c.empty.ensures.types at c.extended-parameters.ensures.types)
    c.in_err-behind.ensures

pub returns-then-behind-end : goal.returns-then-behind-end
returns-then-behind-end c =
    body_trailing _ _ c.head-head.result c.head-head.ensures.result_value c.requires.there
    _ _
    (view_of c.extended-parameters.result)
    (rw c.empty.ensures.types at c.extended-parameters.ensures.types)
    c.in_ok-behind.ensures
    c.if-behind-end.true

pub returns : goal.returns
returns c =
    body_ends _ _ c.head-head.result c.head-head.ensures.result_value c.requires.there
    _ _
    (view_of c.extended-parameters.result)
    (rw c.empty.ensures.types at c.extended-parameters.ensures.types)
    c.in_ok-behind.ensures
    c.if-behind-end.false
