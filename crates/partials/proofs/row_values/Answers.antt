-- `partials::row_values` meets its contract: the loop's invariant is Frames' Reading, that the row and the stack come to what the whole row comes to.
-- The measure: each turn takes a byte of the list, or takes a row off the stack. Rests on Frames.
use mathlib.Core.Path.{refl, sym, ap, ◌∙◌}
use Rattle.std.specs.Prelude.{Some}
use native.Mathlib.Omega.{arith}
use Rattle.partials.proofs.Frames.{begun, last_waits, ended, popped, stopped, passed, pushed, part_near, node_near}
use Rattle.rows.specs.Values.{table_of}
use Rattle.partials.proofs.row_values.Goals as goal

pub loop-top-init : goal.loop-top-init
loop-top-init c =
    let v = c.args.values.now in
    begun v.rules.file.now v.rules.types.now (table_of v.least) v.list.now c.args.levels _ c.args.row c.args.at c.requires.0 c.requires.1 refl

pub overflow_add-top : goal.overflow_add-top
overflow_add-top c = omega (arith, c.from.ensures, c.loop-top.invariant.low.0, c.loop-top.invariant.within, c.loop-top.invariant.few)

pub overflow_sub-top : goal.overflow_sub-top
overflow_sub-top c = omega (arith, c.if-row-eq0.true, c.loop-top-test.true, c.from.ensures)

pub offset_bounds-stack-top : goal.offset_bounds-stack-top
offset_bounds-stack-top c = omega (arith, c.loop-top.invariant.within, c.loop-top.invariant.few)

pub bounds-stack-top : goal.bounds-stack-top
bounds-stack-top c = omega (arith, c.loop-top.invariant.within, c.loop-top.invariant.few)

pub overflow_add-from : goal.overflow_add-from
overflow_add-from c = omega (arith, c.from-then-row-eq0.ensures, c.loop-top.invariant.low.1, c.loop-top.invariant.few)

pub past-row-requires : goal.past-row-requires
past-row-requires c =
    let waits = last_waits _ _ _ _ c.loop-top.invariant (omega (arith, c.if-row-eq0.true, c.loop-top-test.true, c.from.ensures)) in
    (omega (arith, waits.1.0), waits.0, omega (arith, c.from-then-row-eq0.ensures, c.loop-top.invariant.low.1, c.loop-top.invariant.few))

pub loop-top-smaller-then-row-eq0 : goal.loop-top-smaller-then-row-eq0
loop-top-smaller-then-row-eq0 c = omega (arith, c.if-row-eq0.true, c.loop-top-test.true, c.from.ensures)

pub loop-top-preserved-then-row-eq0 : goal.loop-top-preserved-then-row-eq0
loop-top-preserved-then-row-eq0 c =
    rw (c.past-row.ensures, c.from-then-row-eq0.ensures)
    (popped _ _ _ _ c.loop-top.invariant (omega (arith, c.if-row-eq0.true)) (omega (arith, c.if-row-eq0.true, c.loop-top-test.true, c.from.ensures)))

pub overflow_cast-row : goal.overflow_cast-row
overflow_cast-row c = omega (arith, c.loop-top.invariant.low.0)

pub overflow_sub-levels : goal.overflow_sub-levels
overflow_sub-levels c = c.loop-top.invariant.within

pub returns-in_err-part-clause-value : goal.returns-in_err-part-clause-value
returns-in_err-part-clause-value c =
    rw c.from_residual.ensures
    (sym (stopped _ _ _ _ c.loop-top.invariant (omega (arith, c.if-row-eq0.false)) c.byte_or_zero-t.ensures.value c.first_byte.result c.first_byte.ensures.at_value c.first_byte.ensures.near c.in_err-part.was))

pub past-row-requires-in-Part : goal.past-row-requires-in-Part
past-row-requires-in-Part c =
    let taken = part_near _ _ _ c.first_byte.result c.first_byte.ensures.near (c.in_ok-part.was ∙ ap Some c.in-Part.is) in
    (omega (arith, c.loop-top.invariant.low.0), omega (arith, c.if-row-eq0.false), omega (arith, taken.2))

pub loop-top-smaller-in-Part : goal.loop-top-smaller-in-Part
loop-top-smaller-in-Part c =
    let taken = part_near _ _ _ c.first_byte.result c.first_byte.ensures.near (c.in_ok-part.was ∙ ap Some c.in-Part.is) in
    omega (arith, taken.0, taken.1)

pub loop-top-preserved-in-Part : goal.loop-top-preserved-in-Part
loop-top-preserved-in-Part c =
    rw c.past-row-in-Part.ensures
    (passed _ _ _ _ c.loop-top.invariant (omega (arith, c.if-row-eq0.false)) c.byte_or_zero-t.ensures.value c.first_byte.result c.first_byte.ensures.at_value c.first_byte.ensures.near (c.in_ok-part.was ∙ ap Some c.in-Part.is))

pub offset_bounds-stack-top-in-Node : goal.offset_bounds-stack-top-in-Node
offset_bounds-stack-top-in-Node c = omega (arith, c.loop-top.invariant.within, c.loop-top.invariant.few)

pub bounds-stack-top-in-Node : goal.bounds-stack-top-in-Node
bounds-stack-top-in-Node c =
    let taken = node_near _ _ _ c.first_byte.result c.first_byte.ensures.near (c.in_ok-part.was ∙ ap Some c.in-Node.is) in
    omega (arith, c.loop-top.invariant.within, c.loop-top.invariant.few, taken.3)

pub overflow_add-top-in-Node : goal.overflow_add-top-in-Node
overflow_add-top-in-Node c = omega (arith, c.loop-top.invariant.within, c.loop-top.invariant.few)

pub loop-top-smaller : goal.loop-top-smaller
loop-top-smaller c =
    let taken = node_near _ _ _ c.first_byte.result c.first_byte.ensures.near (c.in_ok-part.was ∙ ap Some c.in-Node.is) in
    omega (arith, taken.0, taken.1)

pub loop-top-preserved : goal.loop-top-preserved
loop-top-preserved c =
    pushed _ _ _ _ c.loop-top.invariant (omega (arith, c.if-row-eq0.false)) c.byte_or_zero-t.ensures.value c.first_byte.result c.first_byte.ensures.at_value c.first_byte.ensures.near (c.in_ok-part.was ∙ ap Some c.in-Node.is)

pub returns : goal.returns
returns c =
    rw c.from-deep.ensures (record {
      value = sym (ended _ _ _ _ c.loop-top.invariant (omega (arith, c.loop-top-test.false, c.from.ensures)) (omega (arith, c.loop-top-test.false, c.from.ensures)));
      near = omega (arith, c.loop-top.invariant.low.1);
    })
