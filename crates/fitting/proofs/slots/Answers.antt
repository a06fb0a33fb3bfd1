-- `fitting::slots` meets its contract: each turn of the loop reads one value. Rests on Fitting and on rows' Rows.
use Prim.Native.Nat.{◌+◌, ◌-◌, max}
use mathlib.Core.Path.{◌≡◌, sym, ◌∙◌, ap}
use native.Mathlib.Omega.{arith}
use lib.ListN.{drop}
use Rattle.reach.specs.Places.{bytes_at}
use Rattle.rows.specs.Values.{measured, of_row, slots_at, table_of}
use Rattle.rows.specs.Stack.{joined}
use Rattle.rows.proofs.Rows.{joined_twice}
use Rattle.fitting.proofs.Fitting.{slots_whole, slots_done, slots_bad, slots_deep, slots_next}
use Rattle.fitting.proofs.slots.Goals as goal

pub loop-i-init : goal.loop-i-init
loop-i-init c =
    let v = c.args.values.now in
    slots_whole v.rules.file.now v.rules.types.now (table_of v.least) v.list.now c.args.depths c.args.fields.at c.args.fields.count c.args.at

pub returns-in_err-one : goal.returns-in_err-one
returns-in_err-one c =
    let v = c.args.values.now in
    let told = sym c.in_err-one.was ∙ rw c.byte_or_zero-t.ensures.value at c.value.ensures.value in
    rw c.from_residual.ensures
    (sym (sym c.loop-i.invariant ∙ ap (joined c.loop-i.deep) (slots_bad v.rules.file.now v.rules.types.now (table_of v.least) v.list.now c.args.depths c.args.fields.at c.args.fields.count c.loop-i.i c.loop-i.next c.loop-i-test.true told)))

pub returns-then-depth_at-one : goal.returns-then-depth_at-one
returns-then-depth_at-one c =
    let v = c.args.values.now in
    let told = sym c.in_ok-one.was ∙ rw c.byte_or_zero-t.ensures.value at c.value.ensures.value in
    sym (sym c.loop-i.invariant ∙ ap (joined c.loop-i.deep) (slots_deep v.rules.file.now v.rules.types.now (table_of v.least) v.list.now c.args.depths c.args.fields.at c.args.fields.count c.loop-i.i c.loop-i.next c.loop-i-test.true told (omega (arith, c.if-depth_at-one.true, c.depth_at.ensures.value))))

pub loop-i-preserved : goal.loop-i-preserved
loop-i-preserved c =
    let v = c.args.values.now in
    let one = c.in_ok-one.one in
    let told = sym c.in_ok-one.was ∙ rw c.byte_or_zero-t.ensures.value at c.value.ensures.value in
    let deeper : max one.deep c.loop-i.deep ≡ max c.loop-i.deep one.deep = omega arith in
    let next = slots_next v.rules.file.now v.rules.types.now (table_of v.least) v.list.now c.args.depths c.args.fields.at c.args.fields.count c.loop-i.i c.loop-i.next c.loop-i-test.true told (omega (arith, c.if-depth_at-one.false, c.depth_at.ensures.value)) in
    rw (c.max-deep.ensures, deeper)
    (sym (joined_twice c.loop-i.deep one.deep (of_row (slots_at v.rules.file.now v.rules.types.now (table_of v.least) (drop (c.loop-i.i + 1) c.args.depths) (bytes_at v.rules.file.now (c.args.fields.at + (c.loop-i.i + 1)) (c.args.fields.count - (c.loop-i.i + 1))) v.list.now one.next)))
    ∙ ap (joined c.loop-i.deep) (sym next) ∙ c.loop-i.invariant)

pub returns : goal.returns
returns c =
    let v = c.args.values.now in
    let flat : max c.loop-i.deep 0 ≡ c.loop-i.deep = omega arith in
    ap (measured c.loop-i.next) (sym flat) ∙ ap (joined c.loop-i.deep) (sym (slots_done v.rules.file.now v.rules.types.now (table_of v.least) v.list.now c.args.depths c.args.fields.at c.args.fields.count c.loop-i.i c.loop-i.next c.loop-i-test.false)) ∙ c.loop-i.invariant
