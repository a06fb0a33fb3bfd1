-- `namelines::put_entry` meets its contract: each turn of the loop writes the line of one parameter, if it is a name, and passes over it.
-- Rests on Onward.
use mathlib.Core.Path.{◌≡◌, sym, ◌∙◌}
use Prim.Native.Nat.{◌+◌, ◌-◌}
use native.Mathlib.Omega.{arith}
use Rattle.reach.specs.Places.{bytes_at}
use Rattle.reach.proofs.Base.{clash}
use Rattle.lookups.proofs.Tables.{bytes_none}
use Rattle.namelines.proofs.Onward.{onward_whole, next_place, place_inside, spelt_there, onward_next, onward_done, onward_end, row_length, turned}
use Rattle.rows.proofs.Rows.{measured_is}
use Rattle.namelines.proofs.put_entry.Goals as goal

pub loop-field-init : goal.loop-field-init
loop-field-init c =
    let all : c.args.asked.parameters.at + c.args.asked.parameters.count - c.args.asked.parameters.at ≡ c.args.asked.parameters.count = omega arith in
    rw all (onward_whole _ _ _ c.requires.0.legible _ _ _ _ c.requires.0.row c.requires.0.stands)

pub put_parameter-requires : goal.put_parameter-requires
put_parameter-requires c =
    let here = turned c.args.values.now.rules.file.now c.loop-field.field (c.args.asked.parameters.at + c.args.asked.parameters.count - c.loop-field.field) (omega arith) c.loop-field.invariant in
    let short = row_length _ _ _ c.requires.0.legible _ _ _ c.requires.0.row c.requires.0.stands in (
      c.requires.0.in_limit,
      omega (arith, place_inside _ _ _ c.requires.0.legible _ here),
      omega (arith, c.requires.1, onward_end _ _ _ c.requires.0.legible _ here, short, c.requires.0.in_limit),
      λ same. spelt_there _ _ _ c.requires.0.legible _ here (sym c.byte_or_zero-t.ensures.value ∙ same),
    )

-- a parameter that stands there is passed over
pub returns-in_default : goal.returns-in_default
unfolding bytes_at
returns-in_default c =
    let here = turned c.args.values.now.rules.file.now c.loop-field.field (c.args.asked.parameters.at + c.args.asked.parameters.count - c.loop-field.field) (omega arith) c.loop-field.invariant in
    let (next, deep, is, there) = next_place _ _ _ c.requires.0.legible _ _ _ _ here.row here.stands (rw c.byte_or_zero-t.ensures.value at c.value.ensures.value) in
    absurd (clash (cc (is, c.in_default.is)))

pub loop-field-preserved : goal.loop-field-preserved
unfolding bytes_at
loop-field-preserved c =
    let here = turned c.args.values.now.rules.file.now c.loop-field.field (c.args.asked.parameters.at + c.args.asked.parameters.count - c.loop-field.field) (omega arith) c.loop-field.invariant in
    let (next, deep, is, there) = next_place _ _ _ c.requires.0.legible _ _ _ _ here.row here.stands (rw c.byte_or_zero-t.ensures.value at c.value.ensures.value) in
    let same : next ≡ c.in-Some.one.next = (measured_is (sym is ∙ c.in-Some.is)).0 in
    let wrote = rw c.byte_or_zero-t.ensures.value at c.put_parameter.ensures in
    let stop = c.args.asked.parameters.at + c.args.asked.parameters.count in
    let less : stop - (c.loop-field.field + 1) ≡ stop - c.loop-field.field - 1 = omega arith in
    rw less (onward_next _ _ _ c.requires.0.legible _ here wrote (rw same at there))

pub returns : goal.returns
returns c =
    let none_left = bytes_none c.args.values.now.rules.file.now c.loop-field.field (c.args.asked.parameters.at + c.args.asked.parameters.count - c.loop-field.field) (omega arith) in
    onward_done _ _ _ c.requires.0.legible _ (rw none_left at c.loop-field.invariant)
