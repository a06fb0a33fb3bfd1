-- `rows::Values::first_byte` meets its contract. Rests on Rows, on the lookups' Fields and on the answers of crate marks.
use mathlib.Core.Path.{sym, ◌∙◌, ap}
use native.Mathlib.Omega.{arith}
use Prim.Native.Nat.{◌+◌, ◌-◌}
use Rattle.reach.specs.Places.{bytes_at}
use Rattle.marks.proofs.Answers.{byte_none}
use Rattle.lookups.specs.Fields.{field_types}
use Rattle.rows.specs.Values.{of_row, row_at, table_of}
use Rattle.rows.specs.Stack.{above}
use Rattle.rows.proofs.Rows.{byte_here, joined_none, value_short, value_opens, value_flat, value_unknown, value_fields}
use Rattle.rows.proofs.Values.first_byte.Goals as goal

pub returns-then-self-at-clause-at_value : goal.returns-then-self-at-clause-at_value
returns-then-self-at-clause-at_value c = value_short _ _ _ _ _ _ (byte_none _ _ c.if-self-at.true)

pub returns-in_err-open_part-clause-at_value : goal.returns-in_err-open_part-clause-at_value
returns-in_err-open_part-clause-at_value c =
    rw c.from_residual.ensures
    (value_opens _ _ _ _ _ _ (byte_here _ _ c.if-self-at.false) c.if-b.true ∙ sym c.open_part.ensures.value ∙ c.in_err-open_part.was)

pub returns-then-b-clause-at_value : goal.returns-then-b-clause-at_value
returns-then-b-clause-at_value c =
    value_opens _ _ _ _ _ _ (byte_here _ _ c.if-self-at.false) c.if-b.true ∙ sym c.open_part.ensures.value ∙ c.in_ok-open_part.was

pub returns-then-levels-eq0-clause-at_value : goal.returns-then-levels-eq0-clause-at_value
returns-then-levels-eq0-clause-at_value c = value_flat _ _ _ _ _ _ (byte_here _ _ c.if-self-at.false) c.if-b.false c.if-levels-eq0.true

pub returns-in_err-fields-clause-at_value : goal.returns-in_err-fields-clause-at_value
returns-in_err-fields-clause-at_value c =
    let told = rw c.from.ensures at c.fields.ensures.result_value in
    rw c.from_residual-in_err-fields.ensures
    (value_unknown _ _ _ _ _ _ (byte_here _ _ c.if-self-at.false) c.if-b.false (c.args.levels - 1) (omega (arith, c.if-levels-eq0.false)) (sym told ∙ ap (field_types _) c.in_err-fields.was))

pub returns-clause-at_value : goal.returns-clause-at_value
returns-clause-at_value c =
    let told = rw c.from.ensures at c.fields.ensures.result_value in
    let self = c.args.self.now in
    let found = c.in_ok-fields.fields in
    value_fields _ _ _ _ _ _ (byte_here _ _ c.if-self-at.false) c.if-b.false (c.args.levels - 1) (omega (arith, c.if-levels-eq0.false)) (sym told ∙ ap (field_types _) c.in_ok-fields.was)
    ∙ ap above (sym (joined_none (of_row (row_at self.rules.file.now self.rules.types.now (table_of self.least) (c.args.levels - 1) (bytes_at self.rules.file.now found.at found.count) self.list.now (c.args.at + 1)))))
