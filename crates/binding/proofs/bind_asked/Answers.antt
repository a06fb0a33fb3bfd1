-- `binding::bind_asked` meets its contract: there is room for the cells of the fields, which are no more than 6. Rests on Bound.
use native.Mathlib.Omega.{arith}
use Rattle.binding.proofs.Bound.{fields_few}
use Rattle.binding.proofs.bind_asked.Goals as goal

pub bind_cell-requires : goal.bind_cell-requires
bind_cell-requires c =
    let few =
    fields_few c.requires c.noted-place.ensures c.byte_or_zero-c.ensures.value c.cell_word-t.ensures.0 c.in-Some.fields c.in-Some.ensures.result_value in
    (c.requires.in_use, omega arith, c.byte_or_zero-c.ensures.small, omega arith, c.requires.shallow)

pub note_values-requires : goal.note_values-requires
note_values-requires c =
    let few =
    fields_few c.requires c.noted-place.ensures c.byte_or_zero-c.ensures.value c.cell_word-t.ensures.0 c.in-Some.fields c.in-Some.ensures.result_value in
    omega arith
