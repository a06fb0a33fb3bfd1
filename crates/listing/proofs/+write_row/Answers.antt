-- `listing::write_row` meets its contract: no part, an open part and the rest of the row, or a bound part, its fields and the rest of the row.
-- Rests on Rows and headers' Bytes.
use Rattle.std.proofs.Common.{◌∙◌, arith}
use Rattle.headers.proofs.Bytes.{writes_length, kept_all, writes_kept, kept_then}
use Rattle.listing.proofs.Rows.{part_fits, open_fits, number_small, fields_fit, rest_fits, wrote_none, wrote_open, wrote_bound}
use Rattle.listing.proofs.+write_row.Goals as goal

-- no part
pub returns-then-k-eq0 : goal.returns-then-k-eq0
returns-then-k-eq0 t c = record { wrote = wrote_none c.if-k-eq0.true; kept = kept_all _ }

-- where the row has a part: there is fuel for it, a byte of the list, and its cell's number is small
pub cell_word-head-requires : goal.cell_word-head-requires
cell_word-head-requires t c = ((part_fits c.requires c.if-k-eq0.false).2, omega arith)

-- an open part, and the rest of the row
pub byte-requires : goal.byte-requires
byte-requires t c = (part_fits c.requires c.if-k-eq0.false).1

pub overflow_add-first : goal.overflow_add-first
overflow_add-first t c = omega (arith, part_fits c.requires c.if-k-eq0.false)

pub overflow_sub-fuel : goal.overflow_sub-fuel
overflow_sub-fuel t c = (part_fits c.requires c.if-k-eq0.false).0

pub write_row-requires : goal.write_row-requires
write_row-requires t c = (
  omega (arith, c.decreases, part_fits c.requires c.if-k-eq0.false),
  rw c.byte.ensures.place (open_fits c.requires c.if-k-eq0.false c.cell_word-head.ensures.0 c.if-head-eq0.true (writes_length c.byte.ensures)),
)

pub returns-then-head-eq0 : goal.returns-then-head-eq0
returns-then-head-eq0 t c = record {
  wrote = wrote_open c.if-k-eq0.false c.cell_word-head.ensures.0 c.if-head-eq0.true (rw (c.byte.ensures.place, c.byte.ensures.bytes) at c.write_row.ensures.wrote);
  kept = kept_then (writes_kept c.byte.ensures) c.write_row.ensures.kept;
}

-- a bound part, its fields, and the rest of the row
pub cell_word-fields-requires : goal.cell_word-fields-requires
cell_word-fields-requires t c = ((part_fits c.requires c.if-k-eq0.false).2, omega arith)

pub cell_word-requires : goal.cell_word-requires
cell_word-requires t c = ((part_fits c.requires c.if-k-eq0.false).2, omega arith)

pub overflow_cast-number : goal.overflow_cast-number
overflow_cast-number t c =
    let small =
    number_small c.requires c.if-k-eq0.false c.cell_word-head.ensures.0 c.if-head-eq0.false c.cell_word-fields.ensures.0 c.cell_word.ensures.0
    c.field_count-n.ensures in
    omega arith

pub byte-requires-2 : goal.byte-requires-2
byte-requires-2 t c = (part_fits c.requires c.if-k-eq0.false).1

pub overflow_sub-fuel-2 : goal.overflow_sub-fuel-2
overflow_sub-fuel-2 t c = (part_fits c.requires c.if-k-eq0.false).0

pub write_row-requires-2 : goal.write_row-requires-2
write_row-requires-2 t c = (
  omega (arith, c.decreases, part_fits c.requires c.if-k-eq0.false),
  rw c.byte-2.ensures.place
      (fields_fit c.requires c.if-k-eq0.false c.cell_word-head.ensures.0 c.if-head-eq0.false c.cell_word-fields.ensures.0 c.cell_word.ensures.0
      c.field_count-n.ensures
      (writes_length c.byte-2.ensures)),
)

pub overflow_sub-fuel-3 : goal.overflow_sub-fuel-3
overflow_sub-fuel-3 t c = (part_fits c.requires c.if-k-eq0.false).0

pub write_row-requires-3 : goal.write_row-requires-3
write_row-requires-3 t c = (
  omega (arith, c.decreases, part_fits c.requires c.if-k-eq0.false),
  rest_fits c.requires c.if-k-eq0.false c.cell_word-head.ensures.0 c.if-head-eq0.false c.cell_word-fields.ensures.0 c.cell_word.ensures.0
      c.field_count-n.ensures
      (rw c.byte-2.ensures.place at c.write_row-2.ensures.wrote)
      (c.write_row-2.ensures.kept.room ∙ writes_length c.byte-2.ensures),
)

pub returns : goal.returns
returns t c = record {
  wrote = wrote_bound c.if-k-eq0.false c.cell_word-head.ensures.0 c.if-head-eq0.false c.cell_word-fields.ensures.0 c.cell_word.ensures.0
      c.field_count-n.ensures
      (rw (c.byte-2.ensures.place, c.byte-2.ensures.bytes) at c.write_row-2.ensures.wrote)
      c.write_row-3.ensures.wrote;
  kept = kept_then (writes_kept c.byte-2.ensures) (kept_then c.write_row-2.ensures.kept c.write_row-3.ensures.kept);
}
