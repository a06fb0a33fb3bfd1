-- `remburai::remburai_entry` meets its contract: the number packs the span that was found in the bytes that count. Rests on packing's Parts.
use native.Mathlib.Omega.{arith}
use mathlib.Core.Path.{subst, sym, ◌∙◌}
use lib.ListN.{length-take}
use Rattle.entries.specs.Spans.{span_of}
use Rattle.packing.specs.Packing.{PartAt}
use Rattle.packing.proofs.Parts.{end_small, span_ends, part_number_law, part_at}
use Rattle.remburai.proofs.remburai_entry.Goals as goal

pub slice_bounds-span_of-end : goal.slice_bounds-span_of-end
slice_bounds-span_of-end c =
    omega (arith, length-take c.room-end.result c.args.list.now, end_small c.args.list.now _ c.room-end.ensures)

pub part_number-requires : goal.part_number-requires
part_number-requires c =
    (span_ends c.args.list.now c.args.number _ c.room-end.ensures (span_of c.span_of.result) c.span_of.ensures, omega (arith, end_small c.args.list.now _ c.room-end.ensures))

pub returns : goal.returns
returns c =
    record {
      number_is = c.part_number.ensures ∙ part_number_law c.args.list.now c.args.number _ c.room-end.ensures (span_of c.span_of.result) c.span_of.ensures;
      part_is = subst (PartAt c.args.list.now c.args.number) (sym c.part_number.ensures) (part_at c.args.list.now c.args.number _ c.room-end.ensures (span_of c.span_of.result) c.span_of.ensures);
    }
