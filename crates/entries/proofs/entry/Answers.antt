-- `entries::entry` meets its contract: the span is found in the bytes that count, and the part is taken from the caller's list.
-- Rests on Walk, `room` and `span_of`.
use native.Mathlib.Omega.{arith}
use lib.ListN.{length-take}
use Rattle.reach.specs.Lists.{room_of}
use Rattle.entries.proofs.Walk.{part_none, part_inside, part_found, place_none, place_found, points_on}
use Rattle.std.proofs.Common.{rules}
use Rattle.entries.proofs.entry.Goals as goal

pub slice_bounds-span_of-end : goal.slice_bounds-span_of-end
unfolding room_of
slice_bounds-span_of-end c = simp length-take (omega (arith, c.room-end.ensures))

pub slice_bounds-result-end : goal.slice_bounds-result-end
unfolding room_of
slice_bounds-result-end c = search rules

pub returns-in_default : goal.returns-in_default
returns-in_default c =
    record { result_value = part_none _ _ _ c.room-end.ensures c.span_of.ensures c.in_default.is; place = points_on _ (place_none _ _ _ c.room-end.ensures c.span_of.ensures c.in_default.is) }

pub overflow_add-stop : goal.overflow_add-stop
overflow_add-stop c =
    omega (arith, part_inside _ _ _ c.room-end.ensures c.span_of.ensures c.in-Some.is)

pub slice_bounds-result-end-2 : goal.slice_bounds-result-end-2
slice_bounds-result-end-2 c =
    part_inside _ _ _ c.room-end.ensures c.span_of.ensures c.in-Some.is

pub returns : goal.returns
returns c =
    record { result_value = part_found _ _ _ c.room-end.ensures c.span_of.ensures c.in-Some.is; place = points_on _ (place_found _ _ _ c.room-end.ensures c.span_of.ensures c.in-Some.is) }
