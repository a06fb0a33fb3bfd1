-- `printing::put_list` meets its contract. The invariant: what is left of the text, from the entries that are left and with the counts so far,
-- gives what the whole gives.
-- Rests on Walk, on entries' Walk and on writing's Writing.
use Prim.Native.Nat.{◌-◌}
use mathlib.Core.Path.{◌≡◌, ◌∙◌, ap}
use native.Mathlib.Omega.{arith}
use lib.ListN.{length}
use Rattle.reach.specs.Lists.{decoded_from}
use Rattle.entries.specs.declared.EachEntry.{EachEntry}
use Rattle.entries.proofs.Walk.{size_least}
use Rattle.writing.proofs.Writing.{left_whole}
use Rattle.printing.proofs.Walk.{text_whole, few_more, part_least, part_most, line_next, last_no_entry}
use Rattle.printing.proofs.put_list.Goals as goal

pub loop-entry-init : goal.loop-entry-init
loop-entry-init c =
    let whole = text_whole c.args.full (decoded_from (length c.args.list.now) c.args.list.now 0) in
    let each = c.into_iter-entry-iterator.result in
    let start : each.at ≡ 0 = omega (arith, c.each_entry-entry-items.ensures.1, ap (λ (e : EachEntry). e.at) c.into_iter-entry-iterator.ensures.into_iter_gives) in
    let same : each.list.now ≡ c.args.list.now = ap (λ (e : EachEntry). e.list.now) c.into_iter-entry-iterator.ensures.into_iter_gives ∙ c.each_entry-entry-items.ensures.0 in
    (tt, tt, same, (length c.args.list.now, omega arith, (omega arith, omega arith, omega arith), omega arith, rw (start, ← whole) (left_whole _ _)))

pub put_line-requires : goal.put_line-requires
put_line-requires c =
    let (here, sized, next, list) = c.in-Some.ensures.steps in
    let there = rw (c.loop-entry.invariant.2, ← here) at sized in
    let inside = size_least c.args.list.now c.in-Some.entry.at _ there in
    let (more, enough, few, near, left) = c.loop-entry.invariant.3 in (
      part_least c.args.list.now c.in-Some.entry.at _ there,
      omega (arith, part_most c.args.list.now c.in-Some.entry.at _ there, inside.1),
      omega (arith, here, near, inside.1),
    )

pub kind_at-requires : goal.kind_at-requires
kind_at-requires c =
    let (here, sized, next, list) = c.in-Some.ensures.steps in
    let inside = size_least c.args.list.now c.in-Some.entry.at _ (rw (c.loop-entry.invariant.2, ← here) at sized) in
    omega (arith, inside.0, inside.1)

pub loop-entry-preserved : goal.loop-entry-preserved
loop-entry-preserved c =
    let (here, sized, next, list) = c.in-Some.ensures.steps in
    let (more, enough, few, near, left) = c.loop-entry.invariant.3 in
    let at = c.loop-entry.entry-iterator.at in
    let there = rw c.loop-entry.invariant.2 at sized in
    let inside = size_least c.args.list.now at _ there in
    let written = rw here at c.put_line.ensures.put in
    let kind = rw here at c.kind_at.ensures in (
      tt,
      tt,
      list ∙ c.loop-entry.invariant.2,
      (
        more - 1,
        omega (arith, enough, next, inside.0),
        rw c.count.ensures (few_more c.kind_at.result c.loop-entry.counts at _ few (omega (arith, next, inside.0))),
        omega (arith, here, next, near, c.put_line.ensures.near, part_most c.args.list.now c.in-Some.entry.at _ (rw (← here) at there)),
        rw next (line_next c.args.list.now at _ there c.args.full c.loop-entry.counts more left (omega (arith, enough, inside.0, inside.1)) written kind c.count.ensures),
      ),
    )

pub returns : goal.returns
returns c =
    let (more, enough, few, near, left) = c.loop-entry.invariant.3 in
    last_no_entry c.args.list.now c.loop-entry.entry-iterator.at (rw c.loop-entry.invariant.2 at c.in-None.ensures.steps.0) c.args.full c.loop-entry.counts more left
    c.put_last.ensures
