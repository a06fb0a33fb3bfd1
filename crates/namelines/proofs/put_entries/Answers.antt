-- `namelines::put_entries` meets its contract: each turn of the loop writes the lines of one entry.
-- Rests on Entries and on entries' Walk.
use Prim.Native.Nat.{◌<◌}
use mathlib.Core.Path.{◌≡◌, sym, ◌∙◌, ap}
use mathlib.Core.Option.{some-injective}
use native.Mathlib.Omega.{arith}
use lib.ListN.{length}
use Rattle.entries.specs.declared.EachEntry.{EachEntry}
use Rattle.entries.proofs.Walk.{size_least}
use Rattle.namelines.proofs.Entries.{going_whole, going_end, going_more, going_done}
use Rattle.namelines.proofs.put_entries.Goals as goal

pub loop-entry-init : goal.loop-entry-init
loop-entry-init c =
    let each = c.into_iter-entry-iterator.result in
    let gives = c.into_iter-entry-iterator.ensures.into_iter_gives in
    let start : each.at ≡ 0 = ap (λ (e : EachEntry). e.at) gives ∙ c.each_entry-entry-items.ensures.1 in
    let same : each.list.now ≡ c.args.values.now.list.now = ap (λ (e : EachEntry). e.list.now) gives ∙ c.each_entry-entry-items.ensures.0 in
    (tt, tt, same, rw start (going_whole _ _ _ c.requires.1.legible _ _ _ c.requires.1.entries c.requires.1.bytes c.requires.1.fitted))

pub put_entry-requires : goal.put_entry-requires
put_entry-requires c =
    let (begins, sized, next, list) = c.in-Some.ensures.steps in
    let inside = size_least c.args.values.now.list.now c.loop-entry.entry-iterator.at _ (rw c.loop-entry.invariant.2 at sized) in
    let more : c.loop-entry.entry-iterator.at < length c.args.values.now.list.now = omega (arith, inside.0, inside.1) in
    let here = going_more _ _ _ c.requires.1.legible _ _ _ c.loop-entry.invariant.3 more in
    let far = going_end _ _ _ c.requires.1.legible _ _ _ c.requires.1.entries c.requires.1.bytes c.requires.1.fitted c.loop-entry.invariant.3 in (
      rw begins
          (record { row = here.entry.input; stands = here.stands; legible = c.requires.1.legible; in_limit = c.requires.1.in_limit }),
      omega (arith, far, c.requires.1.in_limit),
    )

pub loop-entry-preserved : goal.loop-entry-preserved
loop-entry-preserved c =
    let (begins, sized, next, list) = c.in-Some.ensures.steps in
    let there = rw c.loop-entry.invariant.2 at sized in
    let inside = size_least c.args.values.now.list.now c.loop-entry.entry-iterator.at _ there in
    let more : c.loop-entry.entry-iterator.at < length c.args.values.now.list.now = omega (arith, inside.0, inside.1) in
    let here = going_more _ _ _ c.requires.1.legible _ _ _ c.loop-entry.invariant.3 more in
    let size = some-injective _ _ (sym there ∙ here.size) in
    (tt, tt, list ∙ c.loop-entry.invariant.2, rw (next, size) (here.later (rw begins at c.put_entry.ensures)))

pub returns : goal.returns
returns c = going_done _ _ _ c.requires.1.legible _ _ _ c.loop-entry.invariant.3 (rw c.loop-entry.invariant.2 at c.in-None.ensures.steps.0)
