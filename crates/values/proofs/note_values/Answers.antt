-- `values::note_values` meets its contract. The loop's invariant: the places of the values before the present one are noted, and where the row is read and
-- one is left the present one stands at `place`. Rests on Noting.
use mathlib.Core.Path.{◌≡◌}
use native.Mathlib.Omega.{arith}
use lib.ListN.{length}
use Rattle.reach.specs.Places.{bytes_at}
use Rattle.reach.proofs.Places.{bytes_length}
use Rattle.values.proofs.Noting.{reached_first, noted_none, noted_next, reached_more}
use Rattle.values.proofs.note_values.Goals as goal

pub loop-i-init : goal.loop-i-init
loop-i-init c = (noted_none _ _ _ _ _ _ _, λ some. reached_first _ _ _ _ _)

pub loop-i-preserved : goal.loop-i-preserved
loop-i-preserved c =
    let (noted, reached) = c.loop-i.invariant in
    let some = c.loop-i-test.true in (
      noted_next _ _ _ _ _ _ some (reached some) _ noted c.requires c.note.ensures,
      λ more. reached_more _ _ _ _ _ _ some (reached some) c.byte_or_zero-t.ensures.value (c.next_place-place.ensures (omega arith)),
    )

pub returns : goal.returns
returns c =
    let types = bytes_at c.args.rules.now.file.now c.args.fields.at c.args.fields.count in
    let all : c.loop-i.i ≡ length types = omega (arith, bytes_length c.args.rules.now.file.now c.args.fields.at c.args.fields.count) in
    rw all at c.loop-i.invariant.0
