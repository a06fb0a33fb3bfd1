-- `printing::list_text` meets its contract: the bytes that count are walked.
-- Rests on Walk.
use mathlib.Core.Path.{refl}
use native.Mathlib.Omega.{arith}
use lib.ListN.{length-take}
use Rattle.std.proofs.Common.{rules}
use Rattle.reach.specs.Lists.{room_of}
use Rattle.printing.proofs.Walk.{text_fronted}
use Rattle.printing.proofs.list_text.Goals as goal

pub slice_bounds-put_list-end : goal.slice_bounds-put_list-end
unfolding room_of
slice_bounds-put_list-end c = simp length-take (omega (arith, c.room.ensures))

pub put_list-requires : goal.put_list-requires
unfolding room_of
put_list-requires c = (refl, simp length-take (omega (arith, c.room.ensures)))

pub returns : goal.returns
returns c = text_fronted c.args.full c.args.list.now c.room.ensures refl c.put_list.ensures (search rules)
