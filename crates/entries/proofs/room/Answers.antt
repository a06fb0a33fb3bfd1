-- `entries::room` meets its contract. Rests on reach's Lists.
use Rattle.std.proofs.Common.{rules}
use Rattle.reach.specs.Lists.{room_of}
use Rattle.entries.proofs.room.Goals as goal

pub returns : goal.returns
unfolding room_of
returns c = search rules
