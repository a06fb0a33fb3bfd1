-- `exploring::explore` meets its contract. The invariant: from the beginning the search came to here, and the entries listed and still to come are the
-- program's list. The measure is the weight of where it stands. Rests on Exploring.
use mathlib.Core.Path.{refl, ap, subst}
use Rattle.headers.proofs.Bytes.{kept_all, kept_then}
use Rattle.listing.specs.Entry.{placed}
use Rattle.results.specs.declared.Listed.TheVariants as Listed
use Rattle.exploring.specs.Exploring.{GoesOn}
use Rattle.exploring.proofs.Exploring.{came_begin, came_standing, same_room, came_over, move_lighter, move_length, move_listable, came_on, came_full, explored_as}
use native.Mathlib.Omega.{arith}
use Rattle.std.proofs.Common.{rules}
use Rattle.exploring.proofs.explore.Goals as goal

pub loop-walk-init : goal.loop-walk-init
loop-walk-init c =
    (refl, kept_all _, came_begin _)

pub make_moves-moved-requires : goal.make_moves-moved-requires
make_moves-moved-requires c =
    (came_standing (c.loop-walk.invariant.2 c.args.from c.first_walk-walk.ensures) c.requires, subst (GoesOn c.loop-walk.walk) c.loop-walk-test.true c.is_active.ensures)

pub write_listing-requires : goal.write_listing-requires
write_listing-requires c =
    (move_listable (c.loop-walk.invariant.2 c.args.from c.first_walk-walk.ensures) c.make_moves-moved.ensures c.loop-walk.invariant.0 c.requires, let room = same_room (c.loop-walk.invariant.2 c.args.from c.first_walk-walk.ensures) c.requires in omega (arith, c.loop-walk.invariant.1.room, room.1))

pub returns-then-not-write_listing : goal.returns-then-not-write_listing
returns-then-not-write_listing c =
    rw (c.write_listing.ensures.stays c.if-not-write_listing.true)
    (explored_as c.args.search.now c.args.work.now _ c.args.parameters c.args.from c.args.list.now (Listed.Full c.loop-walk.writer.at)
    (came_full (c.loop-walk.invariant.2 c.args.from c.first_walk-walk.ensures) c.make_moves-moved.ensures c.loop-walk.invariant.0 _ _ c.write_listing.ensures.wrote (ap (λ fits. placed fits c.write_listing.new.writer.at) c.if-not-write_listing.true))
    (search rules))

pub loop-walk-smaller : goal.loop-walk-smaller
loop-walk-smaller c =
    move_lighter (c.loop-walk.invariant.2 c.args.from c.first_walk-walk.ensures) c.make_moves-moved.ensures c.loop-walk.invariant.0 c.requires

pub loop-walk-preserved : goal.loop-walk-preserved
loop-walk-preserved c =
    (move_length (c.loop-walk.invariant.2 c.args.from c.first_walk-walk.ensures) c.make_moves-moved.ensures c.loop-walk.invariant.0 c.requires, kept_then c.loop-walk.invariant.1 c.write_listing.ensures.kept, λ r is. came_on (c.loop-walk.invariant.2 r is) c.make_moves-moved.ensures c.loop-walk.invariant.0 _ _ c.write_listing.ensures.wrote (ap (λ fits. placed fits c.write_listing.new.writer.at) c.if-not-write_listing.false) c.verdict_after-verdict.ensures)

pub returns : goal.returns
returns c =
    explored_as c.args.search.now c.args.work.now _ c.args.parameters c.args.from c.args.list.now (Listed.Complete c.loop-walk.writer.at c.loop-walk.verdict)
    (came_over (c.loop-walk.invariant.2 c.args.from c.first_walk-walk.ensures) c.is_active.ensures c.loop-walk-test.false)
    (search rules)
