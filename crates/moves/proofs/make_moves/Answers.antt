-- `moves::make_moves` meets its contract, by whether there is a path to go on with. Rests on Returning.
use Rattle.moves.proofs.Returning.{none_moves, on_some, on_moves}
use Rattle.moves.proofs.make_moves.Goals as goal

pub resume-from-requires : goal.resume-from-requires
resume-from-requires c =
    let ((p, position, cs, given, sought, stands), active) = c.requires in
    ((p, c.args.search.now.limit, position, cs, given, stands), active)

pub arrive-requires : goal.arrive-requires
arrive-requires c =
    let s = c.args.search.now in
    let r = s.run.program.rules in
    on_some r.file.now r.types.now r.functions.now s.least.of s.run.label c.args.work.now _ s.limit s.run.store.at s.stack.at c.args.walk c.resume-from.result c.resume-from.ensures c.in-Some.is c.requires.0

pub returns-in-Some : goal.returns-in-Some
returns-in-Some c =
    let s = c.args.search.now in
    let r = s.run.program.rules in
    on_moves r.file.now r.types.now r.functions.now s.least.of s.run.label c.args.work.now _ s.limit s.run.store.at s.stack.at c.args.walk c.resume-from.result c.resume-from.ensures c.in-Some.is c.arrive.ensures

pub returns-in-None : goal.returns-in-None
returns-in-None c =
    let s = c.args.search.now in
    let r = s.run.program.rules in
    rw c.over.ensures (none_moves r.file.now r.types.now r.functions.now s.least.of s.run.label c.args.work.now _ s.limit s.run.store.at s.stack.at c.args.walk c.resume-from.result c.resume-from.ensures c.in-None.is)
