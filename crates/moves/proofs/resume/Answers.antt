-- `moves::resume` meets its contract, by whether a path is under way. Rests on Returning.
use Rattle.moves.proofs.Returning.{on_resumes}
use Rattle.moves.proofs.resume.Goals as goal

pub returns-in-Some : goal.returns-in-Some
returns-in-Some c =
    let s = c.args.search.now in
    let r = s.run.program.rules in
    on_resumes r.file.now r.types.now r.functions.now s.least.of c.args.work.now s.run.store.at s.stack.at c.args.walk c.in-Some.is

pub go_back-requires : goal.go_back-requires
go_back-requires c = (c.requires.0, c.in-None.is, c.requires.1)
