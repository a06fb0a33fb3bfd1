-- `moves::go_back` meets its contract, by where the return leads. Rests on Returning.
use mathlib.Core.Path.{sym, subst}
use Rattle.arriving.specs.Moving.{ResumesIn}
use Rattle.moves.proofs.Returning.{back_some, back_nowhere, back_forking, back_taken}
use Rattle.moves.proofs.go_back.Goals as goal

pub find_return-requires : goal.find_return-requires
find_return-requires c =
    let s = c.args.search.now in
    let r = s.run.program.rules in
    back_some r.file.now r.types.now r.functions.now s.least.of c.args.work.now s.run.store.at s.stack.at c.args.walk c.requires.1 c.requires.0

pub take_fork-requires : goal.take_fork-requires
take_fork-requires c =
    let s = c.args.search.now in
    let r = s.run.program.rules in
    back_forking r.file.now r.types.now r.functions.now s.least.of c.args.work.now s.run.store.at s.stack.at c.args.walk c.requires.1 _ _ c.find_return.ensures c.in-Some.is c.requires.0

pub returns-in-Some : goal.returns-in-Some
returns-in-Some c =
    let s = c.args.search.now in
    let r = s.run.program.rules in
    back_taken r.file.now r.types.now r.functions.now s.least.of c.args.work.now s.run.store.at s.stack.at c.args.walk c.requires.1 _ _ c.find_return.ensures c.in-Some.is c.take_fork.ensures

pub returns-in-None : goal.returns-in-None
returns-in-None c =
    let s = c.args.search.now in
    let r = s.run.program.rules in
    subst (ResumesIn s c.args.work.now c.find_return.new.work c.args.walk) (sym c.ended.ensures)
    (back_nowhere r.file.now r.types.now r.functions.now s.least.of c.args.work.now s.run.store.at s.stack.at c.args.walk c.requires.1 _ _ c.find_return.ensures c.in-None.is c.requires.2)
