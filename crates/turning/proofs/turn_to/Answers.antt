-- `turning::turn_to` meets its contract: no record for the last field, one for the others.
use native.Mathlib.Omega.{arith}
use Rattle.machine.proofs.Words.{nothing_written}
use Rattle.registers.specs.Stepping.{to_last, to_next}
use Rattle.registers.proofs.Walks.{entry_behind}
use Rattle.turning.proofs.turn_to.Goals as goal

pub returns-then-k-eq1 : goal.returns-then-k-eq1
returns-then-k-eq1 c = λ file types functions filled. to_last (nothing_written c.args.work.now _ _) (omega (arith, c.requires.1, c.if-k-eq1.true))

pub returns : goal.returns
returns c = λ file types functions filled.
    to_next _ c.put.ensures (omega (arith, c.requires.1, c.if-k-eq1.false)) (entry_behind file types functions c.args.run.now.program.ends.now filled c.args.first c.end.ensures.0)
