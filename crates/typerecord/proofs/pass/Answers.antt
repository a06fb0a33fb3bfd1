-- `typerecord::pass` meets its contract: the two tests of the code, which cannot wrap, are the one of `passed`.
-- Rests on Passing.
use native.Mathlib.Omega.{arith}
use Rattle.typerecord.proofs.Passing.{passed_there, passed_none}
use Rattle.typerecord.proofs.pass.Goals as goal

pub returns-then-s-at : goal.returns-then-s-at
returns-then-s-at c = rw (passed_none c.args.n c.args.s.now c.args.at (omega arith))

pub returns-then-s-at-2 : goal.returns-then-s-at-2
returns-then-s-at-2 c = rw (passed_none c.args.n c.args.s.now c.args.at (omega arith))

pub returns : goal.returns
returns c = rw (passed_there c.args.n c.args.s.now c.args.at (omega arith))
