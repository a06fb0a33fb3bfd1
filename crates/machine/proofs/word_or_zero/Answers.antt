-- `machine::word_or_zero` meets its contract: a word of the slice fits the wider type, and past the end stands 0.
use mathlib.Core.Path.{refl, sym}
use native.Mathlib.Omega.{arith}
use lib.ListN.{get_or-eq_default}
use Rattle.machine.proofs.word_or_zero.Goals as goal

pub overflow_cast-result : goal.overflow_cast-result
overflow_cast-result c = omega (arith, c.type_inv.work c.args.at)

pub returns-then-at-work : goal.returns-then-at-work
returns-then-at-work c = (refl, omega (arith, c.type_inv.work c.args.at))

pub returns-else-at-work : goal.returns-else-at-work
returns-else-at-work c = (sym (get_or-eq_default c.args.work.now 0 c.if-at-work.false), omega arith)
