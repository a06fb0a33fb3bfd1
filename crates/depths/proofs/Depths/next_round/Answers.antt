-- `depths::Depths::next_round` meets its contract: each turn of the loop gives one type its number. Rests on Rounds.
use mathlib.Core.Path.{sym, ◌∙◌}
use native.Mathlib.Omega.{arith}
use Rattle.std.specs.Cmp.Lexicographic.{same_text}
use Rattle.depths.proofs.Rounds.{round_next, round_done}
use Rattle.depths.proofs.Depths.next_round.Goals as goal

pub loop-t-preserved : goal.loop-t-preserved
loop-t-preserved c = round_next _ _ c.requires c.loop-t-test.true c.loop-t.invariant c.renewed.ensures

pub returns-then-eq : goal.returns-then-eq
returns-then-eq c = sym (same_text _ _ c.if-eq.ensures) ∙ round_done _ _ c.loop-t.t c.requires (omega arith) c.loop-t.invariant

pub returns-else-eq : goal.returns-else-eq
returns-else-eq c = round_done _ _ c.loop-t.t c.requires (omega arith) c.loop-t.invariant
