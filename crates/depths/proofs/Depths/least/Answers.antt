-- `depths::Depths::least` meets its contract: a round that changes nothing, or the last, leaves the least depths. Rests on Rounds.
use native.Mathlib.Omega.{arith}
use mathlib.Core.Path.{sym, ◌∙◌}
use Rattle.depths.proofs.Rounds.{array_first, array_last, array_settled}
use Rattle.depths.proofs.Depths.least.Goals as goal

pub loop-made-init : goal.loop-made-init
loop-made-init c = sym (array_first c.args.rules.now.file.now c.args.rules.now.types.now c.requires)

pub next_round-requires : goal.next_round-requires
next_round-requires c = record { few = omega arith; reached = omega arith; holds = c.loop-made.invariant }

pub returns-in_default : goal.returns-in_default
returns-in_default c =
    c.loop-made.invariant ∙ array_settled c.args.rules.now.file.now c.args.rules.now.types.now c.loop-made.made (sym c.in_default.ensures ∙ c.loop-made.invariant)

pub returns : goal.returns
returns c = c.loop-made.invariant ∙ array_last c.args.rules.now.file.now c.args.rules.now.types.now c.loop-made.made (omega arith)
