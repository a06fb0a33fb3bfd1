-- `unfolding::step_call` meets its contract: Unfolds says what the words stand for after the record of the operands was written.
use Prim.Native.Nat.{ℕ}
use mathlib.Core.Path.{◌∙◌, ap}
use lib.ListN.{get_or}
use Rattle.reach.specs.Places.{head_at}
use Rattle.unfolding.proofs.Unfolds.{call_leads}
use Rattle.unfolding.proofs.step_call.Goals as goal

pub returns : goal.returns
returns c =
    call_leads _ _ _ _ _ _ _ _ c.head-head.result c.requires
    (c.head-head.ensures.result_value ∙ ap (λ (k : ℕ). head_at c.args.run.now.program.rules.file.now (get_or c.args.run.now.program.rules.functions.now k 0)) c.byte_or_zero.ensures.value)
    c.head-head.ensures.near.1 c.put.ensures
