-- `unfolding::step_let` meets its contract: Unfolds says what the words stand for after the record of the bound expression was written.
use Rattle.registers.proofs.Walks.{entry_behind}
use Rattle.unfolding.proofs.Unfolds.{let_leads}
use native.Mathlib.Omega.{arith}
use Rattle.unfolding.proofs.step_let.Goals as goal

pub put-requires : goal.put-requires
put-requires c = omega (arith, c.word-seen.ensures.0, c.requires.space.few c.args.r.env (omega arith))

pub returns : goal.returns
returns c = λ types functions filled.
    let_leads _ types functions _ _ _ _ _ _ c.requires
    (entry_behind _ types functions _ filled _ c.end-body.ensures.0) c.word-seen.ensures.0 c.put.ensures
