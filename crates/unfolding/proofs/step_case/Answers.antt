-- `unfolding::step_case` meets its contract: Unfolds says what the words stand for after the record of the waiting case was written.
use Rattle.registers.proofs.Walks.{entry_behind}
use Rattle.unfolding.proofs.Unfolds.{case_leads}
use Rattle.unfolding.proofs.step_case.Goals as goal

pub returns : goal.returns
returns c = λ types functions filled.
    case_leads _ types functions _ _ _ _ _ _ c.requires
    (entry_behind _ types functions _ filled _ c.end-alternatives.ensures.0) c.put.ensures
