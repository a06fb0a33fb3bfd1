-- `unfolding::step_variable` meets its contract: Variables says what the words stand for after the step, by the mark of the group's record.
use Rattle.registers.proofs.Walks.{operand_there}
use Rattle.unfolding.proofs.Variables.{variable_there, part_leads, operand_leads}
use native.Mathlib.Omega.{arith}
use Rattle.unfolding.proofs.step_variable.Goals as goal

pub group_of-group-requires : goal.group_of-group-requires
group_of-group-requires c = let (types, functions, standing) = c.requires.0 in
    (variable_there _ types functions _ _ _ _ _ c.requires.1 c.byte_or_zero-n.ensures.value standing, omega arith)

pub overflow_add-result : goal.overflow_add-result
overflow_add-result c = omega (arith, c.byte_or_zero-n.ensures.small, c.word-first.ensures.1)

pub returns-then-inner-eq0 : goal.returns-then-inner-eq0
returns-then-inner-eq0 c = λ types functions filled.
    part_leads _ types functions _ _ _ _ _ c.requires.1 c.byte_or_zero-n.ensures.value
    c.group_of-group.ensures c.outside_of.ensures c.word-first.ensures.0 c.word-inner.ensures.0 c.if-inner-eq0.true

pub returns : goal.returns
returns c = λ types functions filled.
    operand_leads _ types functions _ _ _ _ _ c.requires.1 c.byte_or_zero-n.ensures.value
    c.group_of-group.ensures c.outside_of.ensures c.word-first.ensures.0 c.word-inner.ensures.0 c.if-inner-eq0.false
    (operand_there _ types functions _ filled _ _ c.pass_operands-place.ensures)
