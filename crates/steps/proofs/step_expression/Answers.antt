-- `steps::step_expression` meets its contract: the code that stands in the file is that of the expression, so each arm's step is the one that is due.
use mathlib.Core.Path.{◌∙◌, sym}
use Rattle.registers.specs.Stepping.{looked}
use Rattle.registers.proofs.Kept.{code_known, ready_at, stepped}
use native.Mathlib.Omega.{arith}
use Rattle.steps.proofs.step_expression.Goals as goal

pub step_construct-requires : goal.step_construct-requires
step_construct-requires c = ((c.args.run.now.program.rules.functions.now, c.requires.standing.0), ready_at _ _ _ _ _ _ _ _ c.requires.standing.0 c.requires.standing.1 (sym c.in-2.is ∙ c.byte_or_zero-code.ensures.value))

pub step_target-requires : goal.step_target-requires
step_target-requires c = let known = ready_at _ _ _ _ _ _ _ _ c.requires.standing.0 c.requires.standing.1 c.byte_or_zero-code.ensures.value in omega (arith, known.within, known.small)

pub step_variable-requires : goal.step_variable-requires
step_variable-requires c = ((c.args.run.now.program.rules.types.now, c.args.run.now.program.rules.functions.now, c.requires.standing.0), ready_at _ _ _ _ _ _ _ _ c.requires.standing.0 c.requires.standing.1 (sym c.in-0.is ∙ c.byte_or_zero-code.ensures.value))

pub step_call-requires : goal.step_call-requires
step_call-requires c = ready_at _ _ _ _ _ _ _ _ c.requires.standing.0 c.requires.standing.1 (sym c.in-1.is ∙ c.byte_or_zero-code.ensures.value)

pub step_let-requires : goal.step_let-requires
step_let-requires c = ready_at _ _ _ _ _ _ _ _ c.requires.standing.0 c.requires.standing.1 (sym c.in-4.is ∙ c.byte_or_zero-code.ensures.value)

pub step_case-requires : goal.step_case-requires
step_case-requires c = let known = code_known _ _ _ _ _ _ _ _ c.requires.standing.0 c.requires.standing.1 in
    ready_at _ _ _ _ _ _ _ _ c.requires.standing.0 c.requires.standing.1 (sym (omega (arith, known, c.byte_or_zero-code.ensures.value)) ∙ c.byte_or_zero-code.ensures.value)

pub returns-in-2 : goal.returns-in-2
returns-in-2 c = c.step_construct.ensures c.args.run.now.program.rules.functions.now c.args.run.now.label c.requires.ends

pub returns-in-5 : goal.returns-in-5
returns-in-5 c = c.step_target.ensures _ _ _ _ (ready_at _ _ _ _ _ _ _ _ c.requires.standing.0 c.requires.standing.1 (sym c.in-5.is ∙ c.byte_or_zero-code.ensures.value))

pub returns-in-0 : goal.returns-in-0
returns-in-0 c = looked tt (stepped c.args.run.now.label (c.step_variable.ensures c.args.run.now.program.rules.types.now c.args.run.now.program.rules.functions.now c.requires.ends))

pub returns-in-1 : goal.returns-in-1
returns-in-1 c = looked tt (stepped c.args.run.now.label (c.step_call.ensures c.args.run.now.program.rules.types.now))

pub returns-in-4 : goal.returns-in-4
returns-in-4 c = looked tt (stepped c.args.run.now.label (c.step_let.ensures c.args.run.now.program.rules.types.now c.args.run.now.program.rules.functions.now c.requires.ends))

pub returns-in_default : goal.returns-in_default
returns-in_default c = looked tt (stepped c.args.run.now.label (c.step_case.ensures c.args.run.now.program.rules.types.now c.args.run.now.program.rules.functions.now c.requires.ends))
