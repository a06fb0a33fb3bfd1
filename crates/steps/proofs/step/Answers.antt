-- `steps::step` meets its contract: the kind tells which step is due, and a missing alternative was found.
use native.Mathlib.Omega.{arith}
use Rattle.registers.specs.Stepping.{looked}
use Rattle.registers.proofs.Which.{control_missing, control_part, control_expression}
use Rattle.choosing.proofs.Choosing.{missing_lacks}
use Rattle.steps.proofs.step.Goals as goal

pub step_expression-requires : goal.step_expression-requires
step_expression-requires c = record { standing = (c.requires.standing, control_expression c.args.r.kind c.args.r.place c.args.r.env c.in-2.is); ends = c.requires.ends }

pub step_part-requires : goal.step_part-requires
step_part-requires c = ((c.args.run.now.program.rules.functions.now, c.requires.standing), control_part c.args.r.kind c.args.r.place c.args.r.env c.in-1.is)

pub returns-in-1 : goal.returns-in-1
returns-in-1 c = c.step_part.ensures c.args.run.now.program.rules.functions.now c.args.run.now.label c.requires.ends

pub returns-in_default : goal.returns-in_default
returns-in_default c = looked tt (missing_lacks _ _ _ _ _ _ _ (control_missing c.args.r.kind c.args.r.place c.args.r.env (omega arith) (omega arith)))
