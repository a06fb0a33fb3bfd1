-- `unfolding::step_target` meets its contract, by the label that stands in the file. Rests on Unfolds.
use mathlib.Core.Path.{sym, ◌∙◌}
use Rattle.registers.specs.Stepping.{looked}
use Rattle.unfolding.proofs.Unfolds.{target_demands, target_goes}
use Rattle.unfolding.proofs.step_target.Goals as goal

pub returns-then-byte_or_zero-run : goal.returns-then-byte_or_zero-run
returns-then-byte_or_zero-run c = λ types functions w base ready. looked tt (target_demands c.args.run.now.program.rules.file.now types functions w base _ _ _ _ ready (sym c.byte_or_zero.ensures.value ∙ c.if-byte_or_zero-run.true))

pub returns : goal.returns
returns c = λ types functions w base ready. looked tt (target_goes c.args.run.now.program.rules.file.now types functions w base _ _ _ _ ready (λ is. c.if-byte_or_zero-run.false (c.byte_or_zero.ensures.value ∙ is)))
