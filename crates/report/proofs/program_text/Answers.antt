-- `report::program_text` meets its contract: each call of `report` promises what `printed` asks for.
use Rattle.std.proofs.Common.{rules}
use Rattle.report.specs.Answers.{report_text}
use Rattle.report.proofs.program_text.Goals as goal

pub returns : goal.returns
returns c = c.printed.ensures report_text (λ file work list page r work' list' page' called. search rules)
