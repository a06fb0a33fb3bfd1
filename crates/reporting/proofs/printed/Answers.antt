-- `reporting::printed` meets its contract: the bytes that count are those that were read, and the text of the longest list fits its slice.
-- Rests on Program.
use Rattle.reporting.proofs.Program.{page_printed}
use Rattle.reporting.proofs.printed.Goals as goal

pub returns : goal.returns
returns g c text_for all =
    let reports = all _ _ _ _ _ _ _ _ c.report.ensures in
    page_printed c.counted-n.ensures reports.writes reports.short c.requires.page c.report.auto.arg5
