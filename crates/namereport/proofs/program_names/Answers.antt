-- `namereport::program_names` meets its contract: each call of `names` promises what `printed` asks for.
use Rattle.std.proofs.Common.{rules}
use Rattle.names.specs.NameList.{names_text}
use Rattle.namereport.proofs.program_names.Goals as goal

pub returns : goal.returns
returns c = c.printed.ensures names_text (λ file work list page r work' list' page' called. search rules)
