-- `namelines::put_names` meets its contract: without NA there are no names.
-- Rests on Files.
use mathlib.Core.Path.{◌∙◌, ap}
use Rattle.reach.proofs.Base.{clash}
use Rattle.goal.specs.Goals.{named_of}
use Rattle.writing.proofs.Writing.{puts_none}
use Rattle.rulefile.proofs.Tabled.{program_named}
use Rattle.loaded.proofs.Loaded.{loaded_as}
use Rattle.namelines.proofs.Files.{no_lines}
use Rattle.namelines.proofs.put_names.Goals as goal

-- a file that is refused has no list
pub returns-in_default : goal.returns-in_default
returns-in_default c p es checked is = absurd (clash (cc (c.in_default.ensures, checked)))

pub returns-in_default-named : goal.returns-in_default-named
returns-in_default-named c p es checked is =
    let tabled = loaded_as c.args.file.now _ c.in-Ok.ensures checked in
    let nothing = program_named tabled ∙ ap named_of c.in_default-named.is in
    rw (no_lines c.args.file.now p checked c.args.list.now es is nothing) (puts_none _)

pub put_list-requires : goal.put_list-requires
put_list-requires c = (c.requires.0, c.in-Ok.ensures, c.in-Some.is, c.requires.1)
