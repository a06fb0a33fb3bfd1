-- `namelines::put_list` meets its contract: the tables of the loaded file are what the names are written by.
-- Rests on Files.
use Rattle.loaded.proofs.Loaded.{loaded_as}
use Rattle.namelines.proofs.Files.{listed, names_same}
use Rattle.namelines.proofs.put_list.Goals as goal

pub put_entries-requires : goal.put_entries-requires
put_entries-requires c =
    let tabled = loaded_as c.args.file.now c.args.loaded.now c.requires.1 c.requires.3.2 in
    let read = rw tabled.of_file at c.head-head.ensures.result_value in (
      c.requires.0,
      rw tabled.of_file
          (listed c.args.file.now c.args.loaded.now c.requires.3.0 c.requires.3.2 tabled c.args.list.now c.requires.3.1 c.requires.3.3 c.args.named c.requires.2 c.head-head.result
          read),
    )

pub returns : goal.returns
returns c p es checked is =
    let tabled = loaded_as c.args.file.now c.args.loaded.now c.requires.1 checked in
    let read = rw tabled.of_file at c.head-head.ensures.result_value in
    let wrote = rw tabled.of_file at c.put_entries.ensures in
    rw (← names_same c.args.file.now c.args.loaded.now p checked tabled c.args.list.now es is c.args.named c.requires.2 c.head-head.result
    read)
    wrote
