-- `entries::span_of` meets its contract: the entry of a number is the one that comes after so many. Rests on Walk.
use Rattle.entries.proofs.Walk.{nth_span}
use Rattle.entries.proofs.span_of.Goals as goal

pub returns : goal.returns
returns c =
    let found = nth_span c.each_entry.result c.nth.new.self c.args.number c.nth.result c.nth.ensures.ran in
    rw (c.each_entry.ensures.0, c.each_entry.ensures.1) at found
