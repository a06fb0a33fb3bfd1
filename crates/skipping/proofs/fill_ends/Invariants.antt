-- `skipping::fill_ends` meets its contract. The loop's invariant: the entries from the place on are filled. Rests on Filling.
use Rattle.skipping.specs.Ends.{EndsFrom}
use Rattle.skipping.proofs.fill_ends.Given as goal

abbrev pub invariant-loop-at : goal.invariant-loop-at
invariant-loop-at l = EndsFrom l.rules.file.now l.rules.types.now l.rules.functions.now l.ends l.at
