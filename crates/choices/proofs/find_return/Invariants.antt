-- `choices::find_return` meets its contract. The invariant: from the beginning the return came to here. Rests on Returning.
use mathlib.Core.Path.{◌≡◌}
use lib.ListN.{length}
use Rattle.choices.proofs.Returning.{CameTo}
use Rattle.choices.proofs.find_return.Given as goal

abbrev pub invariant-loop-h : goal.invariant-loop-h
invariant-loop-h l =
    (length l.work ≡ length l.initial.work)
    × CameTo l.rules.file.now l.rules.types.now l.least.of l.initial.work l.stack.at l.height l.work l.h
