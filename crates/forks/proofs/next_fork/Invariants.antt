-- `forks::next_fork` meets its contract. The loop's invariant: the constructors that a fork has yet to take from the first number on are those from the
-- number that comes next on. Rests on Untried.
use mathlib.Core.Path.{◌≡◌}
use Rattle.forks.specs.Untried.{untried_in}
use Rattle.forks.proofs.next_fork.Given as goal

abbrev pub invariant-loop-number : goal.invariant-loop-number
invariant-loop-number l =
    untried_in l.rules.file.now l.rules.types.now l.least.of l.t l.room l.from ≡ untried_in l.rules.file.now l.rules.types.now l.least.of l.t l.room l.number
