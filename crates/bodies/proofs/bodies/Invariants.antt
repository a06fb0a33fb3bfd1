-- `bodies::bodies` meets its contract. The loop's invariant: the bodies from the present number on are what is left of all. Rests on Functions.
use mathlib.Core.Path.{◌≡◌}
use Rattle.bodies.proofs.Functions.{bodies_from}
use Rattle.bodies.proofs.bodies.Given as goal

abbrev pub invariant-loop-f : goal.invariant-loop-f
invariant-loop-f l =
    let from = bodies_from l.rules.file.now l.rules.types.now l.rules.functions.now in
    from l.f ≡ from 0
