-- `choosing::enter_part` meets its contract: the constructor of the part is that of its cell. Rests on Entering.
use Rattle.choosing.proofs.Entering.{enters, entered}
use native.Mathlib.Omega.{arith}
use Rattle.choosing.proofs.enter_part.Goals as goal

pub invariant_of-bound : goal.invariant_of-bound
invariant_of-bound c = let (types, functions, cell, bound) = c.requires in
    record { small = (bound.small.0, bound.fields.1, bound.small.1, omega arith) }

pub choose-requires : goal.choose-requires
choose-requires c = let (types, functions, cell, bound) = c.requires in
    record { space = bound.standing.stands.space; frame = enters _ types functions _ _ cell _ _ _ _ bound }

pub returns : goal.returns
returns c = λ types functions cell label bound filled.
    entered _ types functions _ _ cell _ _ _ _ bound (c.choose.ensures types functions filled) label
