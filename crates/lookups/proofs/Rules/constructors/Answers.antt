-- `lookups::Rules::constructors` meets its contract: a type's constructors stand behind their number, at the place of the type's record.
-- Rests on reach's Places.
use native.Mathlib.Omega.{arith}
use Rattle.reach.specs.Places.{type_at}
use Rattle.lookups.proofs.Rules.constructors.Goals as goal

pub returns : goal.returns
unfolding type_at
returns c =
    record { count_value = rw (← c.place_or_zero-place.ensures.0, c.byte_or_zero.ensures.value); near = (omega arith, omega arith) }

pub overflow_add-result : goal.overflow_add-result
overflow_add-result c = omega arith
