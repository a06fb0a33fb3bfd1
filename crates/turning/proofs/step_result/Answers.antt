-- `turning::step_result` meets its contract. Rests on Results.
use Prim.Native.Nat.{◌<◌}
use native.Mathlib.Omega.{arith}
use Rattle.turning.proofs.Results.{result_no_case, result_fits, own_built, result_turns, result_goes_on}
use Rattle.turning.proofs.step_result.Goals as goal

pub turn_to-requires : goal.turn_to-requires
turn_to-requires c = let (functions, standing) = c.requires.0 in
    let some : 0 < c.own_fields-k.result = omega (arith, c.if-k-gt0.true) in
    own_built _ _ functions _ _ _ c.requires.1 c.own_fields-k.ensures some
    (λ ready no-case counts.
    (ready.space, some, omega (arith, counts.1, ready.space.some_record), omega (arith, ready.within, ready.small), ready.environment_there, ready.space.frame_below))

pub overflow_add-r : goal.overflow_add-r
overflow_add-r c = let (functions, standing) = c.requires.0 in
    own_built _ _ functions _ _ _ c.requires.1 c.own_fields-k.ensures (omega (arith, c.if-k-gt0.true))
    (λ ready no-case counts. omega (arith, ready.within, ready.small))

pub returns-then-k-gt0 : goal.returns-then-k-gt0
returns-then-k-gt0 c = λ functions label filled.
    result_turns _ _ functions _ _ _ c.requires.1 c.own_fields-k.ensures (omega (arith, c.if-k-gt0.true))
    (c.turn_to.ensures _ _ functions filled) label

pub go_on-requires : goal.go_on-requires
go_on-requires c = let (functions, standing) = c.requires.0 in
    (standing.stands.space, result_fits _ _ functions _ _ _ c.requires.1 standing, result_no_case c.requires.1)

pub returns : goal.returns
returns c = λ functions label filled.
    result_goes_on _ _ functions _ _ _ c.requires.1 c.own_fields-k.ensures (omega (arith, c.if-k-gt0.false))
    (c.go_on.ensures _ _ functions filled) label
