-- `turning::go_on` meets its contract: the words of the frame are those of the fields that wait.
use Prim.Native.Nat.{◌+◌, ◌-◌, ◌<◌}
use mathlib.Core.Path.{◌≡◌}
use native.Mathlib.Omega.{arith}
use Rattle.machine.proofs.Words.{nothing_written}
use Rattle.turning.specs.Turning.{at_the_end}
use Rattle.turning.proofs.Turning.{goes_field}
use Rattle.turning.proofs.go_on.Goals as goal

pub returns-then-frame-eq-NO_CASE : goal.returns-then-frame-eq-NO_CASE
returns-then-frame-eq-NO_CASE c = λ file types functions filled. at_the_end c.if-frame-eq-NO_CASE.true (nothing_written c.args.work.now _ _)

pub turn_to-requires : goal.turn_to-requires
turn_to-requires c = let x = c.args.r.frame - 1000000 in
    let is : c.args.r.frame ≡ 1000000 + x = omega (arith, c.requires.2) in
    let some : 0 < x = omega (arith, c.requires.2, c.if-frame-eq-NO_CASE.false) in
    let fit = c.requires.1 x is some in
    (c.requires.0, omega (arith, fit.0, c.word-k.ensures.0), omega (arith, fit.1, c.word-k.ensures.0), c.word-first.ensures.1, omega (arith, fit.2, c.word-env.ensures.0), (omega (arith, fit.3.0, c.word-next.ensures.0), omega (arith, fit.3.1, c.word-next.ensures.0)))

pub returns : goal.returns
returns c = let x = c.args.r.frame - 1000000 in
    let is : c.args.r.frame ≡ 1000000 + x = omega (arith, c.requires.2) in
    let some : 0 < x = omega (arith, c.requires.2, c.if-frame-eq-NO_CASE.false) in λ file types functions filled.
    goes_field {x = x} is some c.word-first.ensures.0 c.word-k.ensures.0 c.word-env.ensures.0 c.word-next.ensures.0 (c.turn_to.ensures file types functions filled)
