-- `choosing::step_construct` meets its contract: Choosing says what the words stand for after the choice. A result is left alone.
use Prim.Native.Nat.{◌<◌}
use mathlib.Core.Path.{refl}
use native.Mathlib.Omega.{arith}
use Rattle.machine.specs.Records.{no_case}
use Rattle.registers.specs.Stepping.{built, looked, at_result}
use Rattle.choosing.proofs.Choosing.{construct_chooses, construct_goes}
use Rattle.choosing.proofs.step_construct.Goals as goal

pub returns-then-r-ge-NO_CASE : goal.returns-then-r-ge-NO_CASE
returns-then-r-ge-NO_CASE c = λ functions label filled. at_result refl (built c.requires.1 c.if-r-ge-NO_CASE.true)

pub invariant_of-value : goal.invariant_of-value
invariant_of-value c = record { small = (omega (arith, c.byte_or_zero-c.ensures.small), c.field_count-k.ensures.1, omega arith, omega arith) }

pub choose-requires : goal.choose-requires
choose-requires c = let (functions, standing) = c.requires.0 in
    let waits : c.args.r.frame < no_case = omega (arith, c.if-r-ge-NO_CASE.false) in record {
      space = c.requires.1.space;
      frame = construct_chooses _ _ functions _ _ _ _ _ c.requires.1 c.byte_or_zero-c.ensures.value waits standing;
    }

pub returns : goal.returns
returns c = let waits : c.args.r.frame < no_case = omega (arith, c.if-r-ge-NO_CASE.false) in λ functions label filled.
    looked tt (construct_goes _ _ functions _ _ _ _ _ c.requires.1 c.byte_or_zero-c.ensures.value waits
    c.byte_or_zero-t.ensures.value c.field_count-k.ensures (c.choose.ensures c.args.run.now.program.rules.types.now functions filled) label)
