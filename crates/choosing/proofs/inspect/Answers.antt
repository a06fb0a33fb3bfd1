-- `choosing::inspect` meets its contract: Inspecting says what comes next at an open part, and after the choice at a bound one.
use native.Mathlib.Omega.{arith}
use Rattle.registers.specs.Stepping.{looked}
use Rattle.choosing.proofs.Inspecting.{part_small, part_waits, part_chooses, part_goes}
use Rattle.choosing.proofs.inspect.Goals as goal

pub cell_word-head-requires : goal.cell_word-head-requires
cell_word-head-requires c = (part_small c.args.run.now.program.rules.file.now c.args.run.now.program.rules.types.now c.requires.0.0 _ _ _ _ c.requires.1 c.requires.0.1, omega arith)

pub returns-then-head-eq0 : goal.returns-then-head-eq0
returns-then-head-eq0 c = λ functions label filled.
    looked tt (part_waits _ _ functions _ _ _ _ c.requires.1 c.requires.2 c.cell_word-head.ensures.0 c.if-head-eq0.true label)

pub cell_word-first-requires : goal.cell_word-first-requires
cell_word-first-requires c = (part_small c.args.run.now.program.rules.file.now c.args.run.now.program.rules.types.now c.requires.0.0 _ _ _ _ c.requires.1 c.requires.0.1, omega arith)

pub cell_word-t-requires : goal.cell_word-t-requires
cell_word-t-requires c = (part_small c.args.run.now.program.rules.file.now c.args.run.now.program.rules.types.now c.requires.0.0 _ _ _ _ c.requires.1 c.requires.0.1, omega arith)

pub invariant_of-part : goal.invariant_of-part
invariant_of-part c =
    record { small = (omega (arith, c.cell_word-head.ensures.1), c.field_count-k.ensures.1, c.cell_word-first.ensures.1, omega arith) }

pub choose-requires : goal.choose-requires
choose-requires c = let (functions, standing) = c.requires.0 in record {
  space = standing.stands.space;
  frame = part_chooses _ _ functions _ _ _ _ c.requires.1 c.requires.2 c.cell_word-head.ensures.0 c.if-head-eq0.false standing;
}

pub returns : goal.returns
returns c = λ functions label filled.
    looked tt (part_goes _ _ functions _ _ _ _ c.requires.1 c.requires.2 c.cell_word-head.ensures.0 c.if-head-eq0.false
    c.cell_word-first.ensures.0 c.cell_word-t.ensures.0 c.field_count-k.ensures (c.choose.ensures c.args.run.now.program.rules.types.now functions filled) label)
