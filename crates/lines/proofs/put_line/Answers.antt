-- `lines::put_line` meets its contract: the pieces stand in the definition's order, and the steps are below 65,536.
-- Rests on Lines.
use Prim.Native.Nat.{ℕ}
use native.Mathlib.Omega.{arith}
use lib.ListN.{drop}
use Rattle.std.proofs.lemmas.List.{length-drop, take_rest}
use Rattle.reach.specs.Places.{word_at}
use Rattle.reach.specs.Lists.{kind_at, decoded}
use Rattle.writing.proofs.Digits.{decimal_few}
use Rattle.lines.proofs.Lines.{line_put, kind_few}
use Rattle.lines.proofs.put_line.Goals as goal

pub number-requires : goal.number-requires
unfolding word_at
number-requires c = omega (arith, kind_few, c.type_inv.entry 2, c.type_inv.entry 3)

pub put_parts-requires : goal.put_parts-requires
unfolding word_at
put_parts-requires c =
    rw take_rest (omega (arith, length-drop {A = ℕ}), omega (arith, kind_few, decimal_few, c.type_inv.entry 2, c.type_inv.entry 3))

pub byte-requires : goal.byte-requires
unfolding word_at
byte-requires c = omega (arith, kind_few, decimal_few, c.type_inv.entry 2, c.type_inv.entry 3)

pub returns-clause-put : goal.returns-clause-put
unfolding decoded
returns-clause-put c =
    line_put (kind_at c.args.entry.now 0) (word_at c.args.entry.now 2) (drop 6 c.args.entry.now) (rw c.kind_at.ensures at c.put_kind.ensures)
    (rw c.word_at.ensures at c.number.ensures) (rw take_rest at c.put_parts.ensures.put) c.byte.ensures

pub returns-clause-near : goal.returns-clause-near
unfolding word_at
returns-clause-near c = omega (arith, kind_few, decimal_few, c.type_inv.entry 2, c.type_inv.entry 3)
