-- `spelling::spells` meets its contract: two constructors, the first without fields, the second a letter. Rests on Forms.
use mathlib.Core.Path.{refl, sym}
use borrow.Author.Tests.{eq-eqb, ne_eqb}
use Rattle.spelling.proofs.Forms.{no_name, not_two, two}
use Rattle.spelling.proofs.spells.Goals as goal

pub returns-then-rules-t : goal.returns-then-rules-t
returns-then-rules-t c = sym (no_name c.args.rules.now.file.now c.args.rules.now.types.now c.args.t c.if-rules-t.true)

pub returns-then-all-ne2 : goal.returns-then-all-ne2
returns-then-all-ne2 c =
    sym (not_two c.args.rules.now.file.now c.args.rules.now.types.now c.args.t c.constructors-all.result c.constructors-all.ensures.count_value c.if-rules-t.false c.if-all-ne2.true)

pub returns-then-byte_or_zero-eq0 : goal.returns-then-byte_or_zero-eq0
returns-then-byte_or_zero-eq0 c =
    let is = two c.args.rules.now.file.now c.args.rules.now.types.now c.args.t c.constructors-all.result c.constructors-all.ensures.count_value c.if-rules-t.false c.if-all-ne2.false in
    rw (is, ← c.byte_or_zero.ensures.value, eq-eqb _ _ c.if-byte_or_zero-eq0.true) c.is_letter.ensures

pub returns-else-byte_or_zero-eq0 : goal.returns-else-byte_or_zero-eq0
returns-else-byte_or_zero-eq0 c =
    let is = two c.args.rules.now.file.now c.args.rules.now.types.now c.args.t c.constructors-all.result c.constructors-all.ensures.count_value c.if-rules-t.false c.if-all-ne2.false in
    rw (is, ← c.byte_or_zero.ensures.value, ne_eqb _ _ c.if-byte_or_zero-eq0.false) refl
