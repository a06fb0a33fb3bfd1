-- `spelling::is_half` meets its contract: sixteen constructors, and none with a field. Rests on Forms.
use mathlib.Core.Path.{refl, sym}
use borrow.Author.Tests.{eq-eqb, ne_eqb}
use Rattle.spelling.proofs.Forms.{no_half, half_is}
use Rattle.spelling.proofs.is_half.Goals as goal

pub returns-then-rules-t : goal.returns-then-rules-t
returns-then-rules-t c = sym (no_half c.args.rules.now.file.now c.args.rules.now.types.now c.args.t c.if-rules-t.true)

pub returns-then-constructors-eq16 : goal.returns-then-constructors-eq16
returns-then-constructors-eq16 c =
    let is = half_is c.args.rules.now.file.now c.args.rules.now.types.now c.args.t c.constructors.result c.constructors.ensures.count_value c.if-rules-t.false in
    rw (is, eq-eqb _ _ c.if-constructors-eq16.true, c.constructors.ensures.count_value) c.fieldless.ensures

pub returns-else-constructors-eq16 : goal.returns-else-constructors-eq16
returns-else-constructors-eq16 c =
    let is = half_is c.args.rules.now.file.now c.args.rules.now.types.now c.args.t c.constructors.result c.constructors.ensures.count_value c.if-rules-t.false in
    rw (is, ne_eqb _ _ c.if-constructors-eq16.false) refl
