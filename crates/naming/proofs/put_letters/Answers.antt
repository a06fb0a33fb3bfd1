-- `naming::put_letters` meets its contract: in a turn the first of the letters that are left is written.
-- Rests on Letters and Lines.
use native.Mathlib.Omega.{arith}
use Rattle.naming.proofs.Letters.{bytes_each}
use Rattle.naming.proofs.Lines.{letters_few, letters_next, letters_done}
use Rattle.naming.proofs.put_letters.Goals as goal

pub put-requires : goal.put-requires
put-requires g c =
    let name = c.args.name in
    let few = letters_few g.E.Encoding.bytes g.met.E.Encoding.short name.bytes.now (bytes_each _ name.spelt) in
    omega (arith, c.loop-letter.invariant.2.place, few, name.few)

pub loop-letter-preserved : goal.loop-letter-preserved
loop-letter-preserved g c = (tt, tt, letters_next _ c.in-Some.ensures.steps c.loop-letter.invariant.2 c.put.ensures)

pub returns : goal.returns
returns g c = letters_done _ c.in-None.ensures.steps.0 c.loop-letter.invariant.2
