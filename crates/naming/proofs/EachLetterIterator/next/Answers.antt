-- `naming::EachLetter` gives its letters in turn: the first of those that are left, and then the others. Rests on Letters.
use Prim.Native.Nat.{suc, ◌-◌}
use native.Mathlib.Omega.{arith}
use lib.ListN.{length, drop, length-take, length-drop}
use Rattle.naming.proofs.Letters.{letter_first, no_letter, too_few}
use Rattle.naming.proofs.EachLetterIterator.next.Goals as goal

pub returns-in_default-clause-steps : goal.returns-in_default-clause-steps
returns-in_default-clause-steps c =
    let none = too_few c.args.self.now.bytes.now (omega arith) in (none, none)

pub returns-in_default-2-clause-steps : goal.returns-in_default-2-clause-steps
returns-in_default-2-clause-steps c =
    let none = no_letter c.args.self.now.bytes.now (λ e. omega arith) in (none, none)

pub invariant_of-self : goal.invariant_of-self
invariant_of-self c =
    let first = letter_first c.args.self.now.bytes.now (omega arith) (omega arith) in
    let bytes = c.args.self.now.bytes.now in
    record {
      few = omega (arith, c.args.self.now.few, length-take (length bytes - 3) (drop 3 bytes), length-drop 3 bytes);
      spelt = λ i. (rw first at c.args.self.now.spelt) (suc i);
    }

pub overflow_mul-result : goal.overflow_mul-result
overflow_mul-result c =
    let first = letter_first c.args.self.now.bytes.now (omega arith) (omega arith) in
    omega (arith, (rw first at c.args.self.now.spelt) 0, c.half_of.ensures)

pub overflow_add-result : goal.overflow_add-result
overflow_add-result c =
    let first = letter_first c.args.self.now.bytes.now (omega arith) (omega arith) in
    omega (arith, (rw first at c.args.self.now.spelt) 0, c.half_of.ensures, c.half_of-2.ensures)

pub returns-clause-steps : goal.returns-clause-steps
returns-clause-steps c =
    rw (c.half_of.ensures, c.half_of-2.ensures) (letter_first c.args.self.now.bytes.now (omega arith) (omega arith))
