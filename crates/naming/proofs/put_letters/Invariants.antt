-- The loop of `naming::put_letters`: what is left of the letters gives what all of them give.
-- Rests on Lines and crate writing's Writing.
use mathlib.Core.List.{flat_map}
use Rattle.writing.proofs.Writing.{Left}
use Rattle.naming.specs.Letters.{letters}
use Rattle.naming.proofs.Lines.{numbers}
use Rattle.naming.proofs.put_letters.Given as goal

abbrev pub invariant-loop-letter : goal.invariant-loop-letter
invariant-loop-letter g l =
    let bytes = g.E.Encoding.bytes in
    (goal.iterator-loop-letter g).can_next l.letter-iterator
    × (goal.iterator-loop-letter g).is_finite l.letter-iterator
    × Left l.initial.page (numbers (flat_map bytes (letters l.initial.name.bytes.now))) l.page (numbers (flat_map bytes (letters l.letter-iterator.bytes.now)))
