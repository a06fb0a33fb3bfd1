-- `naming::put_name` meets its contract: an empty name is a line feed; else the first letter, the others as Latin-1, all as UTF-8, a line feed.
-- Rests on Encodings, Short, Letters, Lines and crate writing's Digits.
use native.Mathlib.Omega.{arith}
use lib.ListN.{drop, length-drop}
use Rattle.writing.proofs.Digits.{decimal_few}
use Rattle.names.specs.NameList.{utf8}
use Rattle.naming.specs.Encodings.{latin1}
use Rattle.naming.specs.Short.{latin1_short, utf8_short}
use Rattle.naming.proofs.Letters.{bytes_each, behind}
use Rattle.naming.proofs.Lines.{letters_few, none_put, name_put}
use Rattle.naming.proofs.put_name.Goals as goal
use Rattle.naming.proofs.put_name.Goals.{in-Some, in_default}

pub put_letters-requires : goal.put_letters-requires
put_letters-requires c = omega (arith, decimal_few)

pub put_letters-requires-in-Some : goal.put_letters-requires-in-Some
put_letters-requires-in-Some c =
    let others = c.next.new.self in
    omega (arith, decimal_few, others.few, letters_few latin1 latin1_short others.bytes.now (bytes_each _ others.spelt))

pub byte-requires : goal.byte-requires
byte-requires c =
    elim c.match-next.branch [
      | in-Some w ↦
          let others = c.next.new.self in
          let all = rw (behind c.args.list.now c.args.at) at w.put_letters-in-Some.ensures.place in
          rw w.page-is
          (omega (
            arith,
            decimal_few,
            others.few,
            length-drop c.args.at c.args.list.now,
            letters_few latin1 latin1_short others.bytes.now (bytes_each _ others.spelt),
            letters_few utf8 utf8_short (drop c.args.at c.args.list.now) c.requires.3,
            all,
          ))
      | in_default w ↦ rw w.page-is (omega arith)
    ]

pub returns : goal.returns
returns c =
    let tail = behind c.args.list.now c.args.at in
    elim c.match-next.branch [
      | in-Some w ↦
          name_put (rw tail at w.in-Some.ensures.steps) (rw w.from.ensures at w.decimal.ensures) w.put_letters.ensures
          (rw tail at w.put_letters-in-Some.ensures) (rw w.page-is at c.byte.ensures)
      | in_default w ↦ none_put (rw tail at w.in_default.ensures.steps.0) (rw w.page-is at c.byte.ensures)
    ]
