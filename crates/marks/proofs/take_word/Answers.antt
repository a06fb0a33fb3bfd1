-- `marks::take_word` meets its contract: the two bytes of `word`, taken together.
-- Rests on Answers.
use Prim.Native.Nat.{◌+◌, ◌*◌}
use mathlib.Core.Path.{◌≡◌}
use lib.ListN.{get_or}
use native.Mathlib.Omega.{arith}
use Rattle.marks.proofs.Answers.{read, unread, handed_on, word_by_pair}
use Rattle.marks.proofs.take_word.Goals as goal

pub returns-in_err-bytes : goal.returns-in_err-bytes
returns-in_err-bytes c = rw (word_by_pair c.args.s.now c.args.at, unread _ c.in_err-bytes.ensures) (handed_on _ c.from_residual.ensures)

pub returns : goal.returns
returns c =
    let number : c.from.result ≡ get_or c.in_ok-bytes.bytes 0 0 + 256 * get_or c.in_ok-bytes.bytes 1 0 = omega (arith, c.from.ensures, c.from_le_bytes.ensures) in
    rw (word_by_pair c.args.s.now c.args.at, read _ c.in_ok-bytes.ensures, number)
