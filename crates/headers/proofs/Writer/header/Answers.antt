-- `headers::Writer::header` meets its contract: mark, steps and length are written one behind the other. Rests on Bytes.
use native.Mathlib.Omega.{arith}
use Rattle.headers.proofs.Bytes.{writes_then, writes_length, mark_length, word_length}
use Rattle.headers.proofs.Writer.header.Goals as goal

pub word-requires : goal.word-requires
word-requires c = omega (arith, c.mark.ensures.place, mark_length c.args.kind, writes_length c.mark.ensures)

pub word-requires-2 : goal.word-requires-2
word-requires-2 c =
    omega (
      arith,
      c.mark.ensures.place,
      mark_length c.args.kind,
      writes_length c.mark.ensures,
      c.word.ensures.place,
      word_length c.args.steps,
      writes_length c.word.ensures,
    )

pub returns : goal.returns
returns c = writes_then c.mark.ensures (writes_then c.word.ensures c.word-2.ensures)
