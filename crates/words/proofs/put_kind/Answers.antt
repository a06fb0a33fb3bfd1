-- `words::put_kind` meets its contract: each byte string is the word of its kind.
-- Rests on nothing of this crate.
use Rattle.lists.specs.Text.{kind_word}
use Rattle.words.proofs.put_kind.Goals as goal
use Rattle.words.proofs.put_kind.Goals.{in-RE, in-UN, in-MI}

pub returns : goal.returns
unfolding kind_word
returns c =
    elim c.match-kind.branch [
      | in-RE w ↦ rw w.in-RE.is (rw w.word-is at c.bytes.ensures)
      | in-UN w ↦ rw w.in-UN.is (rw w.word-is at c.bytes.ensures)
      | in-MI w ↦ rw w.in-MI.is (rw w.word-is at c.bytes.ensures)
    ]
