-- `words::put_verdict` meets its contract: the counts are tried in the definition's order.
-- Rests on nothing of this crate.
use borrow.Author.Tests.{lt-ltb}
use native.Mathlib.Omega.{arith}
use Rattle.reach.specs.Search.{verdict_by}
use Rattle.words.proofs.put_verdict.Goals as goal
use Rattle.words.proofs.put_verdict.Goals.{in-0-eq0, in-0-default, in_default}

pub returns : goal.returns
unfolding verdict_by
returns c =
    elim c.match-counts.branch [
      | in-0-eq0 w ↦ rw (w.in-0-eq0.is-0, w.in-0-eq0.is-1) (rw w.word-is at c.bytes.ensures)
      | in-0-default w ↦ rw (w.in-0-default.is-0, lt-ltb 0 c.args.counts.unfinished (omega arith)) (rw w.word-is at c.bytes.ensures)
      | in_default w ↦ rw (lt-ltb 0 c.args.counts.reach (omega arith)) (rw w.word-is at c.bytes.ensures)
    ]
