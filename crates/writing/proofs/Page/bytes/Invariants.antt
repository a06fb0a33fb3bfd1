-- `writing::Page::bytes` meets its contract. The invariant: what is left of the word gives what the whole gives.
-- Rests on Writing.
use Prim.Native.Nat.{◌+◌, ◌≤◌}
use lib.ListN.{drop}
use Rattle.writing.proofs.Writing.{Left}
use Rattle.writing.proofs.Page.bytes.Given as goal

abbrev pub invariant-loop-b : goal.invariant-loop-b
invariant-loop-b l = (l.self.at ≤ l.initial.self.at + l.b-index) × Left l.initial.self l.word l.self (drop l.b-index l.word)
