-- `marks::byte_or_zero` meets its contract: past the end `get_or` gives its default.
-- Rests on nothing of this crate.
use Prim.Native.Nat.{ℕ}
use lib.ListN.{get_or-eq_default}
use Rattle.marks.proofs.byte_or_zero.Goals as goal

pub returns-else-at-s-clause-value : goal.returns-else-at-s-clause-value
returns-else-at-s-clause-value c = rw (get_or-eq_default {A = ℕ} _ 0 c.if-at-s.false)
