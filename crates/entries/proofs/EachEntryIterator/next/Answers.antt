-- `entries::EachEntry` gives its entries in turn: the one that stands at the place, and the iterator goes on behind it. Rests on Walk and on sizes' Standing.
use native.Mathlib.Omega.{arith}
use Rattle.sizes.proofs.Standing.{stands, stands_inside}
use Rattle.entries.proofs.Walk.{size_least}
use Rattle.entries.proofs.EachEntryIterator.next.Goals as goal

pub overflow_add-self : goal.overflow_add-self
overflow_add-self c =
    omega (arith, stands_inside _ _ c.size_at.ensures c.in_ok-size.was)

pub invariant_of-self : goal.invariant_of-self
invariant_of-self c = record { inside = stands_inside _ _ c.size_at.ensures c.in_ok-size.was }

pub returns-clause-goes : goal.returns-clause-goes
returns-clause-goes c =
    let there = size_least _ _ _ (stands _ _ c.size_at.ensures c.in_ok-size.was) in
    omega (arith, there.0, there.1)
