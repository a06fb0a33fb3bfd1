-- `lookups::EachConstructor` gives its constructors in turn: the first of those that are left, and then the others. Rests on Chains.
use native.Mathlib.Omega.{arith}
use Rattle.lookups.proofs.Chains.{places_none, places_more}
use Rattle.lookups.proofs.EachConstructorIterator.next.Goals as goal

pub returns-then-self-eq0-clause-steps : goal.returns-then-self-eq0-clause-steps
returns-then-self-eq0-clause-steps c =
    let none = places_none c.args.self.now.file.now c.args.self.now.at c.args.self.now.left (omega arith) in (none, none)

pub returns-clause-steps : goal.returns-clause-steps
returns-clause-steps c = rw c.byte_or_zero.ensures.value (places_more c.args.self.now.file.now c.args.self.now.at c.args.self.now.left (omega arith))
