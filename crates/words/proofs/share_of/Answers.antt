-- `words::share_of` meets its contract: both counts together are tried for 0 before they divide.
-- Rests on lists' Share.
use Prim.Native.Nat.{◌+◌}
use mathlib.Core.Path.{◌≡◌}
use borrow.Author.Tests.{ne_eqb}
use native.Mathlib.Omega.{arith}
use Rattle.lists.specs.Share.{share}
use Rattle.lists.proofs.Share.{share_most}
use Rattle.words.proofs.share_of.Goals as goal

pub returns-in-0 : goal.returns-in-0
unfolding share
returns-in-0 c = record { value = rw c.in-0.is; small = omega arith }

pub returns-in_default : goal.returns-in_default
unfolding share
returns-in_default c =
    let some = ne_eqb (c.args.reach + c.args.unfinished) 0 (λ e. omega arith) in
    let is : c.nearest_to.result ≡ share c.args.reach c.args.unfinished = rw some c.nearest_to.ensures in
    record { value = is; small = rw is (share_most c.args.reach c.args.unfinished) }
