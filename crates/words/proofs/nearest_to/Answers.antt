-- `words::nearest_to` meets its contract: it tells apart what the definition tells apart.
use Prim.Native.Nat.{◌*◌, ◌%◌}
use borrow.Author.Tests.{lt-ltb, le-ltb, eq-eqb, ne_eqb}
use native.Mathlib.Omega.{arith}
use Rattle.std.specs.Cmp.{ranked}
use Rattle.std.specs.declared.cmp.Ordering.TheVariants.{Less, Equal, Greater}
use Rattle.lists.specs.Share.{nearest}
use Rattle.words.proofs.nearest_to.Goals as goal

pub returns-in-Less : goal.returns-in-Less
unfolding nearest
returns-in-Less c =
    let twice = 2 * (c.args.over % c.args.under) in
    let h = ranked twice c.args.under Less c.in-Less.ensures in
    rw (le-ltb c.args.under twice (omega arith), ne_eqb twice c.args.under (λ e. omega arith))

pub returns-in-Equal : goal.returns-in-Equal
unfolding nearest
returns-in-Equal c =
    let twice = 2 * (c.args.over % c.args.under) in
    let h = ranked twice c.args.under Equal c.in-Equal.ensures in
    rw (le-ltb c.args.under twice (omega arith), eq-eqb twice c.args.under h)

pub returns-in-Greater : goal.returns-in-Greater
unfolding nearest
returns-in-Greater c =
    let twice = 2 * (c.args.over % c.args.under) in
    rw (lt-ltb c.args.under twice (ranked twice c.args.under Greater c.in-Greater.ensures))
