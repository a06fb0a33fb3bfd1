-- `handed::entry_fits` meets its contract: the steps by the header, then the parameters. Rests on Entries.
use Prim.Native.Nat.{◌+◌}
use mathlib.Core.Path.{◌≡◌}
use mathlib.Core.Bool.{false}
use lib.Dec.{eqb}
use native.Mathlib.Omega.{arith}
use Rattle.lookups.proofs.Tables.{parameters_are}
use Rattle.rows.specs.declared.Measured.{Measured}
use Rattle.std.specs.Option.{MatchOption}
use Rattle.std.proofs.Common.{rules}
use Rattle.handed.proofs.Entries.{entry_inside, entry_late, entry_told}
use Rattle.handed.proofs.entry_fits.Goals as goal

pub overflow_add-at : goal.overflow_add-at
overflow_add-at c =
    let r = c.args.rules.now in
    let table = c.args.least.now.of in
    let list = c.args.list.now in
    omega (arith, (entry_inside r.file.now r.types.now r.functions.now table list c.args.goal.source c.args.goal.depths c.args.goal.steps c.args.at c.args.n c.requires).0)

pub word_at-requires : goal.word_at-requires
word_at-requires c =
    let r = c.args.rules.now in
    let table = c.args.least.now.of in
    let list = c.args.list.now in
    omega (arith, (entry_inside r.file.now r.types.now r.functions.now table list c.args.goal.source c.args.goal.depths c.args.goal.steps c.args.at c.args.n c.requires).0)

pub returns-then-limit-word_at : goal.returns-then-limit-word_at
returns-then-limit-word_at c =
    let r = c.args.rules.now in
    let table = c.args.least.now.of in
    let list = c.args.list.now in
    entry_late r.file.now r.types.now r.functions.now table list c.args.goal.source c.args.goal.depths c.args.goal.steps c.args.at c.args.n c.requires (omega (arith, c.word_at.ensures, c.if-limit-word_at.true))

pub overflow_add-at-2 : goal.overflow_add-at-2
overflow_add-at-2 c =
    let r = c.args.rules.now in
    let table = c.args.least.now.of in
    let list = c.args.list.now in
    omega (arith, (entry_inside r.file.now r.types.now r.functions.now table list c.args.goal.source c.args.goal.depths c.args.goal.steps c.args.at c.args.n c.requires).0)

pub overflow_add-behind : goal.overflow_add-behind
overflow_add-behind c =
    let r = c.args.rules.now in
    let table = c.args.least.now.of in
    let list = c.args.list.now in
    omega (arith, c.well_formed, (entry_inside r.file.now r.types.now r.functions.now table list c.args.goal.source c.args.goal.depths c.args.goal.steps c.args.at c.args.n c.requires).1)

pub returns : goal.returns
returns c =
    let r = c.args.rules.now in
    let table = c.args.least.now.of in
    let list = c.args.list.now in
    let told = rw (parameters_are _ c.head-head.result c.head-head.ensures.result_value) at c.slots.ensures in
    let given : MatchOption c.slots.result (c.is_some_and.result ≡ false) (λ (m : Measured). c.is_some_and.result ≡ eqb m.next (c.args.at + c.args.n)) = search rules in
    entry_told r.file.now r.types.now r.functions.now table list c.args.goal.source c.args.goal.depths c.args.goal.steps c.args.at c.args.n c.requires (omega (arith, c.word_at.ensures, c.if-limit-word_at.false)) told _ given
