-- `inputs::input_depth` meets its contract: the values of the source's parameters, and the end of the input behind them. Rests on Whole and on the tables of
-- lookups.
use mathlib.Core.Path.{sym}
use mathlib.Core.List.{map}
use native.Mathlib.Omega.{arith}
use lib.ListN.{get_or}
use Rattle.reach.specs.Types.{slots}
use Rattle.reach.specs.Places.{type_at, head_at}
use Rattle.lookups.proofs.Tables.{parameters_are}
use Rattle.inputs.proofs.Whole.{none_read, more_left, all_read}
use Rattle.inputs.proofs.input_depth.Goals as goal

pub returns-in_err-read : goal.returns-in_err-read
returns-in_err-read c =
    let r = c.args.rules.now in
    rw c.from_residual.ensures (sym (none_read (map (type_at r.file.now) r.types.now) (slots (head_at r.file.now (get_or r.functions.now c.args.goal.source 0)).parameters c.args.goal.depths) c.args.input.now
    (rw (parameters_are _ c.head-head.result c.head-head.ensures.result_value) at c.slots.ensures) c.in_err-read.was))

pub returns-then-read-input : goal.returns-then-read-input
returns-then-read-input c =
    let r = c.args.rules.now in
    sym (more_left (map (type_at r.file.now) r.types.now) (slots (head_at r.file.now (get_or r.functions.now c.args.goal.source 0)).parameters c.args.goal.depths) c.args.input.now
    (rw (parameters_are _ c.head-head.result c.head-head.ensures.result_value) at c.slots.ensures) c.in_ok-read.was c.if-read-input.true)

pub returns : goal.returns
returns c =
    let r = c.args.rules.now in
    sym (all_read (map (type_at r.file.now) r.types.now) (slots (head_at r.file.now (get_or r.functions.now c.args.goal.source 0)).parameters c.args.goal.depths) c.args.input.now
    (rw (parameters_are _ c.head-head.result c.head-head.ensures.result_value) at c.slots.ensures) c.in_ok-read.was (omega (arith, c.if-read-input.false)))
