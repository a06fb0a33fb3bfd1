-- `forks::next_fork` meets its contract: the constructors that are passed over are none that the fork takes. Rests on Untried.
use mathlib.Core.Path.{subst, ◌∙◌}
use native.Mathlib.Omega.{arith}
use Rattle.lookups.specs.Fields.{NearFields}
use Rattle.forks.proofs.Untried.{untried_no_room, untried_end, found_none, found_fields, found_taken, found_left_out}
use Rattle.forks.proofs.next_fork.Goals as goal

pub returns-then-room-eq0 : goal.returns-then-room-eq0
returns-then-room-eq0 c = untried_no_room _ _ _ _ _ (omega arith)

pub returns-in_err-fields : goal.returns-in_err-fields
returns-in_err-fields c =
    let r = c.args.rules.now in
    rw c.from_residual.ensures
    (c.loop-number.invariant ∙ found_none r.file.now r.types.now c.args.least.of c.args.t c.args.room c.loop-number.number c.fields.result c.fields.ensures.result_value (c.in_err-fields.was))

pub returns-then-all_shallow : goal.returns-then-all_shallow
returns-then-all_shallow c =
    let r = c.args.rules.now in
    let near = subst NearFields c.in_ok-fields.was c.fields.ensures.near in (
      c.loop-number.invariant ∙ found_taken r.file.now r.types.now c.args.least.of c.args.t c.args.room c.loop-number.number c.fields.result c.fields.ensures.result_value c.in_ok-fields.was (omega arith) c.all_shallow.ensures c.if-all_shallow.true,
      found_fields r.file.now r.types.now c.args.least.of c.args.t c.args.room c.loop-number.number c.fields.result c.fields.ensures.result_value c.in_ok-fields.was,
      omega arith,
      omega arith,
      near.0,
      near.1,
      omega arith,
    )

pub loop-number-preserved : goal.loop-number-preserved
loop-number-preserved c =
    let r = c.args.rules.now in
    c.loop-number.invariant ∙ found_left_out r.file.now r.types.now c.args.least.of c.args.t c.args.room c.loop-number.number c.fields.result c.fields.ensures.result_value c.in_ok-fields.was (omega arith) c.all_shallow.ensures c.if-all_shallow.false

pub returns : goal.returns
returns c =
    let r = c.args.rules.now in
    c.loop-number.invariant ∙ untried_end r.file.now r.types.now c.args.least.of c.args.t c.args.room c.loop-number.number c.constructors-number-end.result c.constructors-number-end.ensures.count_value (omega arith)
