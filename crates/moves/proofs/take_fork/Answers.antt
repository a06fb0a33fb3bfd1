-- `moves::take_fork` meets its contract: the cell is bound, and its case goes on. Rests on Forking.
use mathlib.Core.Path.{ap}
use native.Mathlib.Omega.{arith}
use Rattle.points.specs.declared.ChoicePoint.{ChoicePoint}
use Rattle.moves.proofs.Forking.{height_few, bindable, fork_bound, fork_takes}
use Rattle.moves.proofs.take_fork.Goals as goal

pub choice-point-requires : goal.choice-point-requires
choice-point-requires c = let (least, p, limit, given, f) = c.requires in
    omega (arith, height_few given f)

pub bind_cell-requires : goal.bind_cell-requires
bind_cell-requires c = let (least, p, limit, given, f) = c.requires in
    let b = bindable given f in
    rw c.choice-point.ensures.0 (b.0, b.1, b.2, b.5, b.6)

pub enter_part-to-requires : goal.enter_part-to-requires
enter_part-to-requires c = let (least, p, limit, given, f) = c.requires in
    let s = c.args.search.now in
    let r = s.run.program.rules in
    let point = c.choice-point.ensures.0 in
    let fork = c.args.fork in (
      r.types.now,
      r.functions.now,
      _,
      fork_bound r.file.now r.types.now r.functions.now c.args.work.now _ s.run.store.at s.stack.at fork.to fork.next.number fork.next.fields.at fork.next.fields.count
          (ap (λ (y : ChoicePoint). y.cell) point) (ap (λ (y : ChoicePoint). y.frame) point) (ap (λ (y : ChoicePoint). y.records) point)
          (ap (λ (y : ChoicePoint). y.cells) point) (ap (λ (y : ChoicePoint). y.done) point) c.bind_cell.ensures least p limit given f,
    )

pub overflow_add-result : goal.overflow_add-result
overflow_add-result c = let (least, p, limit, given, f) = c.requires in
    let b = bindable given f in
    omega (arith, ap (λ (y : ChoicePoint). y.cells) c.choice-point.ensures.0, c.args.fork.next.fields.few, b.5)

pub overflow_add-result-3 : goal.overflow_add-result-3
overflow_add-result-3 c = let (least, p, limit, given, f) = c.requires in
    omega (arith, height_few given f)

pub returns : goal.returns
returns c =
    let s = c.args.search.now in
    let r = s.run.program.rules in
    let point = c.choice-point.ensures.0 in
    let fork = c.args.fork in
    fork_takes r.file.now r.types.now r.functions.now c.args.work.now _ s.run.store.at s.stack.at fork.to fork.next.number fork.next.fields.at fork.next.fields.count
    (ap (λ (y : ChoicePoint). y.cell) point) (ap (λ (y : ChoicePoint). y.frame) point) (ap (λ (y : ChoicePoint). y.records) point)
    (ap (λ (y : ChoicePoint). y.cells) point) (ap (λ (y : ChoicePoint). y.done) point) c.bind_cell.ensures
    (λ label bound. c.enter_part-to.ensures r.types.now r.functions.now _ label bound s.filled)
