-- `closed::evaluate` meets its contract: what the goal asks for is the program's, so the run begins and ends as the definition says. Rests on Beginning.
use Rattle.reach.specs.Eval.{start}
use Rattle.loaded.proofs.Beginning.{limit_few, opens, opened_length}
use Rattle.closed.proofs.Beginning.{begins, whole_run_law, whole_looked}
use native.Mathlib.Omega.{arith}
use Rattle.closed.proofs.evaluate.Goals as goal

pub invariant_of-store : goal.invariant_of-store
invariant_of-store c = record { few = limit_few c.requires.2.of_file c.requires.3 }

pub open_input-from-requires : goal.open_input-from-requires
open_input-from-requires c =
    opens c.requires.2.of_file c.requires.3 c.head-head.result c.head-head.ensures.result_value c.args.work.now
    c.store.ensures c.requires.4

pub note_values-requires : goal.note_values-requires
note_values-requires c =
    let able =
    opens c.requires.2.of_file c.requires.3 c.head-head.result c.head-head.ensures.result_value c.args.work.now
    c.store.ensures c.requires.4 in
    let same =
    opened_length c.requires.2.of_file c.requires.3 c.head-head.result c.head-head.ensures.result_value c.args.work.now
    c.store.ensures c.requires.4 c.open_input-from.ensures.words in
    omega (arith, able.0, able.1, same)

pub go_on-requires : goal.go_on-requires
go_on-requires c =
    let under =
    begins c.requires.2 c.requires.3 c.head-head.result c.head-head.ensures.result_value c.store.ensures c.requires.4
    c.open_input-from.ensures.value c.open_input-from.ensures.words c.note_values.ensures in
    record {
      begins = rw c.with_ends.ensures.rules (limit_few c.requires.2.of_file c.requires.3, (c.requires.0, c.requires.1, start c.requires.0, under));
      ends = c.with_ends.ensures.ends;
    }

pub returns : goal.returns
returns c =
    λ p j given asks.
    let under =
    begins given asks c.head-head.result c.head-head.ensures.result_value c.store.ensures
    (omega (arith, c.requires.4, c.requires.3.steps_is, asks.steps_is))
    c.open_input-from.ensures.value c.open_input-from.ensures.words c.note_values.ensures in
    let ends = (rw c.with_ends.ensures.rules at c.go_on.ensures) p j (start p) under in
    (whole_run_law given asks ends.0, whole_looked given asks ends.1)
