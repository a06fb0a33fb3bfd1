-- `search::search_checked` meets its contract: what the goal asks for is the program's, so the search begins as the definition says. Rests on Beginning.
use Rattle.loaded.proofs.Beginning.{limit_few, opens}
use Rattle.search.proofs.Beginning.{begins, explored}
use Rattle.search.proofs.search_checked.Goals as goal

pub invariant_of-layout : goal.invariant_of-layout
invariant_of-layout c = record { few = limit_few c.requires.1.of_file c.requires.1.asks }

pub open_input-from-requires : goal.open_input-from-requires
open_input-from-requires c =
    opens c.requires.1.of_file c.requires.1.asks c.head-head.result c.head-head.ensures.result_value c.args.work.now
    c.store.ensures c.requires.1.long

pub explore-requires : goal.explore-requires
explore-requires c =
    let under =
    begins c.requires.1 c.store.ensures c.choices.ensures c.head-head.result
    c.head-head.ensures.result_value c.open_input-from.ensures.value c.open_input-from.ensures.words in
    rw c.with_ends.ensures.rules (c.requires.0, under)

pub returns : goal.returns
returns c =
    λ p given.
    explored given c.store.ensures c.choices.ensures c.head-head.result
    c.head-head.ensures.result_value c.explore.new.work c.args.list.now c.explore.new.list
    c.explore.result c.open_input-from.ensures.value c.open_input-from.ensures.words (rw c.with_ends.ensures.rules at c.explore.ensures)
