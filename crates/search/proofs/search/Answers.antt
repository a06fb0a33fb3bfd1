-- `search::search` meets its contract: the answer, the list slice and the words, by what the check and the exploration found. Rests on Answering.
use mathlib.Core.Path.{◌∙◌, sym}
use lib.ListN.{length-take}
use Rattle.results.proofs.Shown.{handed_on}
use Rattle.loaded.proofs.Loaded.{taken_length, steps_small}
use Rattle.search.proofs.Answering.{room_taken, room_inside, search_refused, search_short, search_able, search_done}
use native.Mathlib.Omega.{arith}
use Rattle.search.proofs.search.Goals as goal

pub returns-in_err-loaded : goal.returns-in_err-loaded
returns-in_err-loaded c =
    rw (handed_on _ c.from_residual.ensures) (search_refused c.args.file.now c.args.work.now c.args.list.now c.in_err-loaded.ensures)

pub invariant_of-words : goal.invariant_of-words
invariant_of-words c = record { few = omega (arith, steps_small c.args.file.now _ c.in_ok-loaded.ensures) }

pub returns-then-work-words : goal.returns-then-work-words
returns-then-work-words c =
    search_short c.args.file.now _ c.in_ok-loaded.ensures c.words-words.ensures c.args.work.now c.args.list.now c.if-work-words.true

pub slice_bounds-search_checked-end-2 : goal.slice_bounds-search_checked-end-2
slice_bounds-search_checked-end-2 c = omega (arith, length-take c.words-words.result c.args.work.now)

pub slice_bounds-search_checked-end-3 : goal.slice_bounds-search_checked-end-3
slice_bounds-search_checked-end-3 c = room_inside c.args.list.now c.room-counted.ensures

pub slice_bounds-search_checked-end-4 : goal.slice_bounds-search_checked-end-4
slice_bounds-search_checked-end-4 c = sym (room_taken c.args.list.now c.room-counted.ensures)

pub search_checked-requires : goal.search_checked-requires
search_checked-requires c =
    rw c.in_ok-loaded.ensures.2.of_file
    (search_able c.args.file.now _ c.in_ok-loaded.ensures c.words-words.ensures c.args.work.now (omega arith))

pub returns : goal.returns
returns c =
    search_done c.args.file.now _ c.in_ok-loaded.ensures c.words-words.ensures
    c.args.work.now c.args.list.now c.search_checked.new.work c.search_checked.new.list (omega arith) c.room-counted.ensures
    (c.search_checked.auto.work ∙ taken_length c.words-words.result c.args.work.now (omega arith))
    c.search_checked.result
    (rw c.in_ok-loaded.ensures.2.of_file at c.search_checked.ensures)
