-- `binding::enter_asked` meets its contract: the cell is bound to what the input has there, and the case's step is that with the bound part. Rests on Advancing.
use native.Mathlib.Omega.{arith}
use Rattle.binding.proofs.Advancing.{asks, more_cells, some_head, entering, went_bound}
use Rattle.binding.proofs.enter_asked.Goals as goal

pub bind_asked-more-requires : goal.bind_asked-more-requires
bind_asked-more-requires c = asks c.requires.8 c.requires.9

pub cell_word-head-requires : goal.cell_word-head-requires
cell_word-head-requires c = let able = asks c.requires.8 c.requires.9 in
    (omega (arith, able.in_use, able.room, able.narrow), omega arith)

pub overflow_sub-head : goal.overflow_sub-head
overflow_sub-head c = some_head c.requires.8 c.requires.9 c.bind_asked-more.ensures c.cell_word-head.ensures.0

pub overflow_sub-more : goal.overflow_sub-more
overflow_sub-more c = more_cells c.requires.8 c.requires.9 c.bind_asked-more.ensures

pub enter_part-registers-requires : goal.enter_part-registers-requires
enter_part-registers-requires c = (c.args.run.now.program.rules.types.now, c.requires.0, c.args.x, entering c.requires.8 c.requires.9 c.bind_asked-more.ensures c.cell_word-head.ensures.0 c.cell_word-head.ensures.1)

pub returns : goal.returns
returns c = λ functions w label filled stepped limit done p j s h.
    went_bound h stepped c.bind_asked-more.ensures
    (c.enter_part-registers.ensures c.args.run.now.program.rules.types.now functions c.args.x label (entering h stepped c.bind_asked-more.ensures c.cell_word-head.ensures.0 c.cell_word-head.ensures.1) filled)
