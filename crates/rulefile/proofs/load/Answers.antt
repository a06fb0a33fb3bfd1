-- `rulefile::load` meets its contract: the size of the file, then the first pass.
-- Rests on reach's Stages and on results' Shown.
use Rattle.reach.proofs.Stages.{size_refused, outline_refused}
use Rattle.results.proofs.Shown.{handed_on}
use Rattle.rulefile.proofs.load.Goals as goal

pub returns-then-file-gt-FILE_LIMIT : goal.returns-then-file-gt-FILE_LIMIT
returns-then-file-gt-FILE_LIMIT c = size_refused _ c.if-file-gt-FILE_LIMIT.true

pub with_outline-requires : goal.with_outline-requires
with_outline-requires c =
    let r = c.rules_of.ensures in
    record {
      size = rw r.file c.if-file-gt-FILE_LIMIT.false;
      types_limit = r.types_few;
      functions_limit = r.functions_few;
      read = rw (r.file, r.types, r.functions) c.in_ok-outlined.ensures;
    }

pub returns-in_err-outlined : goal.returns-in_err-outlined
returns-in_err-outlined c =
    rw (handed_on _ c.from_residual.ensures) (outline_refused _ c.if-file-gt-FILE_LIMIT.false c.in_err-outlined.ensures)

pub returns : goal.returns
returns c = rw (← c.rules_of.ensures.file) c.with_outline.ensures
