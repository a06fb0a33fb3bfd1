-- `namelines::list_names` meets its contract: the names, and behind them refusal 12 where the list was cut short.
-- Rests on Files and on writing's Writing.
use mathlib.Core.Path.{refl}
use mathlib.Core.List.{append-nil}
use native.Mathlib.Omega.{arith}
use Rattle.std.proofs.Common.{rules}
use Rattle.writing.proofs.Writing.{puts_then, puts_front}
use Rattle.namelines.proofs.Files.{lines_length}
use Rattle.namelines.proofs.list_names.Goals as goal
use Rattle.namelines.proofs.list_names.Goals.{then-full, else-full}

pub put_refusal-requires : goal.put_refusal-requires
put_refusal-requires c =
    let (p, es, checked, is) = c.requires in
    let wrote = c.put_names.ensures p es checked is in
    omega (arith, wrote.place, lines_length c.args.file.now p checked c.args.list.now es is, is.in_limit)

pub returns : goal.returns
returns c p es checked is =
    let names = c.put_names.ensures p es checked is in
    elim c.if-full.branch [
      | then-full w ↦
          let wrote = rw (← w.page-is) at (puts_then names w.put_refusal.ensures) in
          rw w.if-full.true (puts_front refl wrote (search rules))
      | else-full w ↦
          let wrote = rw (← w.page-is) at names in
          rw (w.if-full.false, append-nil) (puts_front refl wrote (search rules))
    ]
