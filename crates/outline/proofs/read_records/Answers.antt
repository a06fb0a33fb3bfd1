-- `outline::read_records` meets its contract: each turn of the loop keeps one record's place and goes where the mark behind it leads.
-- Rests on Rows and on the answers of crate marks.
use Rattle.marks.proofs.Answers.{handed_on}
use Rattle.outline.proofs.Rows.{rows_stop, rows_again, rows_refused}
use Rattle.outline.proofs.read_records.Goals as goal

pub returns-in_err-behind : goal.returns-in_err-behind
returns-in_err-behind g c =
    rw (handed_on _ c.from_residual.ensures) (rows_stop (g.K.Record.kind _) g.row.N c.loop-behind.invariant c.in_err-behind.ensures)

pub returns-in_err-next : goal.returns-in_err-next
returns-in_err-next g c =
    rw (handed_on _ c.from_residual-in_err-next.ensures)
    (rows_refused (g.K.Record.kind _) g.row.N c.loop-behind.invariant c.in_ok-behind.ensures c.push.ensures.0 c.push.ensures.1
    c.in_err-next.ensures.behind_value)

pub loop-behind-preserved : goal.loop-behind-preserved
loop-behind-preserved g c =
    rows_again (g.K.Record.kind _) g.row.N c.loop-behind.invariant c.in_ok-behind.ensures c.push.ensures.0 c.push.ensures.1
    c.in-Again.is c.in_ok-next.ensures.behind_value c.in_ok-next.ensures.room
