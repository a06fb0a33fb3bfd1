-- `outline::last_record` meets its contract: the goal is read, and then the end of the bytes is asked for, as in `last_record`.
-- Rests on reach's Places and on the laws of crate typerecord about steps.
use mathlib.Core.Path.{◌≡◌, sym}
use lib.ListN.{length}
use native.Mathlib.Omega.{arith}
use borrow.Author.Tests.{lt-ltb, le-ltb}
use Rattle.reach.specs.Reader.{at_end}
use Rattle.reach.specs.RuleFile.{goal_record}
use Rattle.reach.proofs.Places.{goal_read}
use Rattle.marks.proofs.Answers.{handed_on}
use Rattle.typerecord.proofs.Answers.{step_got, step_refused}
use Rattle.outline.specs.Tables.{last_record}
use Rattle.outline.proofs.last_record.Goals as goal

pub returns-in_err-behind : goal.returns-in_err-behind
unfolding last_record
returns-in_err-behind c =
    rw (handed_on _ c.from_residual.ensures, step_refused (goal_record _ _) (sym c.in_err-behind.ensures))

pub returns-then-behind-s : goal.returns-then-behind-s
unfolding last_record at_end
returns-then-behind-s c =
    rw (
      (step_got (goal_record _ _) (sym c.in_ok-behind.ensures)).1,
      lt-ltb c.in_ok-behind.behind (length c.args.s.now) (omega arith),
    )

pub returns : goal.returns
unfolding last_record at_end
returns c =
    let (g, e) = step_got (goal_record c.args.s.now c.args.at) (sym c.in_ok-behind.ensures) in
    let there = goal_read _ _ e in
    let whole : c.in_ok-behind.behind ≡ length c.args.s.now = omega (arith, there.ends) in
    rw (e, le-ltb c.in_ok-behind.behind (length c.args.s.now) (omega arith), c.goal_of.ensures, there.value, whole)
