-- `cases::read_within` meets its contract: the lesser of two numbers is at most the second.
use native.Mathlib.Omega.{arith}
use Rattle.cases.proofs.read_within.Goals as goal

pub returns : goal.returns
returns g c = omega (arith, c.min.ensures)
