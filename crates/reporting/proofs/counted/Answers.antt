-- `reporting::counted` meets its contract: where more is asked for than was read, that is all of it. Rests on Program.
use native.Mathlib.Omega.{arith}
use Rattle.reporting.proofs.Program.{first_bytes}
use Rattle.reporting.proofs.counted.Goals as goal

pub returns : goal.returns
returns c = first_bytes c.args.input.now (λ less. omega arith) (λ more. omega arith)
