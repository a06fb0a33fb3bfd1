-- `typerecord::skip_bytes` meets its contract: no byte is read, or as many are passed over as are read one by one.
-- Rests on Passing.
use mathlib.Core.Path.{sym, ◌∙◌}
use native.Mathlib.Omega.{arith}
use Rattle.typerecord.proofs.Passing.{times_done, bytes_passed}
use Rattle.typerecord.proofs.skip_bytes.Goals as goal

pub returns-then-n-eq0 : goal.returns-then-n-eq0
returns-then-n-eq0 c = sym (times_done _ _ _ _ (omega arith))

pub returns : goal.returns
returns c = c.pass.ensures ∙ sym (bytes_passed _ _ _ (omega arith))
