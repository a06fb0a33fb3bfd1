-- `utf8::encoding` meets its contract: the rule of the table is one test, which is computed at each of its 256 entries. Rests on Rule.
use Rattle.std.proofs.Common.{ℕ, ◌≡◌, ◌<◌, length, arith}
use mathlib.Core.Logic.{◌≢◌}
use lib.ListN.{get_or}
use Rattle.names.specs.NameList.{utf8}
use Rattle.utf8.specs.declared.TheConstants.{ENCODINGS}
use Rattle.utf8.specs.Encodings.{encoding_bytes}
use Rattle.utf8.proofs.Rule.{entry_bytes_law, entry_small, one_byte, two_bytes}
use Rattle.utf8.proofs.encoding.Goals as goal

abbrev entry : ℕ → ℕ
entry k = get_or ENCODINGS k 0

rule : (b k : ℕ) → k < length ENCODINGS → k ≡ b → (entry k < 65536) × (encoding_bytes (entry k) ≡ utf8 b)
unfolding encoding_bytes utf8
rule b k passed is = (entry_small ENCODINGS k passed tt, rw (← is) (entry_bytes_law ENCODINGS k passed tt))

pub returns-in-0 : goal.returns-in-0
returns-in-0 c =
    let k = c.from.result in
    let r = rule c.args.b k (omega arith) c.from.ensures in
    rw c.to_le_bytes.ensures (one_byte (entry k) c.args.b r.0 r.1 (rw c.to_le_bytes.ensures at c.in-0.is))

pub returns-in_default : goal.returns-in_default
returns-in_default c =
    let k = c.from.result in
    let some : get_or c.to_le_bytes.result 1 0 ≢ 0 = λ e. omega arith in
    let r = rule c.args.b k (omega arith) c.from.ensures in
    rw c.to_le_bytes.ensures (two_bytes (entry k) c.args.b r.0 r.1 (rw c.to_le_bytes.ensures at some))
