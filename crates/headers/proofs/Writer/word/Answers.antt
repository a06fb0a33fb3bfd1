-- `headers::Writer::word` meets its contract: its two bytes are those of the number. Rests on nothing of this crate.
use Prim.Native.Nat.{◌/◌, ◌%◌}
use mathlib.Core.Path.{◌≡◌}
use native.Mathlib.Omega.{arith}
use Rattle.reach.specs.Lists.{word_bytes}
use Rattle.headers.proofs.Writer.word.Goals as goal

pub returns : goal.returns
unfolding word_bytes
returns c =
    let low : c.args.n % 65536 % 256 ≡ c.args.n % 256 = omega arith in
    let high : c.args.n % 65536 / 256 % 256 ≡ c.args.n / 256 % 256 = omega arith in
    rw (c.to_le_bytes.ensures, low, high) at c.two.ensures
