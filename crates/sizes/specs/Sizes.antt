-- What the code found, if it found something, as the definitions of crate reach have it.
-- Rests on the library's two kinds of options alone.
use Rattle.std.specs.Prelude.{Some, None}
use Rattle.std.specs.Prelude as Std
use Rattle.std.proofs.Math.Option.{Option, none, some}

abbrev pub found_of : {A : Type 0} → Std.Option A → Option A
found_of (Some a) = some a
found_of None = none
