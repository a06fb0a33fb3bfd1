-- `arriving::over` meets its contract, by what `ended` ensures.
use mathlib.Core.Path.{refl}
use Rattle.arriving.proofs.over.Goals as goal

pub returns : goal.returns
returns c = rw c.ended.ensures refl
