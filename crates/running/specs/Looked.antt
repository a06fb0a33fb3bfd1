-- What the words stand for after a closed run. Rests on reach's Eval and Parts and on machine's Cells.
use Rattle.std.specs.Prelude.{ℕ, ◌≡◌, List}
use Rattle.reach.specs.Syntax.{Program}
use Rattle.reach.specs.Parts.{Parts, ◌⊑◌}
use Rattle.reach.specs.Types.{source_slots}
use Rattle.reach.specs.Eval.{start, eval}
use Rattle.machine.specs.Cells.{Cells}

-- What words w stand for after a run of at most `limit` steps: a partial input below the closed one, on which the evaluation comes to the same end. So
-- each part that is bound has the constructor that the closed input has there, and no step of the run looked at a part that is open.
pub record LookedAt (p : Program) (j : Parts) (limit : ℕ) (w : List ℕ) : Type 0 where
  pub cells : ℕ
  pub input : Parts
  pub stands : Cells p.types (source_slots p) w cells input
  pub below : input ⊑ j
  pub enough : eval p input limit 0 (start p) ≡ eval p j limit 0 (start p)
