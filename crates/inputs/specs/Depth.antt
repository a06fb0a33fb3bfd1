-- A closed input as reach's Input reads it, the source and the types being those at the places of a checked file.
-- Rests on reach's Input and Places.
use Rattle.std.specs.Prelude.{ℕ, List, map, get_or, Some, None}
use Rattle.std.specs.Prelude as Std
use Rattle.std.proofs.Math.Option.{Option, none, some}
use Rattle.reach.specs.Limits.{depth_limit}
use Rattle.reach.specs.Parts.{Parts}
use Rattle.reach.specs.Types.{slots}
use Rattle.reach.specs.Input.{input_by}
use Rattle.reach.specs.Places.{type_at, head_at}

-- the input and its depth, each parameter of the source at most as deep as these depths say
abbrev pub input_at : List ℕ → List ℕ → List ℕ → ℕ → List ℕ → List ℕ → Option (Parts × ℕ)
input_at file types functions source depths input =
    input_by depth_limit (map (type_at file) types) (slots (head_at file (get_or functions source 0)).parameters depths) input

-- an input that was read, with its values forgotten
abbrev pub reading_of : Option (Parts × ℕ) → Std.Option ℕ
reading_of none = None
reading_of (some row) = Some row.1
