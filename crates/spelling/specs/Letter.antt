-- The letter of a type of names: its constructor 1.
-- Rests on reach's Names.
use Rattle.std.specs.Prelude.{ℕ, Bool, [], get_or}
use Rattle.reach.specs.Syntax.{Types}
use Rattle.reach.specs.Names.{is_letter}

-- constructor 1 of type t has the fields of a letter
abbrev pub has_letter : Types → ℕ → Bool
has_letter types t = is_letter types t (get_or (get_or types t []) 1 [])
