-- Names as values: 02, Slip 4. "A value then spells a Latin-1 name, high half first": a name is empty, or a byte, in two halves of sixteen values each,
-- before the rest of the name. reach's `Spells` says which types have names for values.
-- Rests on reach's Parts.
use Rattle.std.specs.Prelude.{ℕ, ◌+◌, ◌*◌, ◌/◌, ◌%◌, List, [], ◌∷◌}
use Rattle.reach.specs.Parts.{Parts, end, opened, bound}

-- the bytes that a name spells, up to what is open in it
unfoldable pub spelled : Parts → List ℕ
spelled end = []
spelled (opened r) = []
spelled (bound c end r) = []
spelled (bound c (opened fs) r) = []
spelled (bound c (bound h hs end) r) = []
spelled (bound c (bound h hs (opened gs)) r) = []
spelled (bound c (bound h hs (bound l ls name)) r) = (16 * h + l) ∷ spelled name

-- the name that spells these bytes
unfoldable pub name_of : List ℕ → Parts
name_of [] = bound 0 end end
name_of (b ∷ bs) = bound 1 (bound (b / 16) end (bound (b % 16) end (name_of bs))) end
