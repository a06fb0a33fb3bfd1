-- The fields of a constructor, found in a rule file whose records stand at known places.
-- Rests on reach's Places and on the types of src/lib.rt.
use Rattle.std.specs.Prelude.{ℕ, zero, suc, ◌+◌, ◌≤◌, ◌≡◌, List, [], ◌∷◌, map, length, get_or, Some, None}
use Rattle.std.specs.Prelude as Std
use Rattle.std.proofs.Math.Option.{Option, none, some}
use Rattle.reach.specs.Syntax as Syntax
use Rattle.reach.specs.Places.{bytes_at, constructors_at, type_at}
use Rattle.lookups.specs.declared.FieldTypes.{FieldTypes}
use Rattle.lookups.specs.declared.EachConstructor.{EachConstructor}

-- the field types that were found
abbrev pub field_types : List ℕ → Std.Option FieldTypes → Option (List ℕ)
field_types s (Some found) = some (bytes_at s found.at found.count)
field_types s None = none

-- the field types of constructor c of type t, the types' records standing at these places
abbrev pub fields_in : List ℕ → List ℕ → ℕ → ℕ → Option (List ℕ)
fields_in s types t c = Syntax.field_types (map (type_at s) types) t c

-- fields that were found stand at a place that can be counted on from, and are no more than a byte says
abbrev pub NearFields : Std.Option FieldTypes → Type 0
NearFields (Some found) = (found.at ≤ 1000000) × (found.count ≤ 255)
NearFields None = Unit {0}

-- constructor c of type t, if there is one, has n fields, and there are no more than a byte says
abbrev pub FieldCount : List ℕ → List ℕ → ℕ → ℕ → ℕ → Type 0
FieldCount file types t c n = ((us : List ℕ) → fields_in file types t c ≡ some us → n ≡ length us) × (n ≤ 255)

-- where the fields stand, and how many there are
abbrev pub place_of : FieldTypes → ℕ × ℕ
place_of found = (found.at, found.count)

-- the same of each of n constructors from a place on
unfoldable pub places_at : List ℕ → ℕ → ℕ → List (ℕ × ℕ)
places_at s at zero = []
places_at s at (suc n) = (at + 1, get_or s at 0) ∷ places_at s (at + 1 + get_or s at 0) n

-- the constructors that are still to come
abbrev pub places_left : EachConstructor → List (ℕ × ℕ)
places_left each = places_at each.file.now each.at each.left

abbrev pub constructors_left : EachConstructor → List (List ℕ)
constructors_left each = constructors_at each.file.now each.at each.left
