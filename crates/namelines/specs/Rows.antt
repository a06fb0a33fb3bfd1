-- The parameters of an entry as they stand in a list, and the lines of the names among them.
-- Rests on names' Filling and NameList, on reach's Partial, on lists' Handed and on the struct of src/lib.rt.
use Rattle.std.specs.Prelude.{ℕ, ◌≤◌, ◌≡◌, List, ◌++◌, map, length, get_or, drop, Option, Some}
use Rattle.reach.specs.Limits.{list_limit, depth_limit}
use Rattle.reach.specs.Syntax.{Types}
use Rattle.reach.specs.Parts.{Parts, end, prefix}
use Rattle.reach.specs.Types.{even_slots, Typed, least_depths}
use Rattle.reach.specs.Names.{Spells}
use Rattle.reach.specs.Reader.{on_got}
use Rattle.reach.specs.Partial.{Keeps, OpenApart, slotted}
use Rattle.lists.specs.Handed.{in_entries}
use Rattle.reach.specs.Places.{bytes_at, type_at}
use Rattle.names.specs.Filling.{Fillable, fill_named}
use Rattle.names.specs.NameList.{names_in, name_lines}
use Rattle.namelines.specs.declared.Asked.{Asked}

-- the lines of the names of a row, whose values have these types
abbrev pub row_names : Types → ℕ → List ℕ → Parts → List ℕ
row_names types named ts row = name_lines (names_in named ts (fill_named types (least_depths types) depth_limit named ts row))

-- The row stands in the list from a place on: a value of each of these types, no deeper than the largest D.
pub record RowStands (types : Types) (ts list : List ℕ) (at : ℕ) (row : Parts) : Type 0 where
  pub typed : Typed types ts row
  pub keeps : Keeps types (even_slots ts depth_limit) row
  pub fillable : Fillable types ts row
  pub behind : List ℕ
  pub bytes : drop at list ≡ prefix row ++ behind

-- the row that is read there
abbrev pub row_read : Types → List ℕ → List ℕ → ℕ → Parts
row_read types ts list at =
    on_got {B = Parts} (λ row next. row.0) (λ why. end) (slotted types (in_entries (least_depths types)) depth_limit (even_slots ts depth_limit) list at)

-- what is asked of the parameters of an entry, of a file whose types stand at these places
abbrev pub types_asked : List ℕ → Asked → List ℕ
types_asked file asked = bytes_at file asked.parameters.at asked.parameters.count

-- The types are those of an accepted file, and the named type has the form of names.
pub record Legible (types : Types) (table : Option (List ℕ)) (named : ℕ) : Type 0 where
  pub spells : Spells types named
  pub apart : OpenApart types
  pub lent : List ℕ
  pub some_table : table ≡ Some lent
  pub least : (t : ℕ) → get_or lent t 0 ≡ get_or (least_depths types) t 0

-- An entry's parameters that can be read from a place on.
pub record Readable (file types : List ℕ) (table : Option (List ℕ)) (list : List ℕ) (at : ℕ) (asked : Asked) : Type 0 where
  pub row : Parts
  pub stands : RowStands (map (type_at file) types) (types_asked file asked) list at row
  pub legible : Legible (map (type_at file) types) table asked.named
  pub in_limit : length list ≤ list_limit
