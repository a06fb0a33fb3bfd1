-- The entries of a list and the lines of their names.
-- Rests on Rows and on reach's Lists and lists' Handed.
use Rattle.std.specs.Prelude.{ℕ, ◌≤◌, ◌<◌, ◌≡◌, Bool, length, Option}
use mathlib.Core.List.{List, [], ◌++◌, map, flat_map}
use Rattle.reach.specs.declared.Refusal.TheVariants.{ListFull}
use Rattle.reach.specs.Base.{pick, Each}
use Rattle.reach.specs.Limits.{list_limit, depth_limit}
use Rattle.reach.specs.Syntax.{Types, Program}
use Rattle.reach.specs.Parts.{prefix}
use Rattle.reach.specs.Types.{even_slots, Typed}
use Rattle.reach.specs.Partial.{Keeps}
use Rattle.reach.specs.Search.{Entry}
use Rattle.reach.specs.Lists.{list_bytes, Decoded, decoded_from}
use Rattle.reach.specs.Answers.{check, accepted}
use Rattle.lists.specs.Handed.{IsList}
use Rattle.reach.specs.Places.{type_at}
use Rattle.lists.specs.Text.{refusal_line}
use Rattle.names.specs.Filling.{Fillable}
use Rattle.names.specs.NameList.{entry_names}
use Rattle.writing.specs.declared.Page.{Page}
use Rattle.writing.specs.Writing.{Puts, Fronts}
use Rattle.namelines.specs.declared.Asked.{Asked}
use Rattle.namelines.specs.Rows.{row_names, row_read, types_asked, Legible}

-- the lines of what an entry says, and of the entries whose bytes these are
abbrev pub decoded_names : Types → ℕ → List ℕ → Decoded → List ℕ
decoded_names types named ts d = row_names types named ts (row_read types ts d.parameters 0)

abbrev pub list_names : Types → ℕ → List ℕ → List ℕ → List ℕ
list_names types named ts list = flat_map (decoded_names types named ts) (decoded_from (length list) list 0)

-- an entry whose parameters can be read and filled
pub record Fitted (types : Types) (ts : List ℕ) (e : Entry) : Type 0 where
  pub typed : Typed types ts e.input
  pub keeps : Keeps types (even_slots ts depth_limit) e.input
  pub fillable : Fillable types ts e.input
  pub counted : length (prefix e.input) < 65536
  pub in_time : e.steps < 65536

-- A list of such entries, of a file whose types stand at these places.
pub record Listed (file types : List ℕ) (table : Option (List ℕ)) (list : List ℕ) (asked : Asked) : Type 0 where
  pub entries : List Entry
  pub bytes : list_bytes entries ≡ list
  pub fitted : Each (Fitted (map (type_at file) types) (types_asked file asked)) entries
  pub legible : Legible (map (type_at file) types) table asked.named
  pub in_limit : length list ≤ list_limit

-- The list is whole entries that fit the file, which is accepted: so is that of every search of it, complete or cut short.
abbrev pub FitsFile : List ℕ → List ℕ → Type 0
FitsFile file list = (p : Program) × (es : List Entry) × (check file ≡ accepted p) × IsList p list es

-- its names are written to a page
abbrev pub PutsNames : List ℕ → List ℕ → Page → Page → Type 0
PutsNames file list page page' =
    (p : Program) (es : List Entry) → check file ≡ accepted p → IsList p list es → Puts page (flat_map (entry_names p) es) page'

-- and so is refusal 12 behind them, where the list was cut short
abbrev pub WritesNames : List ℕ → List ℕ → Bool → List ℕ → List ℕ → ℕ → Type 0
WritesNames file list full text text' r =
    (p : Program) (es : List Entry) → check file ≡ accepted p → IsList p list es
    → Fronts text (flat_map (entry_names p) es ++ pick full (refusal_line ListFull) []) text' r
