-- Entries of a list that is handed in, as lists' Handed reads them, the types being those at the places of a checked file.
-- Rests on lists' Handed and reach's Places.
use Rattle.std.specs.Prelude.{ℕ, ◌≡◌, Bool, true, false, List, map, get_or}
use Rattle.reach.specs.declared.Refusal.{Refusal}
use Rattle.reach.specs.Syntax.{Program, source_types}
use Rattle.reach.specs.Types.{slots, least_depths}
use Rattle.reach.specs.Search.{Entry}
use Rattle.reach.specs.Reader.{Got, got, refused, Reader}
use Rattle.reach.specs.Lists.{on_found}
use Rattle.reach.specs.Answers.{accepted, check}
use Rattle.lists.specs.Handed.{entry_by, handed}
use Rattle.reach.specs.Places.{type_at, head_at}

-- an entry of a source's list
abbrev pub entry_at : List ℕ → List ℕ → List ℕ → List ℕ → ℕ → List ℕ → ℕ → Reader Entry
entry_at file types functions table source depths steps =
    entry_by (map (type_at file) types) table (slots (head_at file (get_or functions source 0)).parameters depths) steps

-- it was read up to this place, or not
abbrev pub Told : Got Entry → ℕ → Bool → Type 0
Told g next true = (e : Entry) × (g ≡ got e next)
Told g next false = (why : Refusal) × (g ≡ refused why)

-- The tables and the goal are those of an accepted file.
pub record AcceptedTables (file types functions table : List ℕ) (source : ℕ) (depths : List ℕ) (steps : ℕ) (p : Program) : Type 0 where
  pub checked : check file ≡ accepted p
  pub types_there : p.types ≡ map (type_at file) types
  pub source_there : source_types p ≡ (head_at file (get_or functions source 0)).parameters
  pub depths_are : p.depths ≡ depths
  pub steps_are : p.steps ≡ steps
  pub table_is : (t : ℕ) → get_or (least_depths p.types) t 0 ≡ get_or table t 0

-- refusal 14 is not given: the list is read as entries
abbrev pub FitsList : List ℕ → List ℕ → List ℕ → List ℕ → ℕ → List ℕ → ℕ → List ℕ → Bool → Type 0
FitsList file types functions table source depths steps list r =
    (p : Program) → AcceptedTables file types functions table source depths steps p → r ≡ on_found false (λ es. true) (handed p list)
