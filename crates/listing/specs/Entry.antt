-- What it means that an entry of the list was written from the words that stand for its input.
-- Rests on reach's Lists and Search and on machine's Cells.
use Rattle.std.specs.Prelude.{ℕ, ◌+◌, ◌≤◌, ◌<◌, ◌≡◌, List, map, ◌++◌, length, take, drop, Bool, true, false, Option, Some, None}
use Rattle.reach.specs.Syntax.{Types}
use Rattle.reach.specs.Parts.{Parts}
use Rattle.reach.specs.Places.{type_at}
use Rattle.reach.specs.Types.{Typed, Slot, slot_types}
use Rattle.reach.specs.declared.Kind.{Kind}
use Rattle.reach.specs.Search.{Entry}
use Rattle.reach.specs.Lists.{entry_bytes}
use Rattle.machine.specs.Cells.{Cells}

-- The words stand for input e: its parameters have these slots, the types' records stand at the places of the table, and every part has a constructor of
-- its type.
pub record InputIn (file types w : List ℕ) (parameters cells : ℕ) (ts : Types) (ss : List Slot) (e : Parts) : Type 0 where
  pub types_there : ts ≡ map (type_at file) types
  pub stands : Cells ts ss w cells e
  pub typed : Typed ts (slot_types ss) e
  pub counted : length ss ≡ parameters

-- they stand for some input, and its cells are few enough to count with
abbrev pub Listable : (file types w : List ℕ) (parameters cells : ℕ) → Type 0
Listable file types w parameters cells =
    ((ts : Types) × (ss : List Slot) × (e : Parts) × InputIn file types w parameters cells ts ss e) × (cells ≤ 1000000)

-- the entry of an input
abbrev pub entry_for : Kind → ℕ → Parts → Entry
entry_for kind steps e = record { kind = kind; steps = steps; input = e }

-- The list l became l': the entry, of so many cells, was written whole from the place on, and nothing else; or it does not fit, and nothing was written.
abbrev pub WroteFor : (kind : Kind) (steps cells place : ℕ) (l l' : List ℕ) → Parts → Option ℕ → Type 0
WroteFor kind steps cells place l l' e (Some n) =
    (n ≡ place + 6 + cells) × (n ≤ length l) × (l' ≡ take place l ++ (entry_bytes (entry_for kind steps e) ++ drop n l))
WroteFor kind steps cells place l l' e None = (length l < place + 6 + cells) × (l' ≡ l)

-- the place behind what was written, where it was
abbrev pub placed : Bool → ℕ → Option ℕ
placed true n = Some n
placed false n = None

-- so it is for every input that the words stand for
abbrev pub WroteEntry : (file types w : List ℕ) (parameters cells : ℕ) (kind : Kind) (steps place : ℕ) (l l' : List ℕ) → Option ℕ → Type 0
WroteEntry file types w parameters cells kind steps place l l' r =
    (ts : Types) (ss : List Slot) (e : Parts) → InputIn file types w parameters cells ts ss e → WroteFor kind steps cells place l l' e r
