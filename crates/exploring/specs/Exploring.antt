-- What the functions of the loop promise: an entry listed at the end of a path, and the whole list of a program.
-- Rests on reach's Search and Lists, on choices' Choices, arriving's Moving, listing's Entry and on the enum of crate results.
use Rattle.std.specs.Prelude.{ℕ, ◌+◌, ◌≤◌, ◌<◌, ◌≡◌, Bool, true, false, List, [], ◌∷◌, ◌++◌, length, Option, Some, None}
use Rattle.reach.specs.declared.Verdict.{Verdict}
use Rattle.reach.specs.declared.Kind.{Kind}
use Rattle.reach.specs.Syntax.{Program, source_types}
use Rattle.reach.specs.Types.{source_slots}
use Rattle.reach.specs.Eval.{start}
use Rattle.reach.specs.Search.{Entry, open_input, entries, verdict}
use Rattle.reach.specs.Lists.{entry_bytes, list_bytes, written}
use Rattle.machine.specs.Cells.{Cells}
use Rattle.registers.specs.declared.Registers.{Registers}
use Rattle.points.specs.declared.Search.{Search}
use Rattle.choices.specs.Choices.{Setting, Given, AllOpen}
use Rattle.choices.specs.Returning.{setting}
use Rattle.arriving.specs.declared.Walk.{Walk}
use Rattle.arriving.specs.Moving.{UnderWay, Active}
use Rattle.listing.specs.Entry.{Listable, WroteEntry}
use Rattle.results.specs.declared.Listed.{Listed}

-- the walk at the beginning
abbrev pub first_walk : ℕ → Registers → Walk
first_walk parameters from = record { registers = Some from; cells = parameters; done = 0; height = 0 }

-- whether the search goes on
abbrev pub GoesOn : Walk → Bool → Type 0
GoesOn x true = Active x
GoesOn x false = (x.registers ≡ None) × (x.height ≡ 0)

-- What a path lists can be written.
abbrev pub ListableAs : List ℕ → List ℕ → List ℕ → ℕ → ℕ → Option Kind → Type 0
ListableAs file types w parameters cells None = Unit {0}
ListableAs file types w parameters cells (Some kind) = Listable file types w parameters cells

-- it was written, if it fits
abbrev pub WroteAs : List ℕ → List ℕ → List ℕ → ℕ → ℕ → ℕ → Option Kind → List ℕ → List ℕ → ℕ → Option ℕ → Type 0
WroteAs file types w parameters cells steps None l l' place r = (r ≡ Some place) × (l' ≡ l)
WroteAs file types w parameters cells steps (Some kind) l l' place r = WroteEntry file types w parameters cells kind steps place l l' r

-- The list of a program was written whole, in a slice that held `before`, and every parameter is open again.
pub record WholeList (g : Setting) (before after w' : List ℕ) (n : ℕ) (v : Verdict) : Type 0 where
  pub length_is : n ≡ length (list_bytes (entries g.program))
  pub verdict_is : v ≡ verdict (entries g.program)
  pub fits : n ≤ length before
  pub list_is : after ≡ written (entries g.program) before
  pub cells : ℕ
  pub all_are_open : AllOpen g w' cells

-- Its first entries were written, the next one does not fit, and the words stand for the next one's input.
pub record FirstEntries (g : Setting) (before after w' : List ℕ) (n : ℕ) : Type 0 where
  pub listed : List Entry
  pub next : Entry
  pub rest : List Entry
  pub entries_are : entries g.program ≡ listed ++ (next ∷ rest)
  pub length_is : n ≡ length (list_bytes listed)
  pub fits : n ≤ length before
  pub too_long : length before < n + length (entry_bytes next)
  pub list_is : after ≡ written listed before
  pub cells : ℕ
  pub stands : Cells g.program.types (source_slots g.program) w' cells next.input

abbrev pub Explored : Setting → List ℕ → List ℕ → List ℕ → Listed → Type 0
Explored g before after w' (Listed.Complete n v) = WholeList g before after w' n v
Explored g before after w' (Listed.Full n) = FirstEntries g before after w' n

-- the path with which the search begins
pub record Begins (g : Setting) (label : ℕ) (w : List ℕ) (parameters : ℕ) (r : Registers) : Type 0 where
  pub given : Given g
  pub sought : label ≡ g.program.label
  pub counted : length (source_types g.program) ≡ parameters
  pub under : UnderWay g w parameters 0 0 r (open_input g.program) (start g.program) []

abbrev pub SomeBegins : List ℕ → List ℕ → List ℕ → List ℕ → ℕ → List ℕ → ℕ → ℕ → ℕ → ℕ → Registers → Type 0
SomeBegins file types functions least label w limit base stack parameters r =
    (p : Program) × Begins (setting file types functions least p limit base stack) label w parameters r

abbrev pub Explores : List ℕ → List ℕ → List ℕ → List ℕ → ℕ → List ℕ → List ℕ → ℕ → ℕ → ℕ → ℕ → Registers → List ℕ → List ℕ → Listed → Type 0
Explores file types functions least label w w' limit base stack parameters r before after a =
    (p : Program) → Begins (setting file types functions least p limit base stack) label w parameters r
    → Explored (setting file types functions least p limit base stack) before after w' a

-- the same in a search
abbrev pub ListableIn : Search → List ℕ → ℕ → Walk → Option Kind → Type 0
ListableIn s w parameters x listing = ListableAs s.run.program.rules.file.now s.run.program.rules.types.now w parameters x.cells listing

abbrev pub WroteIn : Search → List ℕ → ℕ → Walk → Option Kind → List ℕ → List ℕ → ℕ → Option ℕ → Type 0
WroteIn s w parameters x listing l l' place r = WroteAs s.run.program.rules.file.now s.run.program.rules.types.now w parameters x.cells x.done listing l l' place r

abbrev pub SomeBeginsIn : Search → List ℕ → ℕ → Registers → Type 0
SomeBeginsIn s w parameters r =
    let f = s.run.program.rules in
    SomeBegins f.file.now f.types.now f.functions.now s.least.of s.run.label w s.limit s.run.store.at s.stack.at parameters r

abbrev pub ExploresIn : Search → List ℕ → List ℕ → ℕ → Registers → List ℕ → List ℕ → Listed → Type 0
ExploresIn s w w' parameters r before after a =
    let f = s.run.program.rules in
    Explores f.file.now f.types.now f.functions.now s.least.of s.run.label w w' s.limit s.run.store.at s.stack.at parameters r before after a
