-- What the closed run knows between two steps, and what is promised where a part that a case waits on is bound.
-- Rests on reach's Eval, on machine's Layout and Cells, on registers' Stepping, on loaded's Beginning and on values' Notes.
use Rattle.std.specs.Prelude.{ℕ, zero, suc, ◌+◌, ◌*◌, ◌-◌, ◌≤◌, ◌<◌, ◌≡◌, List, map, length, get_or}
use Rattle.std.proofs.Math.Option.{some}
use Rattle.reach.specs.Syntax.{Program}
use Rattle.reach.specs.Parts.{Parts, ◌⊑◌}
use Rattle.reach.specs.Types.{source_slots}
use Rattle.reach.specs.Eval as Eval
use Rattle.reach.specs.Eval.{State, eval, reached, ended, unfinished, missing}
use Rattle.reach.specs.Input.{input_of}
use Rattle.reach.specs.Places.{bytes_at, type_at}
use Rattle.reach.specs.States.{Steps}
use Rattle.lookups.specs.Fields.{fields_in}
use Rattle.machine.specs.Layout.{records_at}
use Rattle.machine.specs.Cells.{cell_word, Binds, Cells}
use Rattle.values.specs.Notes.{noted_place, Noted, FollowsInput}
use Rattle.registers.specs.declared.Registers.{Registers}
use Rattle.registers.specs.declared.Next.{Next}
use Rattle.registers.specs.Stepping.{StandsFor, Stepped}
use Rattle.loaded.specs.Beginning.{GivenFile}
use Rattle.skipping.specs.Ends.{Ends}

-- A checked file with its tables and its program, and a closed input of the program.
pub record GivenInput (file types functions input : List ℕ) (p : Program) (j : Parts) : Type 0 where
  pub of_file : GivenFile file types functions p
  pub reads : input_of p input ≡ some j

-- The run after so many steps and at most so many binds, in words for `limit` steps: a part of the closed input is bound, the words stand for
-- the state reached on it, and where each open part's value stands is noted in its cell.
pub record Running (file types functions : List ℕ) (p : Program) (j : Parts) (limit : ℕ) (w : List ℕ) (base cells done binds : ℕ) (r : Registers) (s : State) : Type 0 where
  pub input : Parts
  pub stands : StandsFor file types functions p w base cells r input s
  pub follows : FollowsInput (map (type_at file) types) (source_slots p) w cells input j
  pub steps : Steps p input done s
  pub few_cells : cells ≤ 8 + 6 * binds
  pub few_records : r.records ≤ done + 2
  pub base_is : base ≡ records_at limit
  pub long : base + 4 * (limit + 4) ≤ length w

-- The run between two steps, not all of them taken or just so many.
pub record Underway (file types functions input : List ℕ) (label limit : ℕ) (w : List ℕ) (base cells done : ℕ) (r : Registers) (p : Program) (j : Parts) (s : State) : Type 0 where
  pub given : GivenInput file types functions input p j
  pub sought : label ≡ p.label
  pub in_time : done ≤ limit
  pub running : Running file types functions p j limit w base cells done done r s

-- Binding a cell.

-- the constructor that stands at the place noted in cell x
abbrev pub noted_number : List ℕ → List ℕ → ℕ → ℕ
noted_number input w x = get_or input (noted_place w x) 0

-- Cell x can be bound to it: its fields are no more than 6, and there is room for their cells.
pub record Bindable (file types input w : List ℕ) (cells x : ℕ) : Type 0 where
  pub in_use : x < cells
  pub room : 5 * (cells + 6) ≤ length w
  pub narrow : length w ≤ 1000000
  pub shallow : cell_word w x 3 ≤ 255
  pub small_place : noted_place w x < length input
  pub few : (us : List ℕ) → fields_in file types (cell_word w x 2) (noted_number input w x) ≡ some us → length us ≤ 6

-- cell x was bound to the constructor whose k fields' types stand from place `fields` of the file on, and where their values stand was noted
pub record BoundCell (file types input w w' : List ℕ) (cells x fields k : ℕ) : Type 0 where
  pub between : List ℕ
  pub binds : Binds w between x (noted_number input w x) cells k (bytes_at file fields k) (cell_word w x 3 - 1)
  pub noted : Noted file types input between w' cells (bytes_at file fields k) (noted_place w x + 1)

-- so it was, if the constructor is known, and so many cells are in use now
abbrev pub BoundAs : List ℕ → List ℕ → List ℕ → List ℕ → List ℕ → ℕ → ℕ → ℕ → Type 0
BoundAs file types input w w' cells x more =
    (us : List ℕ) → fields_in file types (cell_word w x 2) (noted_number input w x) ≡ some us
    → (fields k : ℕ) × (us ≡ bytes_at file fields k) × (more ≡ cells + k) × BoundCell file types input w w' cells x fields k

-- One step, with what a case looks at bound first.

-- what comes next, in words w' with so many cells in use: the run on the closed input ends, or goes on to other registers
abbrev pub Advances : (file types functions input : List ℕ) (label limit : ℕ) (w' : List ℕ) (base done : ℕ) (p : Program) (j : Parts) (s : State) → ℕ → Next → Type 0
Advances file types functions input label limit w' base done p j s cells Next.Demands = (left : ℕ) → eval p j left done s ≡ reached done
Advances file types functions input label limit w' base done p j s cells Next.Lacks = (left : ℕ) → eval p j left done s ≡ missing done
Advances file types functions input label limit w' base done p j s cells Next.Stops = (why : Eval.Stop) × ((left : ℕ) → eval p j left done s ≡ ended why done)
Advances file types functions input label limit w' base done p j s cells (Next.Goes r) =
    (s' : State) × (eval p j zero done s ≡ unfinished done) × ((left : ℕ) → eval p j (suc left) done s ≡ eval p j left (suc done) s')
    × (done < limit → Underway file types functions input label limit w' base cells (suc done) r p j s')
Advances file types functions input label limit w' base done p j s cells (Next.Waits x) = ⊥

-- what comes next on an input, where no case waits
abbrev pub NextIs : Program → Parts → State → Next → Type 0
NextIs p e s Next.Demands = Eval.next p e s ≡ Eval.demands
NextIs p e s Next.Lacks = Eval.next p e s ≡ Eval.lacks
NextIs p e s Next.Stops = (why : Eval.Stop) × (Eval.next p e s ≡ Eval.stops why)
NextIs p e s (Next.Goes r) = (s' : State) × (Eval.next p e s ≡ Eval.goes s')
NextIs p e s (Next.Waits x) = ⊥

-- What words w stand for then: a partial input below the closed one, on which the same steps lead to state s, and what comes next does not wait.
pub record BoundSoFar (p : Program) (j : Parts) (done : ℕ) (s : State) (n : Next) (w : List ℕ) : Type 0 where
  pub cells : ℕ
  pub input : Parts
  pub stands : Cells p.types (source_slots p) w cells input
  pub below : input ⊑ j
  pub steps : Steps p input done s
  pub comes : NextIs p input s n

-- this is said of every run that is under way in words w, and goes on in words w'
abbrev pub AdvancesAll : List ℕ → List ℕ → List ℕ → List ℕ → ℕ → List ℕ → List ℕ → ℕ → ℕ → Registers → ℕ → Next → Type 0
AdvancesAll file types functions input label w w' base cells r cells' n =
    (limit done : ℕ) (p : Program) (j : Parts) (s : State) → Underway file types functions input label limit w base cells done r p j s
    → Advances file types functions input label limit w' base done p j s cells' n × BoundSoFar p j done s n w'

-- A case that waits on an open part.

-- a step from where the run is under way, in some words, left words w₁, and waits on the part in cell x
abbrev pub SomeWaiting : List ℕ → List ℕ → List ℕ → List ℕ → ℕ → ℕ → ℕ → Registers → Type 0
SomeWaiting file types input w₁ base cells x r =
    (functions w : List ℕ) × (label limit done : ℕ) × (p : Program) × (j : Parts) × (s : State) × Underway file types functions input label limit w base cells done r p j s
    × Stepped file types functions w w₁ base label r (Next.Waits x)

-- the part was bound, and the case went on with it: wherever a step waited so, the run goes on in words w'
abbrev pub Enters : List ℕ → List ℕ → List ℕ → List ℕ → List ℕ → List ℕ → ℕ → ℕ → ℕ → Registers → ℕ → Registers → Type 0
Enters file types ends input w₁ w' base cells x r cells' r' =
    (functions w : List ℕ) (label : ℕ) → Ends file types functions ends → Stepped file types functions w w₁ base label r (Next.Waits x)
    → AdvancesAll file types functions input label w w' base cells r cells' (Next.Goes r')
