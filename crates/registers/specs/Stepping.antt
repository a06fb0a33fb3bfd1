-- What the registers and the lent words stand for, and what a step promises: it is one step of the published evaluation.
-- Rests on machine's Cells, Records and Walks, on skipping's Ends, on reach's Eval, Places and States, and on the types of src/lib.rt.
use Rattle.std.specs.Prelude.{ℕ, zero, suc, ◌+◌, ◌-◌, ◌*◌, ◌≤◌, ◌<◌, ◌≡◌, List, map, length, get_or, Option, Some, None}
use Rattle.std.proofs.Math.Option.{some}
use Rattle.reach.specs.Syntax.{Expr, Function, Program, function_at}
use Rattle.reach.specs.Parts.{Parts, Place}
use Rattle.reach.specs.Types.{source_slots}
use Rattle.reach.specs.Eval as Eval
use Rattle.reach.specs.Eval.{State, Question, Env, Frame, Closure}
use Rattle.reach.specs.RuleFile.{Declarations}
use Rattle.reach.specs.Places.{type_at, head_at, declarations_at}
use Rattle.reach.specs.States.{StateIn, Sound}
use Rattle.machine.specs.Cells.{Cells, cell_of}
use Rattle.machine.specs.Records.{Code, RecordIs, OnlyTop, Wrote, record_word, Control, environment_of, no_case, FrameBelow, StateAt, expression_at, part_in, nothing_left}
use Rattle.skipping.specs.Ends.{Ends}
use Rattle.machine.specs.Walks.{Behind, OperandAt, ChosenAt, VariableAt, outside_of}
use Rattle.registers.specs.declared.Registers.{Registers}
use Rattle.registers.specs.declared.Next.{Next}

-- what a file declares whose types and functions stand at these places
abbrev pub declarations_of : List ℕ → List ℕ → List ℕ → Declarations
declarations_of file types functions = declarations_at file types functions

-- the kinds of what is being evaluated: nothing, an alternative being missing; a part of the input; an expression
abbrev pub missing_kind : ℕ
missing_kind = 0

abbrev pub part_kind : ℕ
part_kind = 1

abbrev pub expression_kind : ℕ
expression_kind = 2

-- what is being evaluated, by its kind, its place and its environment's record; nothing where the number is of no kind
abbrev pub control_of : ℕ → ℕ → ℕ → Control
control_of zero place env = nothing_left
control_of (suc zero) place env = part_in place
control_of (suc (suc zero)) place env = expression_at place env
control_of (suc (suc (suc n))) place env = nothing_left

-- the control of the registers
abbrev pub control_in : Registers → Control
control_in r = control_of r.kind r.place r.env

-- The tables are those of a checked file: the program's types are those at the places, and every function's body stands where its record says.
pub record FileOf (file types functions : List ℕ) (p : Program) : Type 0 where
  pub types_there : p.types ≡ map (type_at file) types
  pub function_there : (f : ℕ) → f < length functions
      → (g : Function) × (function_at p f ≡ some g) × Code file (declarations_of file types functions) (head_at file (get_or functions f 0)).body g.body
  pub small : length file ≤ 16384

-- the count word of each of the first t records is at most 255 times the record's number
abbrev pub CountsSmall : List ℕ → ℕ → ℕ → Type 0
CountsSmall w base t = (j : ℕ) → j < t → record_word w base j 1 ≤ 255 * j

-- The registers name records that are there, there is room for one record more, and the numbers are small.
pub record Space (w : List ℕ) (base : ℕ) (r : Registers) : Type 0 where
  pub some_record : 0 < r.records
  pub environment_below : environment_of (control_in r) < r.records
  pub frame_below : FrameBelow r.frame r.records
  pub room : base + 4 * (r.records + 1) ≤ length w
  pub narrow : length w ≤ 1000000
  pub few : CountsSmall w base r.records

-- The words and registers stand for a state on an input: the cells are the input's, the records are the state's, and there is room for one record more.
pub record StandsFor (file types functions : List ℕ) (p : Program) (w : List ℕ) (base cells : ℕ) (r : Registers) (e : Parts) (s : State) : Type 0 where
  pub input : Cells p.types (source_slots p) w cells e
  pub apart : 5 * cells ≤ base
  pub zeros : RecordIs w base 0 0 0 0 0
  pub state : StateAt file (declarations_of file types functions) w base (cell_of w) (control_in r) r.frame s
  pub there : StateIn e s
  pub sound : Sound p e s
  pub space : Space w base r

-- They stand for some state of some program on some input: what a step asks.
pub record Standing (file types functions w : List ℕ) (base : ℕ) (r : Registers) : Type 0 where
  pub program : Program
  pub cells : ℕ
  pub input : Parts
  pub state : State
  pub file_of : FileOf file types functions program
  pub stands : StandsFor file types functions program w base cells r input state

-- An expression of this code, at this place of the file and in this environment's record, is being evaluated.
pub record Ready (file w : List ℕ) (base : ℕ) (r : Registers) (code i env : ℕ) : Type 0 where
  pub control_is : control_in r ≡ expression_at i env
  pub code_is : get_or file i 0 ≡ code
  pub within : i < length file
  pub small : length file ≤ 16384
  pub environment_there : env < r.records
  pub space : Space w base r

-- After a step to registers r' the words stand for state s' (there may be no room for a further record then).
pub record Follows (file types functions w' : List ℕ) (base records : ℕ) (r' : Registers) (s' : State) : Type 0 where
  pub state : StateAt file (declarations_of file types functions) w' base (cell_of w') (control_in r') r'.frame s'
  pub environment_below : environment_of (control_in r') < r'.records
  pub frame_below : FrameBelow r'.frame r'.records
  pub no_fewer : records ≤ r'.records
  pub one_more : r'.records ≤ records + 1
  pub few : CountsSmall w' base r'.records

module _ (file types functions : List ℕ) (w w' : List ℕ) (base : ℕ) (r : Registers) (p : Program) where
  -- what a step says of a state that the words stood for: what comes next is the evaluation's
  abbrev pub StepMeans : (e : Parts) (s : State) → Next → Type 0
  StepMeans e s Next.Demands = Eval.next p e s ≡ Eval.demands
  StepMeans e s Next.Lacks = Eval.next p e s ≡ Eval.lacks
  StepMeans e s Next.Stops = (why : Eval.Stop) × (Eval.next p e s ≡ Eval.stops why)
  StepMeans e s (Next.Goes r') = (s' : State) × (Eval.next p e s ≡ Eval.goes s') × Follows file types functions w' base r.records r' s'
  StepMeans e s (Next.Waits x) = (q : Question) × (Eval.next p e s ≡ Eval.waits q) × (cell_of w q.place ≡ x)

  -- and it says so of every input and state that they stood for
  abbrev pub StepMeansAll : Next → Type 0
  StepMeansAll n = (cells : ℕ) (e : Parts) (s : State) → FileOf file types functions p → StandsFor file types functions p w base cells r e s → StepMeans e s n

-- A step that leads to registers r', whatever the program.
pub record Leads (file types functions w w' : List ℕ) (base : ℕ) (r r' : Registers) : Type 0 where
  pub only_top : OnlyTop w w' base r.records
  pub steps : (p : Program) → StepMeansAll file types functions w w' base r p (Next.Goes r')

-- A step with any outcome, for programs of the sought label.
pub record Stepped (file types functions w w' : List ℕ) (base label : ℕ) (r : Registers) (n : Next) : Type 0 where
  pub only_top : OnlyTop w w' base r.records
  pub steps : (p : Program) → label ≡ p.label → StepMeansAll file types functions w w' base r p n

-- A result: a construction or a part of the input is being evaluated, and no case waits.
pub data Result (file w : List ℕ) (base : ℕ) (r : Registers) : Type 0 where
  built : {i env : ℕ} → Ready file w base r 2 i env → no_case ≤ r.frame → Result file w base r
  a_part : {x : ℕ} → control_in r ≡ part_in x → no_case ≤ r.frame → Result file w base r

-- it is not said to be the end
abbrev pub NotStops : Next → Type 0
NotStops Next.Demands = Unit {0}
NotStops Next.Lacks = Unit {0}
NotStops Next.Stops = ⊥
NotStops (Next.Goes r) = Unit {0}
NotStops (Next.Waits x) = Unit {0}

-- A look that leaves results alone: a step with any other outcome than the end; or a result, for which the end is said, and nothing is written.
pub data Looked (file types functions w w' : List ℕ) (base label : ℕ) (r : Registers) : Next → Type 0 where
  looked : {n : Next} → NotStops n → Stepped file types functions w w' base label r n → Looked file types functions w w' base label r n
  at_result : w' ≡ w → Result file w base r → Looked file types functions w w' base label r Next.Stops

-- The same by a table of the ends of expressions, for every program whose file has these ends.

abbrev pub LeadsBy : (file ends w w' : List ℕ) (base : ℕ) (r r' : Registers) → Type 0
LeadsBy file ends w w' base r r' = (types functions : List ℕ) → Ends file types functions ends → Leads file types functions w w' base r r'

-- whatever the functions and the sought label
abbrev pub SteppedBy : (file types ends w w' : List ℕ) (base : ℕ) (r : Registers) → Next → Type 0
SteppedBy file types ends w w' base r n =
    (functions : List ℕ) (label : ℕ) → Ends file types functions ends → Stepped file types functions w w' base label r n

abbrev pub LookedBy : (file types ends w w' : List ℕ) (base : ℕ) (r : Registers) → Next → Type 0
LookedBy file types ends w w' base r n =
    (functions : List ℕ) (label : ℕ) → Ends file types functions ends → Looked file types functions w w' base label r n

-- What the parts of a step find.

-- record r' is on the walk outward from record r to the group of variable n, whatever the variable stands for
abbrev pub Outward : List ℕ → ℕ → ℕ → ℕ → ℕ → Type 0
Outward w base n r r' =
    (file : List ℕ) (o : Declarations) (cell : Place → ℕ) (x : Closure) → VariableAt file o w base cell n r x → VariableAt file o w base cell n r' x

-- the variable stands for something
abbrev pub VariableThere : List ℕ → ℕ → ℕ → ℕ → Type 0
VariableThere w base n r = (file : List ℕ) × (o : Declarations) × (cell : Place → ℕ) × (x : Closure) × VariableAt file o w base cell n r x

-- the record of the variable's group
pub record Group (w : List ℕ) (base n env group : ℕ) : Type 0 where
  pub outward : Outward w base n env group
  pub inside : outside_of w base group ≤ n
  pub no_later : group ≤ env

module _ (file types functions : List ℕ) where
  -- where an expression stands at i, next is the place behind it
  abbrev pub PassedOver : ℕ → ℕ → Type 0
  PassedOver i next = (x : Expr) → Code file (declarations_of file types functions) i x → Behind file (declarations_of file types functions) i next

  -- operand n of those that begin at i stands at this place
  abbrev pub OperandIn : ℕ → ℕ → ℕ → Type 0
  OperandIn i n place = (x : Expr) → OperandAt file (declarations_of file types functions) i n x → Code file (declarations_of file types functions) place x

  -- what the alternative found says of the state that the case goes on to
  abbrev pub AlternativeMeans : Env → List Frame → State → Option ℕ → Type 0
  AlternativeMeans new fs s None = s ≡ Eval.uncovered
  AlternativeMeans new fs s (Some i) = (x : Expr) × (s ≡ Eval.evaluating x new fs) × Code file (declarations_of file types functions) i x

  -- the alternative for constructor c of those that begin at i
  abbrev pub Found : ℕ → ℕ → Option ℕ → Type 0
  Found i c a = (new : Env) (fs : List Frame) (s : State) → ChosenAt file (declarations_of file types functions) new fs i c s → AlternativeMeans new fs s a

  -- The innermost waiting case has its alternative chosen: k fields begin at `first` and stand in `inner`. The alternative is missing, or its
  -- environment is the record at the top.
  pub data Chose (w w' : List ℕ) (base : ℕ) (r : Registers) (c k first inner : ℕ) : Registers → Type 0 where
    chose_none : OnlyTop w w' base r.records → Found (record_word w base r.frame 0) c None
        → Chose w w' base r c k first inner (record { kind = missing_kind; place = 0; env = 0; frame = 0; records = r.records })
    chose_one : (i : ℕ)
        → Wrote w w' base r.records (record_word w base r.frame 2) (record_word w base (record_word w base r.frame 2) 1 + k) first inner
        → Found (record_word w base r.frame 0) c (Some i)
        → Chose w w' base r c k first inner (record { kind = expression_kind; place = i; env = r.records; frame = record_word w base r.frame 3; records = r.records + 1 })

-- the same by a table of the ends
abbrev pub ChoseBy : (file ends w w' : List ℕ) (base : ℕ) (r : Registers) (c k first inner : ℕ) → Registers → Type 0
ChoseBy file ends w w' base r c k first inner x = (types functions : List ℕ) → Ends file types functions ends → Chose file types functions w w' base r c k first inner x

-- The first of k fields is turned to, which begin at `first` and stand in record `env`; the others, if there are any, wait before the frames from `frame`
-- on, in the record at the top.
module _ (file types functions : List ℕ) where
  pub data Turned (w w' : List ℕ) (base : ℕ) (r : Registers) (first k env frame : ℕ) : Registers → Type 0 where
    to_last : OnlyTop w w' base r.records → k ≡ 1
        → Turned w w' base r first k env frame (record { kind = expression_kind; place = first; env = env; frame = frame; records = r.records })
    to_next : (i : ℕ) → Wrote w w' base r.records i (k - 1) env frame → 1 < k → PassedOver file types functions first i
        → Turned w w' base r first k env frame (record { kind = expression_kind; place = first; env = env; frame = no_case + r.records; records = r.records + 1 })

-- the same by a table of the ends
abbrev pub TurnedBy : (file ends w w' : List ℕ) (base : ℕ) (r : Registers) (first k env frame : ℕ) → Registers → Type 0
TurnedBy file ends w w' base r first k env frame x = (types functions : List ℕ) → Ends file types functions ends → Turned file types functions w w' base r first k env frame x
