-- Where the search stands between two moves, in the words and in numbers, and what `make_moves` promises: it makes moves of reach's
-- Moves, those of one path to its end.
-- Rests on reach's Moves, on points' Points, choices' Choices, Weights and Returning, and on the types of src/lib.rt.
use Rattle.std.specs.Prelude.{ℕ, suc, ◌+◌, ◌-◌, ◌≤◌, ◌<◌, ◌≡◌, List, [], ◌∷◌, ◌++◌, length, Option, Some, None}
use Rattle.reach.specs.Syntax.{Program, source_types}
use Rattle.reach.specs.Parts.{Parts}
use Rattle.reach.specs.Types.{Typed, source_slots, least_depths}
use Rattle.reach.specs.Eval.{State}
use Rattle.reach.specs.declared.Kind.{Kind}
use Rattle.reach.specs.Search.{Entry}
use Rattle.reach.specs.Moves as Model
use Rattle.reach.specs.Moves.{Choice, take_fork, move_from}
use Rattle.machine.specs.Cells.{Cells}
use Rattle.registers.specs.declared.Registers.{Registers}
use Rattle.points.specs.Points.{choice_word, reopened}
use Rattle.points.specs.declared.Search.{Search}
use Rattle.choices.specs.Choices.{Setting, Given, Path, ChoicesAt}
use Rattle.choices.specs.Weights.{power, weight}
use Rattle.choices.specs.Returning.{setting, NextAt}
use Rattle.choices.specs.declared.Return.{Return}
use Rattle.arriving.specs.declared.Walk.{Walk}
use Rattle.arriving.specs.declared.Moved.{Moved}

-- the walk behind the end of a path
abbrev pub ended_walk : ℕ → ℕ → ℕ → Walk
ended_walk cells done height = record { registers = None; cells = cells; done = done; height = height }

-- A path under way: the steps done are no more than the limit, and there are no more choice points than steps.
pub record UnderWay (g : Setting) (w : List ℕ) (cells done height : ℕ) (r : Registers) (e : Parts) (s : State) (cs : List Choice) : Type 0 where
  pub path : Path g w cells done done r e s
  pub in_time : done ≤ g.limit
  pub no_higher : height ≤ done
  pub choices : ChoicesAt g w height cells r.records cs

-- The words and numbers, with the registers of the path under way, stand for a position of the model, with its choice points.
abbrev pub PositionAt : Setting → List ℕ → ℕ → ℕ → ℕ → Option Registers → Model.Position → List Choice → Type 0
PositionAt g w cells done height (Some r) (Model.on x) cs =
    (x.done ≡ done) × (x.left ≡ g.limit - done) × UnderWay g w cells done height r x.input x.state cs
PositionAt g w cells done height (Some r) Model.over cs = ⊥
PositionAt g w cells done height None (Model.on x) cs = ⊥
PositionAt g w cells done height None Model.over cs = (some : ℕ) × (records : ℕ) × ChoicesAt g w height some records cs

abbrev pub StandsAs : Setting → List ℕ → Walk → Model.Position → List Choice → Type 0
StandsAs g w x position cs = PositionAt g w x.cells x.done x.height x.registers position cs

-- the entry of the input that the cells stand for
abbrev pub EntryIn : Setting → List ℕ → Walk → Kind → List Entry → Type 0
EntryIn g w x kind new =
    (e : Parts) × (new ≡ record { kind = kind; steps = x.done; input = e } ∷ [])
    × Cells g.program.types (source_slots g.program) w x.cells e × Typed g.program.types (source_types g.program) e

-- the entries that a path lists at its end: none, or one
abbrev pub PathLists : Setting → List ℕ → Walk → Option Kind → List Entry → Type 0
PathLists g w x None new = new ≡ []
PathLists g w x (Some kind) new = EntryIn g w x kind new

-- the weight of where the search stands
abbrev pub position_weight : ℕ → ℕ → Option Registers → ℕ
position_weight limit done (Some r) = power (limit - done)
position_weight limit done None = 0

abbrev pub walk_weight : ℕ → ℕ → List ℕ → Walk → ℕ
walk_weight stack limit w x = position_weight limit x.done x.registers + weight stack limit w x.height

-- What is done is what the model does in its first move and so many more, whatever is listed already; it lists these entries, and is lighter than so
-- much.
pub record Makes (g : Setting) (w w' : List ℕ) (bound : ℕ) (m : Moved) (model : List Entry → Model.Walk) : Type 0 where
  pub position : Model.Position
  pub choices : List Choice
  pub new : List Entry
  pub more : ℕ
  pub model_is : (es : List Entry)
      → Model.moves g.program (least_depths g.program.types) more (model es) ≡ record { position = position; choices = choices; listed = es ++ new }
  pub stands : StandsAs g w' m.walk position choices
  pub lists : PathLists g w' m.walk m.listing new
  pub lighter : walk_weight g.stack g.limit w' m.walk < bound
  pub same_length : length w' ≡ length w

-- The walk is on a path under way, at whose state the model arrives, whatever is listed already; what is left weighs no more than so much.
pub record OnPath (g : Setting) (w w' : List ℕ) (bound : ℕ) (x : Walk) (model : List Entry → Model.Walk) (r : Registers) : Type 0 where
  pub input : Parts
  pub state : State
  pub choices : List Choice
  pub under : UnderWay g w' x.cells x.done x.height r input state choices
  pub model_is : (es : List Entry)
      → model es ≡ Model.arrive g.program (least_depths g.program.types) (g.limit - x.done) x.done input state choices es
  pub no_heavier : power (g.limit - x.done) + weight g.stack g.limit w' x.height ≤ bound
  pub same_length : length w' ≡ length w

-- or it is behind the end of the last one, and that is the model's move
abbrev pub ResumesAt : Setting → List ℕ → List ℕ → ℕ → Walk → (List Entry → Model.Walk) → Option Registers → Type 0
ResumesAt g w w' bound x model (Some r) = OnPath g w w' bound x model r
ResumesAt g w w' bound x model None =
    Makes g w w' bound (record { walk = ended_walk x.cells x.done x.height; listing = None }) model

-- some path is under way
abbrev pub SomeUnderWay : List ℕ → List ℕ → List ℕ → ℕ → List ℕ → ℕ → ℕ → ℕ → ℕ → ℕ → ℕ → Registers → Type 0
SomeUnderWay file types functions label w limit base stack cells done height r =
    (least : List ℕ) × (p : Program) × (e : Parts) × (s : State) × (cs : List Choice) × Given (setting file types functions least p limit base stack)
    × (label ≡ p.label) × UnderWay (setting file types functions least p limit base stack) w cells done height r e s cs

-- a path arrives at its state and goes on to its end
abbrev pub Arrives : List ℕ → List ℕ → List ℕ → ℕ → List ℕ → List ℕ → ℕ → ℕ → ℕ → ℕ → ℕ → ℕ → Registers → Moved → Type 0
Arrives file types functions label w w' limit base stack cells done height r m =
    (least : List ℕ) (p : Program) (e : Parts) (s : State) (cs : List Choice) → Given (setting file types functions least p limit base stack)
    → label ≡ p.label → UnderWay (setting file types functions least p limit base stack) w cells done height r e s cs
    → Makes (setting file types functions least p limit base stack) w w' (power (limit - done) + weight stack limit w height) m
    (Model.arrive p (least_depths p.types) (limit - done) done e s cs)

-- A choice point that takes its next constructor, with those before it.
pub record Forking (g : Setting) (w : List ℕ) (h n i k : ℕ) : Type 0 where
  pub choice : Choice
  pub before : List Choice
  pub next_at : NextAt g w choice h n i k
  pub before_at : ChoicesAt g (reopened g.stack w h) h (choice_word g.stack w h 4) (choice_word g.stack w h 3) before

abbrev pub SomeForking : List ℕ → List ℕ → List ℕ → List ℕ → ℕ → ℕ → ℕ → ℕ → ℕ → ℕ → Type 0
SomeForking file types functions w base stack h n i k =
    (least : List ℕ) × (p : Program) × (limit : ℕ) × Given (setting file types functions least p limit base stack)
    × Forking (setting file types functions least p limit base stack) w h n i k

-- the constructor is taken
abbrev pub Takes : List ℕ → List ℕ → List ℕ → List ℕ → List ℕ → ℕ → ℕ → ℕ → ℕ → ℕ → ℕ → Walk → Type 0
Takes file types functions w w' base stack h n i k x =
    (r : Registers) × (x.registers ≡ Some r)
    × ((least : List ℕ) (p : Program) (limit : ℕ) → Given (setting file types functions least p limit base stack)
    → (f : Forking (setting file types functions least p limit base stack) w h n i k)
    → OnPath (setting file types functions least p limit base stack) w w' (weight stack limit w (suc h)) x
    (take_fork p (least_depths p.types) f.choice (record { constructor = n; fields = k }) f.next_at.rest f.before) r)

-- The search is not over: a path is under way, or there is a choice point.
abbrev pub ActiveAt : Option Registers → ℕ → Type 0
ActiveAt (Some r) h = Unit {0}
ActiveAt None h = 0 < h

abbrev pub Active : Walk → Type 0
Active x = ActiveAt x.registers x.height

-- it stands somewhere, in a search of any label
abbrev pub Resumable : List ℕ → List ℕ → List ℕ → List ℕ → List ℕ → ℕ → ℕ → Walk → Type 0
Resumable file types functions least w base stack x =
    (p : Program) × (limit : ℕ) × (position : Model.Position) × (cs : List Choice) × Given (setting file types functions least p limit base stack)
    × StandsAs (setting file types functions least p limit base stack) w x position cs

-- the path whose arrival is its next move, or the end of the search
abbrev pub Resumes : List ℕ → List ℕ → List ℕ → List ℕ → List ℕ → List ℕ → ℕ → ℕ → Walk → Walk → Type 0
Resumes file types functions least w w' base stack x x' =
    (p : Program) (limit : ℕ) (position : Model.Position) (cs : List Choice) → Given (setting file types functions least p limit base stack)
    → StandsAs (setting file types functions least p limit base stack) w x position cs
    → ResumesAt (setting file types functions least p limit base stack) w w' (walk_weight stack limit w x) x' (move_from p (least_depths p.types) position cs)
    x'.registers

-- it stands somewhere, in a search of this label
abbrev pub SearchStands : List ℕ → List ℕ → List ℕ → List ℕ → ℕ → List ℕ → ℕ → ℕ → ℕ → Walk → Type 0
SearchStands file types functions least label w limit base stack x =
    (p : Program) × (position : Model.Position) × (cs : List Choice) × Given (setting file types functions least p limit base stack) × (label ≡ p.label)
    × StandsAs (setting file types functions least p limit base stack) w x position cs

-- one move or more: those of a path up to its end
abbrev pub Moves : List ℕ → List ℕ → List ℕ → List ℕ → ℕ → List ℕ → List ℕ → ℕ → ℕ → ℕ → Walk → Moved → Type 0
Moves file types functions least label w w' limit base stack x m =
    (p : Program) (position : Model.Position) (cs : List Choice) → Given (setting file types functions least p limit base stack) → label ≡ p.label
    → StandsAs (setting file types functions least p limit base stack) w x position cs
    → Makes (setting file types functions least p limit base stack) w w' (walk_weight stack limit w x) m (move_from p (least_depths p.types) position cs)

-- the same in a search
abbrev pub SomeUnderWayIn : Search → List ℕ → Walk → Registers → Type 0
SomeUnderWayIn s w x r =
    let f = s.run.program.rules in
    SomeUnderWay f.file.now f.types.now f.functions.now s.run.label w s.limit s.run.store.at s.stack.at x.cells x.done x.height r

abbrev pub ArrivesIn : Search → List ℕ → List ℕ → Walk → Registers → Moved → Type 0
ArrivesIn s w w' x r m =
    let f = s.run.program.rules in
    Arrives f.file.now f.types.now f.functions.now s.run.label w w' s.limit s.run.store.at s.stack.at x.cells x.done x.height r m

abbrev pub SomeForkingIn : Search → List ℕ → Return → Type 0
SomeForkingIn s w fork =
    let f = s.run.program.rules in
    SomeForking f.file.now f.types.now f.functions.now w s.run.store.at s.stack.at fork.to fork.next.number fork.next.fields.at fork.next.fields.count

abbrev pub TakesIn : Search → List ℕ → List ℕ → Return → Walk → Type 0
TakesIn s w w' fork x =
    let f = s.run.program.rules in
    Takes f.file.now f.types.now f.functions.now w w' s.run.store.at s.stack.at fork.to fork.next.number fork.next.fields.at fork.next.fields.count x

abbrev pub ResumableIn : Search → List ℕ → Walk → Type 0
ResumableIn s w x =
    let f = s.run.program.rules in
    Resumable f.file.now f.types.now f.functions.now s.least.of w s.run.store.at s.stack.at x

abbrev pub ResumesIn : Search → List ℕ → List ℕ → Walk → Walk → Type 0
ResumesIn s w w' x x' =
    let f = s.run.program.rules in
    Resumes f.file.now f.types.now f.functions.now s.least.of w w' s.run.store.at s.stack.at x x'

abbrev pub StandsIn : Search → List ℕ → Walk → Type 0
StandsIn s w x =
    let f = s.run.program.rules in
    SearchStands f.file.now f.types.now f.functions.now s.least.of s.run.label w s.limit s.run.store.at s.stack.at x

abbrev pub MovesIn : Search → List ℕ → List ℕ → Walk → Moved → Type 0
MovesIn s w w' x m =
    let f = s.run.program.rules in
    Moves f.file.now f.types.now f.functions.now s.least.of s.run.label w w' s.limit s.run.store.at s.stack.at x m
