-- The search as moves over one path with a stack of choice points: what the program does, and what a search in turns would do.
-- proofs/Moves.antt shows that the moves give exactly the list of `search`.
-- Rests on Search.
use Rattle.std.specs.Prelude.{ℕ, zero, suc, ◌+◌, List, [], ◌∷◌, ◌++◌, Some, None}
use Rattle.reach.specs.Syntax.{Program}
use Rattle.reach.specs.declared.Kind.TheVariants.{RE, MI}
use Rattle.reach.specs.Parts.{Parts}
use Rattle.reach.specs.Types.{Fork, least_depths}
use Rattle.reach.specs.Eval.{State, Question, Next, on_next, next, start}
use Rattle.reach.specs.Search.{Entry, listing, spent, branches, input_behind, state_behind, open_input}

-- A path under way: what it goes on to, the steps left and done, and its partial input.
pub record Going : Type 0 where
  pub state : State
  pub left : ℕ
  pub done : ℕ
  pub input : Parts

-- A choice point: the case that waits, the steps left and done behind the choice, the input before it, and the constructors not taken yet.
pub record Choice : Type 0 where
  pub question : Question
  pub left : ℕ
  pub done : ℕ
  pub input : Parts
  pub untried : List Fork

-- Where the search stands: on a path, or behind the end of one.
pub data Position : Type 0 where
  on : Going → Position
  over : Position

-- The search put down between two moves: where it stands, its choice points (the last first), and the list so far.
pub record Walk : Type 0 where
  pub position : Position
  pub choices : List Choice
  pub listed : List Entry

-- behind the end of a path, with these entries listed
abbrev pub behind : List Choice → List Entry → Walk
behind cs es = record { position = over; choices = cs; listed = es }

-- the end of a path that is n steps long, listed at once, or what it goes on to
unfoldable pub settle : (State → Walk) → (Question → Walk) → ℕ → Parts → List Choice → List Entry → Next → Walk
settle go fork n input cs es next =
    on_next (behind cs (es ++ listing (Some RE) n input)) (behind cs (es ++ listing (Some MI) n input)) (λ why. behind cs (es ++ listing None n input)) go fork next

-- a path arrives at a state, with so many steps left and n done; one that waits becomes a choice point
unfoldable pub arrive : Program → List ℕ → ℕ → ℕ → Parts → State → List Choice → List Entry → Walk
arrive p table zero n input s cs es = settle (λ s'. behind cs (es ++ spent n input)) (λ q. behind cs (es ++ spent n input)) n input cs es (next p input s)
arrive p table (suc left) n input s cs es =
    settle (λ s'. record { position = on (record { state = s'; left = left; done = suc n; input = input }); choices = cs; listed = es })
    (λ q. behind (record { question = q; left = left; done = suc n; input = input; untried = branches p table input q } ∷ cs) es)
    n
    input
    cs
    es
    (next p input s)

-- the constructor f of a choice point is taken, and the others stay
unfoldable pub take_fork : Program → List ℕ → Choice → Fork → List Fork → List Choice → List Entry → Walk
take_fork p table c f rest cs es =
    arrive p table c.left c.done (input_behind c.question f c.input) (state_behind c.question f)
    (record { question = c.question; left = c.left; done = c.done; input = c.input; untried = rest } ∷ cs)
    es

-- a fork to its first constructor, or a return to the last choice point with a constructor left, taking it
unfoldable pub return : Program → List ℕ → List Choice → List Entry → Walk
return p table [] es = behind [] es
return p table (c ∷ cs) es = elim c.untried [ [] ↦ return p table cs es | f ∷ rest ↦ take_fork p table c f rest cs es ]

-- one move: a step of the path, or a fork or return behind the end of one
unfoldable pub move_from : Program → List ℕ → Position → List Choice → List Entry → Walk
move_from p table (on g) cs es = arrive p table g.left g.done g.input g.state cs es
move_from p table over cs es = return p table cs es

unfoldable pub move : Program → List ℕ → Walk → Walk
move p table w = move_from p table w.position w.choices w.listed

-- so many moves
unfoldable pub moves : Program → List ℕ → ℕ → Walk → Walk
moves p table zero w = w
moves p table (suc m) w = moves p table m (move p table w)

-- before the first move
unfoldable pub opening : Program → List ℕ → Walk
opening p table = arrive p table p.steps 0 (open_input p) (start p) [] []

-- How many moves are still to come: the number that falls by one at each move.

-- the sum of a number over a list
unfoldable pub total : {A : Type 0} → (A → ℕ) → List A → ℕ
total f [] = 0
total f (x ∷ xs) = f x + total f xs

-- no move behind the end of a path, or the moves of what it goes on to
unfoldable pub count_next : (State → ℕ) → (Question → ℕ) → Next → ℕ
count_next go fork next = on_next 0 0 (λ why. 0) go fork next

module _ (p : Program) (table : List ℕ) where
  -- the moves that follow on the arrival at a state, with so many steps left: one for each step, and one for each constructor of a fork
  unfoldable pub path_moves : ℕ → Parts → State → ℕ
  path_moves zero input s = 0
  path_moves (suc left) input s =
      count_next (λ s'. suc (path_moves left input s'))
      (λ q. total (λ (f : Fork). suc (path_moves left (input_behind q f input) (state_behind q f))) (branches p table input q))
      (next p input s)

  -- the moves that choice points owe: for each untried constructor the one that takes it, and those that follow
  unfoldable pub choices_moves : List Choice → ℕ
  choices_moves cs = total (λ (c : Choice). total (λ (f : Fork). suc (path_moves c.left (input_behind c.question f c.input) (state_behind c.question f))) c.untried) cs

  -- all of them: a path under way owes the one that arrives at its state, and those that follow
  unfoldable pub owed_moves_from : Position → List Choice → ℕ
  owed_moves_from (on g) cs = suc (path_moves g.left g.input g.state) + choices_moves cs
  owed_moves_from over cs = choices_moves cs

  -- the number of moves still to come
  unfoldable pub owed_moves : Walk → ℕ
  owed_moves w = owed_moves_from w.position w.choices

-- the search of a program after all its moves
abbrev pub finished : Program → Walk
finished p =
    let table = least_depths p.types in
    moves p table (owed_moves p table (opening p table)) (opening p table)
