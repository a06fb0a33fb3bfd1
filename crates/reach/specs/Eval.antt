-- The evaluation: the unit-evaluator of source document 000, by name, one counted step at a time as paper 01 counts them.
-- A state holds no part of the input, only the places of parts: the input is looked at in one place, `next`.
-- Rests on Syntax and Parts.
use Rattle.std.specs.Prelude.{ℕ, zero, suc, ◌+◌, ◌-◌, ◌≤◌, ◌<◌, ◌≡◌, List, [], ◌∷◌, length, ltb, eqb}
use Rattle.std.proofs.Math.Option.{Option, none, some}
use Rattle.reach.specs.Base.{pick}
use Rattle.reach.specs.Syntax.{Expr, Exprs, []ₑ, ◌∷ₑ◌, count, nth_expr, Alternatives, no_more, absent, present, Function, Program, function_at, where_construct, where_target, where_variable, where_call, where_let, where_case}
use Rattle.reach.specs.Parts.{Parts, Place, part, within, Seen, gone, free, has, at}

-- A row of input parts: the source's parameters, or the fields of the part at a place.
pub data Row : Type 0 where
  parameters : Row
  fields_of : Place → Row

unfoldable pub part_of : Row → ℕ → Place
part_of parameters n = part n
part_of (fields_of q) n = within q (part n)

-- An environment: what each variable stands for. Variables are numbered from the outside in; a group of them is added under the next numbers.
pub data Env : Type 0 where
  empty : Env
  -- one variable for each expression, which stands in an environment of its own (000: s[v = e])
  operands : Env → Exprs → Env → Env
  -- one variable for each part of a row of input parts
  input_parts : Env → Row → ℕ → Env

-- how many variables are in view
unfoldable pub size : Env → ℕ
size empty = zero
size (operands outer es inner) = size outer + count es
size (input_parts outer row k) = size outer + k

-- What a variable stands for: an expression in its environment, or a part of the input.
pub data Closure : Type 0 where
  suspended : Expr → Env → Closure
  input_part : Place → Closure

unfoldable pub suspend : Option Expr → Env → Option Closure
suspend none env = none
suspend (some e) env = some (suspended e env)

unfoldable pub lookup : Env → ℕ → Option Closure
lookup empty n = none
lookup (operands outer es inner) n = pick (ltb n (size outer)) (lookup outer n) (suspend (nth_expr es (n - size outer)) inner)
lookup (input_parts outer row k) n = pick (ltb n (size outer)) (lookup outer n) (pick (ltb (n - size outer) k) (some (input_part (part_of row (n - size outer)))) none)

-- What waits for a result: a case, with its alternatives and their environment; or fields of a construction, the next one to be evaluated and those
-- behind it, in their environment.
pub data Frame : Type 0 where
  waiting : Alternatives → Env → Frame
  fields : Expr → Exprs → Env → Frame

-- the frames with these fields waiting before the others, if there are any
unfoldable pub with_fields : Exprs → Env → List Frame → List Frame
with_fields []ₑ env fs = fs
with_fields (e ∷ₑ es) env fs = fields e es env ∷ fs

-- A state: what is being evaluated, and the frames that wait for it, the innermost first.
pub data State : Type 0 where
  evaluating : Expr → Env → List Frame → State
  inspecting : Place → List Frame → State
  -- an alternative was missing
  uncovered : State
  -- a number named nothing: a checked file has no such state
  stuck : State

unfoldable pub resume : Option Closure → List Frame → State
resume none fs = stuck
resume (some (suspended e env)) fs = evaluating e env fs
resume (some (input_part q)) fs = inspecting q fs

-- the alternative for constructor c, in the environment with its fields
unfoldable pub choose : Alternatives → ℕ → Env → List Frame → State
choose no_more c env fs = stuck
choose (absent alts) zero env fs = uncovered
choose (absent alts) (suc c) env fs = choose alts c env fs
choose (present e alts) zero env fs = evaluating e env fs
choose (present e alts) (suc c) env fs = choose alts c env fs

unfoldable pub enter : Option Function → Exprs → Env → List Frame → State
enter none es env fs = stuck
enter (some f) es env fs = evaluating f.body (operands empty es env) fs

-- A case that waits on an input part.
pub record Question : Type 0 where
  pub place : Place
  pub alternatives : Alternatives
  pub environment : Env
  pub frames : List Frame

-- the state after the part turned out to be constructor c with k fields
unfoldable pub answered : Question → ℕ → ℕ → State
answered q c k = choose q.alternatives c (input_parts q.environment (fields_of q.place) k) q.frames

-- Why an evaluation ends off target: at a constructor without fields or an input part with no case and no field waiting, or at a number that names nothing.
pub data Stop : Type 0 where
  value : Stop
  unknown : Stop

-- What comes next: the sought target is demanded; a case has no alternative; the end; one step to a state; or a case waits on an input part.
pub data Next : Type 0 where
  demands : Next
  lacks : Next
  stops : Stop → Next
  goes : State → Next
  waits : Question → Next

-- by what comes next: something for the demanded target, for the missing alternative, for the end, for the state of the next step, and for the case that
-- waits
abbrev pub on_next : {A : Type 0} → A → A → (Stop → A) → (State → A) → (Question → A) → Next → A
on_next demanded lacking stopped go wait demands = demanded
on_next demanded lacking stopped go wait lacks = lacking
on_next demanded lacking stopped go wait (stops why) = stopped why
on_next demanded lacking stopped go wait (goes s) = go s
on_next demanded lacking stopped go wait (waits q) = wait q

-- What comes next, rule by rule. The rules are those of 000, section 3.3, under the names that stand beside them there and in the same order. A rule answers
-- for the states that it speaks of, as far as the state alone tells: it waits on whatever part of the input a case looks at. Of any other state it gives
-- `otherwise`, which is what the rules behind it say.
abbrev pub Rule : Type 0
Rule = Program → State → (otherwise : Next) → Next

-- a rule that speaks of states in which an expression is evaluated
abbrev pub on_expression : (Expr → Env → List Frame → Next) → State → Next → Next
on_expression says (evaluating e env fs) otherwise = says e env fs
on_expression says (inspecting q fs) otherwise = otherwise
on_expression says uncovered otherwise = otherwise
on_expression says stuck otherwise = otherwise

-- 02, Slip 7, and 000, section 3.4: turning to a field. It is evaluated as a result in its turn, and those behind it wait; while the last one is evaluated
-- none of them does.
abbrev pub turn : Expr → Exprs → Env → List Frame → Next
turn e es env fs = goes (evaluating e env (with_fields es env fs))

-- the same for the first of these fields, if there are any
abbrev pub turn_first : Exprs → Env → List Frame → (otherwise : Next) → Next
turn_first []ₑ env fs otherwise = otherwise
turn_first (e ∷ₑ es) env fs otherwise = turn e es env fs

-- The relation ⇒ of 000, by which evaluation goes on behind a case. Match: its subject is a constructor. With no case waiting the constructor is a result: its
-- fields are turned to, from the left, then the next field that waits; with none evaluation ends there.
abbrev pub Match : ℕ → Exprs → Env → List Frame → Next
Match c es env [] = turn_first es env [] (stops value)
Match c es env (waiting alts outer ∷ fs) = goes (choose alts c (operands outer es env) fs)
Match c es env (fields x xs outer ∷ fs) = turn_first es env (fields x xs outer ∷ fs) (turn x xs outer fs)

-- Narrow: its subject is an unbound variable, here a part of the input that may be open. With no case waiting it is a result that is not gone into: the next
-- field that waits is turned to; with none evaluation ends there.
abbrev pub Narrow : Place → List Frame → Next
Narrow q [] = stops value
Narrow q (waiting alts env ∷ fs) = waits (record { place = q; alternatives = alts; environment = env; frames = fs })
Narrow q (fields x xs outer ∷ fs) = turn x xs outer fs

-- a constructor
abbrev pub Constr : Rule
Constr p s otherwise = on_expression (λ e env fs. where_construct (λ t c es. Match c es env fs) otherwise e) s otherwise

-- a target: the sought one, at which evaluation stops, whatever waits (TargProp)
abbrev pub Targ₁ : Rule
Targ₁ p s otherwise = on_expression (λ e env fs. where_target (λ l inner. pick (eqb l p.label) demands otherwise) otherwise e) s otherwise

-- a target: any one, inside which evaluation goes on
abbrev pub Targ₂ : Rule
Targ₂ p s otherwise = on_expression (λ e env fs. where_target (λ l inner. goes (evaluating inner env fs)) otherwise e) s otherwise

-- an unbound variable: a part of the input
abbrev pub Var₁ : Rule
Var₁ p (evaluating e env fs) otherwise = otherwise
Var₁ p (inspecting q fs) otherwise = Narrow q fs
Var₁ p uncovered otherwise = otherwise
Var₁ p stuck otherwise = otherwise

-- a bound variable: what it stands for
abbrev pub Var₂ : Rule
Var₂ p s otherwise = on_expression (λ e env fs. where_variable (λ n. goes (resume (lookup env n) fs)) otherwise e) s otherwise

-- an application
abbrev pub App : Rule
App p s otherwise = on_expression (λ e env fs. where_call (λ f es. goes (enter (function_at p f) es env fs)) otherwise e) s otherwise

-- a let
abbrev pub Let : Rule
Let p s otherwise = on_expression (λ e env fs. where_let (λ t bound body. goes (evaluating body (operands env (bound ∷ₑ []ₑ) env) fs)) otherwise e) s otherwise

-- a case: its subject first, while the case waits
abbrev pub Case : Rule
Case p s otherwise = on_expression (λ e env fs. where_case (λ t subject alts. goes (evaluating subject env (waiting alts env ∷ fs))) otherwise e) s otherwise

-- 000, section 3.5: failure, here a case without an alternative for the constructor
abbrev pub Fail : Rule
Fail p (evaluating e env fs) otherwise = otherwise
Fail p (inspecting q fs) otherwise = otherwise
Fail p uncovered otherwise = lacks
Fail p stuck otherwise = otherwise

-- the rules, one behind the other as 000 has them
unfoldable pub rules : List Rule
rules = Constr ∷ Targ₁ ∷ Targ₂ ∷ Var₁ ∷ Var₂ ∷ App ∷ Let ∷ Case ∷ Fail ∷ []

-- what the first rule says that speaks of the state; none does where a number named nothing
unfoldable pub first_of : List Rule → Program → State → Next
first_of [] p s = stops unknown
first_of (rule ∷ others) p s = rule p s (first_of others p s)

-- what comes next as far as the state alone tells
unfoldable pub view : Program → State → Next
unfolding rules first_of
view p s = first_of rules p s

unfoldable pub look : Question → Seen → Next
look q gone = goes stuck
look q free = waits q
look q (has c k) = goes (answered q c k)

unfoldable pub answer : Parts → Next → Next
answer input n = on_next demands lacks stops goes (λ q. look q (at input q.place)) n

-- what comes next on this input: it waits only where the part is open
unfoldable pub next : Program → Parts → State → Next
next p input s = answer input (view p s)

-- How an evaluation ends, after how many steps. It halts where a case waits on an open part with fewer than S steps done.
pub data Run : Type 0 where
  reached : ℕ → Run
  ended : Stop → ℕ → Run
  unfinished : ℕ → Run
  missing : ℕ → Run
  halted : Place → ℕ → Run

-- the end after n steps, or what goes on from there
unfoldable pub conclude : (State → Run) → (Question → Run) → ℕ → Next → Run
conclude go wait n next = on_next (reached n) (missing n) (λ why. ended why n) go wait next

-- the evaluation on an input, with so many steps left and n done
unfoldable pub eval : Program → Parts → ℕ → ℕ → State → Run
eval p input zero n s = conclude (λ s'. unfinished n) (λ q. unfinished n) n (next p input s)
eval p input (suc left) n s = conclude (λ s'. eval p input left (suc n) s') (λ q. halted q.place n) n (next p input s)

unfoldable pub start_of : Option Function → State
start_of none = stuck
start_of (some f) = evaluating f.body (input_parts empty parameters (length f.parameters)) []

-- the body of the source function, its parameters standing for the input's
unfoldable pub start : Program → State
start p = start_of (function_at p p.source)

-- the evaluation of the rule on an input, closed or partial, up to the step limit S
unfoldable pub run : Program → Parts → Run
run p input = eval p input p.steps 0 (start p)

-- the steps that a run has spent under a limit: at most so many; all of them where it is unfinished, fewer where it halts
abbrev pub Spent : ℕ → Run → Type 0
Spent limit (reached m) = m ≤ limit
Spent limit (ended why m) = m ≤ limit
Spent limit (unfinished m) = m ≡ limit
Spent limit (missing m) = m ≤ limit
Spent limit (halted q m) = m < limit

-- it did not halt: it is reached, ended, unfinished or missing
abbrev pub NotHalted : Run → Type 0
NotHalted (reached m) = Unit {0}
NotHalted (ended why m) = Unit {0}
NotHalted (unfinished m) = Unit {0}
NotHalted (missing m) = Unit {0}
NotHalted (halted q m) = ⊥
