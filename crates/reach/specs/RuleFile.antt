-- Reading a rule file: 01, "Rule file" and the order of tests of "Turned back". Three passes, then the tests of depth and of the
-- form of names; the answer is the program, or the one refusal.
-- Rests on Reader, Syntax, Limits, the least depths of Types and the form of names.
use Rattle.std.specs.Prelude.{ℕ, zero, suc, pred, ◌+◌, Bool, true, false, ◌&&◌, List, [], ◌∷◌, ◌++◌, length, get_or, take, replicate, ltb, leb, eqb}
use Rattle.std.proofs.Math.Option.{Option, none, some}
use Rattle.std.proofs.Math.ListN.{get_elem?}
use Rattle.reach.specs.declared.Refusal.TheVariants.{UnexpectedMark, OutOfRange, UnknownNumber, UnknownCode, TypeMismatch, TrailingBytes, EmptyType, DepthTooSmall, BadSpelling}
use Rattle.reach.specs.Base.{pick}
use Rattle.reach.specs.Limits.{file_limit, type_limit, constructor_limit, field_limit, function_limit, parameter_limit, body_limit, depth_limit, step_limit, view_limit, nesting_limit}
use Rattle.reach.specs.Syntax.{Expr, variable, call, construct, case, let_in, target, Exprs, []ₑ, ◌∷ₑ◌, Alternatives, no_more, absent, present, Types, Function, Program, field_types}
use Rattle.reach.specs.Types.{source_slots, least_depths, roomy}
use Rattle.reach.specs.Names.{spells}
use Rattle.reach.specs.Reader.{Got, got, refused, Reader, ◌>>=◌, ◌>>◌, give, refuse, demand, byte, word, times, passed, at_end}

-- The first pass: marks, counts, lengths, D and S, bodies passed over.

-- The mark of a record: two bytes in ASCII.
pub data Mark : Type 0 where
  TY FN NA GO other : Mark

unfoldable pub mark_of : ℕ → ℕ → Mark
mark_of a b =
    pick (eqb a 0x54 && eqb b 0x59) TY
    (pick (eqb a 0x46 && eqb b 0x4e) FN
    (pick (eqb a 0x4e && eqb b 0x41) NA
    (pick (eqb a 0x47 && eqb b 0x4f) GO other)))

-- the marks by number, by which they are told apart
abbrev pub mark_number : Mark → ℕ
mark_number TY = 0
mark_number FN = 1
mark_number NA = 2
mark_number GO = 3
mark_number other = 4

abbrev pub same_mark : Mark → Mark → Bool
same_mark k m = eqb (mark_number k) (mark_number m)

unfoldable pub mark : Reader Mark
mark = do
  a ← byte
  b ← byte
  give (mark_of a b)

-- a byte that is a count from the one number to the other
unfoldable pub counted : ℕ → ℕ → Reader ℕ
counted least most = do
  n ← byte
  demand (leb least n && leb n most) OutOfRange
  give n

-- a constructor: its field count and the fields' types
unfoldable pub constructor_record : Reader (List ℕ)
constructor_record = do
  n ← counted 0 field_limit
  times n byte

-- what follows the mark TY
unfoldable pub type_record : Reader (List (List ℕ))
type_record = do
  n ← counted 1 constructor_limit
  times n constructor_record

-- A function as its head tells: parameter types, result type, the place of its body and the body's length.
pub record Head : Type 0 where
  pub parameters : List ℕ
  pub result : ℕ
  pub body : ℕ
  pub size : ℕ

-- what follows the mark FN
unfoldable pub function_record : Reader Head
function_record = do
  n ← counted 0 parameter_limit
  ps ← times n byte
  r ← byte
  l ← word
  demand (leb 1 l && leb l body_limit) OutOfRange
  b ← passed l
  give (record { parameters = ps; result = r; body = b; size = l })

-- What GO asks for, with a depth for each parameter that a source may have.
pub record Goal : Type 0 where
  pub source : ℕ
  pub label : ℕ
  pub depths : List ℕ
  pub steps : ℕ

-- what follows the mark GO: all parameters may be equally deep
unfoldable pub goal_record : Reader Goal
goal_record = do
  f ← byte
  l ← byte
  d ← counted 1 depth_limit
  s ← word
  demand (leb s step_limit) OutOfRange
  give (record { source = f; label = l; depths = replicate parameter_limit d; steps = s })

-- The marks that may come, each with what follows it. Any other mark, known or not, is out of its turn.
unfoldable pub in_turn : {A : Type 0} → List (Mark × Reader A) → Mark → Reader A
in_turn [] m = refuse UnexpectedMark
in_turn (turn ∷ turns) m = pick (same_mark turn.0 m) turn.1 (in_turn turns m)

-- the types after the first, up to the mark of the first function; so many more may come
unfoldable pub more_types : ℕ → Reader Types
more_types zero = mark >>= in_turn ((TY, refuse OutOfRange) ∷ (FN, give []) ∷ [])
more_types (suc n) = mark >>= in_turn ((TY, type_record >>= λ t. more_types n >>= λ ts. give (t ∷ ts)) ∷ (FN, give []) ∷ [])

-- nothing more; the mark that was looked at begins at this place and is left for what follows
abbrev pub ends_at : {A : Type 0} → ℕ → Reader (List A)
ends_at here s behind = got [] here

-- the functions after the first, up to the mark NA or GO, which is left
unfoldable pub more_functions : ℕ → Reader (List Head)
more_functions zero s here =
    (mark >>= in_turn ((FN, refuse OutOfRange) ∷ (NA, ends_at here) ∷ (GO, ends_at here) ∷ [])) s here
more_functions (suc n) s here =
    (mark >>= in_turn ((FN, function_record >>= λ f. more_functions n >>= λ fs. give (f ∷ fs)) ∷ (NA, ends_at here) ∷ (GO, ends_at here) ∷ [])) s here

-- the mark GO must come
unfoldable pub goal_mark : Reader (Unit {0})
goal_mark = mark >>= in_turn ((GO, give tt) ∷ [])

-- what follows the mark NA: the number of the type whose values are names. After it only GO may come.
unfoldable pub name_record : Reader (Option ℕ)
name_record = do
  t ← byte
  goal_mark
  give (some t)

-- the type that NA names, if there is an NA, up to behind the mark GO
unfoldable pub naming : Reader (Option ℕ)
naming = mark >>= in_turn ((NA, name_record) ∷ (GO, give none) ∷ [])

-- What expressions need of a file: its types and the heads of its functions.
pub record Declarations : Type 0 where
  pub types : Types
  pub heads : List Head

-- A file as the first pass leaves it: no number in it has been looked up, no body read.
pub record Outline : Type 0 where
  pub declared : Declarations
  pub named : Option ℕ
  pub goal : Goal

unfoldable pub outline : Reader Outline
outline = do
  m ← mark
  t ← in_turn ((TY, type_record) ∷ []) m
  ts ← more_types (pred type_limit)
  f ← function_record
  fs ← more_functions (pred function_limit)
  n ← naming
  g ← goal_record
  at_end TrailingBytes
  give (record { declared = record { types = t ∷ ts; heads = f ∷ fs }; named = n; goal = g })

-- The second pass: type and function numbers in TY, FN heads, NA and GO.

unfoldable pub all_below : ℕ → List ℕ → Bool
all_below n [] = true
all_below n (t ∷ ts) = ltb t n && all_below n ts

unfoldable pub constructors_exist : ℕ → List (List ℕ) → Bool
constructors_exist n [] = true
constructors_exist n (us ∷ cs) = all_below n us && constructors_exist n cs

unfoldable pub types_exist : ℕ → Types → Bool
types_exist n [] = true
types_exist n (cs ∷ ts) = constructors_exist n cs && types_exist n ts

unfoldable pub heads_exist : ℕ → List Head → Bool
heads_exist n [] = true
heads_exist n (h ∷ hs) = (all_below n h.parameters && ltb h.result n) && heads_exist n hs

-- what is tested of the type that NA names, where there is one
abbrev pub if_named : (ℕ → Bool) → Option ℕ → Bool
if_named test none = true
if_named test (some t) = test t

unfoldable pub numbers_exist : Outline → Bool
numbers_exist o =
    ((types_exist (length o.declared.types) o.declared.types && heads_exist (length o.declared.types) o.declared.heads)
    && if_named (λ t. ltb t (length o.declared.types)) o.named)
    && ltb o.goal.source (length o.declared.heads)

-- The third pass: bodies. A reader of an expression is told the types of the variables in view and the type expected of it.
abbrev pub Below : Type 0
Below = List ℕ → ℕ → Reader Expr

-- an expression for each of the types
unfoldable pub operands_of : Below → List ℕ → List ℕ → Reader Exprs
operands_of sub view [] = give []ₑ
operands_of sub view (t ∷ ts) = do
  e ← sub view t
  es ← operands_of sub view ts
  give (e ∷ₑ es)

-- for each of the constructors a byte: 0 for no alternative, or 1 and an expression that sees the fields too
unfoldable pub alternatives : Below → List ℕ → ℕ → List (List ℕ) → Reader Alternatives
alternatives sub view t [] = give no_more
alternatives sub view t (us ∷ cs) = do
  b ← byte
  demand (leb b 1) UnknownCode
  pick (eqb b 0) (alternatives sub view t cs >>= λ rest. give (absent rest))
      (sub (view ++ us) t >>= λ e. alternatives sub view t cs >>= λ rest. give (present e rest))

-- the expression's own nesting and view are within their limits
abbrev pub in_limits : Bool → List ℕ → Reader (Unit {0})
in_limits nested view = demand (nested && leb (length view) view_limit) OutOfRange

module _ (d : Declarations) (nested : Bool) (sub : Below) (view : List ℕ) (expected : ℕ) where
  unfoldable pub variable_expr : Reader Expr
  variable_expr = do
    n ← byte
    demand (ltb n (length view)) UnknownNumber
    in_limits nested view
    demand (eqb (get_or view n 0) expected) TypeMismatch
    give (variable n)

  unfoldable pub call_of : ℕ → Option Head → Reader Expr
  call_of f none = refuse UnknownNumber
  call_of f (some h) = do
    in_limits nested view
    demand (eqb h.result expected) TypeMismatch
    es ← operands_of sub view h.parameters
    give (call f es)

  unfoldable pub call_expr : Reader Expr
  call_expr = do
    f ← byte
    call_of f (get_elem? d.heads f)

  unfoldable pub construct_of : ℕ → ℕ → Option (List ℕ) → Reader Expr
  construct_of t c none = refuse UnknownNumber
  construct_of t c (some us) = do
    in_limits nested view
    demand (eqb t expected) TypeMismatch
    es ← operands_of sub view us
    give (construct t c es)

  unfoldable pub construct_expr : Reader Expr
  construct_expr = do
    t ← byte
    c ← byte
    construct_of t c (field_types d.types t c)

  unfoldable pub case_of : ℕ → Option (List (List ℕ)) → Reader Expr
  case_of t none = refuse UnknownNumber
  case_of t (some cs) = do
    in_limits nested view
    e ← sub view t
    alts ← alternatives sub view expected cs
    give (case t e alts)

  unfoldable pub case_expr : Reader Expr
  case_expr = do
    t ← byte
    case_of t (get_elem? d.types t)

  unfoldable pub let_expr : Reader Expr
  let_expr = do
    t ← byte
    demand (ltb t (length d.types)) UnknownNumber
    in_limits nested view
    e ← sub view t
    b ← sub (view ++ (t ∷ [])) expected
    give (let_in t e b)

  unfoldable pub target_expr : Reader Expr
  target_expr = do
    l ← byte
    in_limits nested view
    e ← sub view expected
    give (target l e)

  -- at each expression: short, code, numbers, its own nesting and view, type; then its operands
  unfoldable pub expression_by : Reader Expr
  expression_by = do
    code ← byte
    demand (leb code 5) UnknownCode
    pick (eqb code 0) variable_expr
        (pick (eqb code 1) call_expr
        (pick (eqb code 2) construct_expr
        (pick (eqb code 3) case_expr
        (pick (eqb code 4) let_expr target_expr))))

-- an expression that may nest so many deep, itself included
unfoldable pub expression : Declarations → ℕ → Below
expression d zero = expression_by d false (λ view t. refuse OutOfRange)
expression d (suc n) = expression_by d true (expression d n)

-- a body is read inside its own length, and nothing follows its expression there
unfoldable pub body_of : Declarations → Head → List ℕ → Got Expr
body_of d h s =
    (expression d nesting_limit h.parameters h.result >>= λ e. at_end TrailingBytes >> give e)
    (take (h.body + h.size) s)
    h.body

-- the functions, their bodies read in file order
unfoldable pub functions_of : Declarations → List Head → Reader (List Function)
functions_of d [] = give []
functions_of d (h ∷ hs) = do
  e ← λ s here. body_of d h s
  fs ← functions_of d hs
  give (record { parameters = h.parameters; result = h.result; body = e } ∷ fs)

-- The tests of depth, and the whole.

unfoldable pub program_of : Outline → List Function → Program
program_of o fs =
    record { types = o.declared.types; functions = fs; named = o.named; source = o.goal.source; label = o.goal.label; depths = o.goal.depths; steps = o.goal.steps }

-- every type has a closed value
unfoldable pub no_empty_type : List ℕ → Bool
no_empty_type [] = true
no_empty_type (d ∷ ds) = ltb 0 d && no_empty_type ds

-- each source parameter has a value within its depth
unfoldable pub deep_enough : Program → Bool
deep_enough p = roomy (least_depths p.types) (source_slots p)

-- the type that NA names spells names; 02, Slip 4
unfoldable pub well_spelled : Outline → Bool
well_spelled o = if_named (λ t. spells o.declared.types t) o.named

-- the size of the whole file, tested before everything
unfoldable pub size_in_limit : Reader (Unit {0})
size_in_limit s here = pick (leb (length s) file_limit) (got tt here) (refused OutOfRange)

-- the program of a file, or the refusal of 1 to 9 or 15
unfoldable pub rule_file : Reader Program
rule_file = do
  size_in_limit
  o ← outline
  demand (numbers_exist o) UnknownNumber
  fs ← functions_of o.declared o.declared.heads
  demand (no_empty_type (least_depths o.declared.types)) EmptyType
  demand (deep_enough (program_of o fs)) DepthTooSmall
  demand (well_spelled o) BadSpelling
  give (program_of o fs)
