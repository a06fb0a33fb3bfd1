-- Which refusals each pass can give: 01, "Turned back". A file is turned back by 1 to 9 or 15 only. Each reader says by which refusals it may end; what
-- they say is joined along the reader's own text.
-- Rests on Reader, RuleFile, Words and Answers.
use Prim.Native.Nat.{ℕ, zero, suc, pred, ◌+◌, ◌≤◌}
use native.Mathlib.Omega.{arith}
use mathlib.Core.Path.{◌≡◌, refl, subst}
use mathlib.Core.Bool.{Bool, true, false, ◌&&◌}
use mathlib.Core.List.Memᴰ
use mathlib.Core.List.{List, [], ◌∷◌, ◌++◌}
use mathlib.Core.Option.{Option, none, some}
use lib.ListN.{length, get_or, get_elem?, take}
use lib.Dec.{ltb, leb, eqb}
use Rattle.reach.specs.declared.Refusal.{Refusal}
use Rattle.reach.specs.declared.Refusal.TheVariants.{Truncated, UnexpectedMark, OutOfRange, UnknownNumber, UnknownCode, TypeMismatch, TrailingBytes, EmptyType, DepthTooSmall, BadSpelling}
use Rattle.reach.specs.Base.{◌∈◌, pick, Each}
use mathlib.Core.Logic.{inl, inr}
use Rattle.reach.specs.Words.{number_of, OfFile}
use Rattle.reach.specs.Limits.{file_limit, type_limit, constructor_limit, field_limit, function_limit, parameter_limit, body_limit, depth_limit, step_limit, view_limit, nesting_limit}
use Rattle.reach.specs.Syntax.{Program, field_types}
use Rattle.reach.specs.Types.{least_depths}
use Rattle.reach.specs.Reader.{Got, got, refused, on_got, Reader, ◌>>=◌, ◌>>◌, give, refuse, demand, byte, word, times, passed, at_end}
use Rattle.reach.specs.RuleFile.{Mark, in_turn, mark, counted, constructor_record, type_record, Head, function_record, goal_record, more_types, ends_at, more_functions, goal_mark, name_record, naming, Declarations, outline}
use Rattle.reach.specs.RuleFile.{Below, operands_of, alternatives, in_limits, variable_expr, call_of, call_expr, construct_of, construct_expr, case_of, case_expr, let_expr, target_expr, expression_by, expression}
use Rattle.reach.specs.RuleFile.{body_of, functions_of, numbers_exist, program_of, no_empty_type, deep_enough, well_spelled, size_in_limit, rule_file}
use Rattle.reach.specs.Answers.{accepted, turned_back, check}
use Rattle.reach.proofs.InTurn.{in_turn_law}
use Rattle.reach.proofs.Base.{clash, picked, each_member}

-- a refusal, if it is one, is one of these
abbrev IfRefused : {A : Type 0} → (Refusal → Type 0) → Got A → Type 0
IfRefused P (got a next) = Unit {0}
IfRefused P (refused why) = P why

-- whatever the reader looks at, it refuses by one of these only
record Refuses {A : Type 0} (P : Refusal → Type 0) (m : Reader A) : Type 0 where
  met : (s : List ℕ) (i : ℕ) → IfRefused P (m s i)

module _ {P : Refusal → Type 0} where
  giving : {A : Type 0} {a : A} → Refuses P (give a)
  giving = record { met = λ s i. tt }

  refusing : {A : Type 0} {why : Refusal} → P why → Refuses {A = A} P (refuse why)
  refusing one = record { met = λ s i. one }

  -- a choice between two
  choosing : {A : Type 0} (test : Bool) {m n : Reader A} → Refuses P m → Refuses P n → Refuses P (pick test m n)
  choosing true a b = a
  choosing false a b = b

  demanding : (test : Bool) (why : Refusal) → P why → Refuses P (demand test why)
  demanding test why one = record { met = λ s i. picked (IfRefused P) test (λ passes. tt) (λ fails. one) }

  module _ {A B : Type 0} {m : Reader A} where
    -- one reader and then another
    then : {f : A → Reader B} → Refuses P m → ((a : A) → Refuses P (f a)) → Refuses P (m >>= f)
    then {f} first second = record { met = λ s i. go s (m s i) (first.met s i) }
      where
        go : (s : List ℕ) (g : Got A) → IfRefused P g → IfRefused P (on_got {B = Got B} (λ a next. f a s next) (λ why. refused why) g)
        go s (got a next) one = (second a).met s next
        go s (refused why) one = one

    then_on : {f : Reader B} → Refuses P m → Refuses P f → Refuses P (m >> f)
    then_on {f} first second = then {f = λ a. f} first (λ a. second)

  -- The readers of bytes.

  byte_refuses : P Truncated → Refuses P byte
  unfolding byte
  byte_refuses one = record { met = λ s i. picked (IfRefused P) (ltb i (length s)) (λ more. tt) (λ none_left. one) }

  word_refuses : P Truncated → Refuses P word
  unfolding word
  word_refuses one = then (byte_refuses one) (λ low. then (byte_refuses one) (λ high. giving))

  times_refuses : {A : Type 0} {m : Reader A} (n : ℕ) → Refuses P m → Refuses P (times n m)
  unfolding times
  times_refuses zero each = giving
  times_refuses (suc n) each = then each (λ a. then (times_refuses n each) (λ xs. giving))

  passed_refuses : (n : ℕ) → P Truncated → Refuses P (passed n)
  unfolding passed
  passed_refuses n one = record { met = λ s i. picked (IfRefused P) (leb (i + n) (length s)) (λ enough. tt) (λ short. one) }

  end_refuses : P TrailingBytes → Refuses P (at_end TrailingBytes)
  unfolding at_end
  end_refuses one = record { met = λ s i. picked (IfRefused P) (ltb i (length s)) (λ more. one) (λ none_left. tt) }

-- what refuses by one of these refuses by one of those
weakened : {A : Type 0} {P Q : Refusal → Type 0} {m : Reader A} → ((why : Refusal) → P why → Q why) → Refuses P m → Refuses Q m
weakened {A} {P} {Q} {m} more whole = record { met = λ s i. go (m s i) (whole.met s i) }
  where
    go : (g : Got A) → IfRefused P g → IfRefused Q g
    go (got a next) one = tt
    go (refused why) one = more why one

-- The first pass gives 1, 2, 3 and 7.

abbrev OfFirstPass : Refusal → Type 0
OfFirstPass why = number_of why ∈ (1 ∷ 2 ∷ 3 ∷ 7 ∷ [])

first_short : OfFirstPass Truncated
first_short = Memᴰ.head refl

first_mark_law : OfFirstPass UnexpectedMark
first_mark_law = Memᴰ.tail (Memᴰ.head refl)

first_range : OfFirstPass OutOfRange
first_range = Memᴰ.tail (Memᴰ.tail (Memᴰ.head refl))

first_tail : OfFirstPass TrailingBytes
first_tail = Memᴰ.tail (Memᴰ.tail (Memᴰ.tail (Memᴰ.head refl)))

mark_refuses : Refuses OfFirstPass mark
unfolding mark
mark_refuses = then (byte_refuses first_short) (λ a. then (byte_refuses first_short) (λ b. giving))

counted_refuses : (least most : ℕ) → Refuses OfFirstPass (counted least most)
unfolding counted
counted_refuses least most = then (byte_refuses first_short) (λ n. then_on (demanding (leb least n && leb n most) OutOfRange first_range) giving)

type_refuses : Refuses OfFirstPass type_record
unfolding type_record constructor_record
type_refuses =
    then (counted_refuses 1 constructor_limit)
    (λ n. times_refuses n (then (counted_refuses 0 field_limit) (λ k. times_refuses k (byte_refuses first_short))))

head_refuses : Refuses OfFirstPass function_record
unfolding function_record
head_refuses =
    then (counted_refuses 0 parameter_limit)
    (λ n. then (times_refuses n (byte_refuses first_short))
    (λ ps. then (byte_refuses first_short)
    (λ r. then (word_refuses first_short)
    (λ l. then_on (demanding (leb 1 l && leb l body_limit) OutOfRange first_range)
    (then (passed_refuses l first_short) (λ b. giving))))))

goal_refuses : Refuses OfFirstPass goal_record
unfolding goal_record
goal_refuses =
    then (byte_refuses first_short)
    (λ f. then (byte_refuses first_short)
    (λ l. then (counted_refuses 1 depth_limit)
    (λ d. then (word_refuses first_short)
    (λ s. then_on (demanding (leb s step_limit) OutOfRange first_range) giving))))

-- a mark out of its turn is refused by 2
turned : {A : Type 0} (turns : List (Mark × Reader A)) → Each (λ turn. Refuses OfFirstPass turn.1) turns → (m : Mark) → Refuses OfFirstPass (in_turn turns m)
turned turns all m = in_turn_law (λ r. Refuses OfFirstPass r) turns (refusing first_mark_law) all m

-- a reader that knows where it stands
placed : {A : Type 0} {P : Refusal → Type 0} {m : ℕ → Reader A} → ((here : ℕ) → Refuses P (m here)) → Refuses P (λ s here. m here s here)
placed each = record { met = λ s i. (each i).met s i }

ending : {A : Type 0} {P : Refusal → Type 0} (here : ℕ) → Refuses P (ends_at {A = A} here)
ending here = record { met = λ s i. tt }

types_refuse : (n : ℕ) → Refuses OfFirstPass (more_types n)
unfolding more_types
types_refuse zero = then mark_refuses (λ m. turned _ (refusing first_range, (giving, tt)) m)
types_refuse (suc n) =
    then mark_refuses
    (λ m. turned _ (then type_refuses (λ t. then (types_refuse n) (λ ts. giving)), (giving, tt)) m)

functions_refuse : (n : ℕ) → Refuses OfFirstPass (more_functions n)
unfolding more_functions
functions_refuse zero =
    placed (λ here. then mark_refuses (λ m. turned _ (refusing first_range, (ending here, (ending here, tt))) m))
functions_refuse (suc n) =
    placed (λ here. then mark_refuses
    (λ m. turned _ (then head_refuses (λ f. then (functions_refuse n) (λ fs. giving)), (ending here, (ending here, tt))) m))

naming_refuses : Refuses OfFirstPass naming
unfolding naming name_record goal_mark
naming_refuses =
    then mark_refuses
    (λ m. turned _
    (then (byte_refuses first_short) (λ t. then_on (then mark_refuses (λ n. turned _ (giving, tt) n)) giving), (giving, tt)) m)

outline_refuses : Refuses OfFirstPass outline
unfolding outline
outline_refuses =
    then mark_refuses
    (λ m. then (turned _ (type_refuses, tt) m)
    (λ t. then (types_refuse (pred type_limit))
    (λ ts. then head_refuses
    (λ f. then (functions_refuse (pred function_limit))
    (λ fs. then naming_refuses
    (λ n. then goal_refuses
    (λ g. then_on (end_refuses first_tail) giving)))))))

pub first_pass_gives : (file : List ℕ) (why : Refusal) → outline file 0 ≡ refused why → number_of why ∈ (1 ∷ 2 ∷ 3 ∷ 7 ∷ [])
first_pass_gives file why is = subst (IfRefused OfFirstPass) is (outline_refuses.met file 0)

-- The bodies give 1 and 3 to 7.

abbrev OfBody : Refusal → Type 0
OfBody why = number_of why ∈ (1 ∷ 3 ∷ 4 ∷ 5 ∷ 6 ∷ 7 ∷ [])

body_short : OfBody Truncated
body_short = Memᴰ.head refl

body_range : OfBody OutOfRange
body_range = Memᴰ.tail (Memᴰ.head refl)

body_number : OfBody UnknownNumber
body_number = Memᴰ.tail (Memᴰ.tail (Memᴰ.head refl))

body_code : OfBody UnknownCode
body_code = Memᴰ.tail (Memᴰ.tail (Memᴰ.tail (Memᴰ.head refl)))

body_type : OfBody TypeMismatch
body_type = Memᴰ.tail (Memᴰ.tail (Memᴰ.tail (Memᴰ.tail (Memᴰ.head refl))))

body_tail : OfBody TrailingBytes
body_tail = Memᴰ.tail (Memᴰ.tail (Memᴰ.tail (Memᴰ.tail (Memᴰ.tail (Memᴰ.head refl)))))

-- a reader of expressions, for every view and type
abbrev RefusesAll : Below → Type 0
RefusesAll sub = (view : List ℕ) (t : ℕ) → Refuses OfBody (sub view t)

operands_refuse : (sub : Below) → RefusesAll sub → (view ts : List ℕ) → Refuses OfBody (operands_of sub view ts)
unfolding operands_of
operands_refuse sub below view [] = giving
operands_refuse sub below view (t ∷ ts) = then (below view t) (λ e. then (operands_refuse sub below view ts) (λ es. giving))

alternatives_refuse : (sub : Below) → RefusesAll sub → (view : List ℕ) (t : ℕ) (cs : List (List ℕ)) → Refuses OfBody (alternatives sub view t cs)
unfolding alternatives
alternatives_refuse sub below view t [] = giving
alternatives_refuse sub below view t (us ∷ cs) =
    then (byte_refuses body_short)
    (λ b. then_on (demanding (leb b 1) UnknownCode body_code)
    (choosing (eqb b 0) (then (alternatives_refuse sub below view t cs) (λ rest. giving))
    (then (below (view ++ us) t) (λ e. then (alternatives_refuse sub below view t cs) (λ rest. giving)))))

module _ (d : Declarations) (nested : Bool) (sub : Below) (below : RefusesAll sub) (view : List ℕ) (expected : ℕ) where
  limits_refuse : Refuses OfBody (in_limits nested view)
  limits_refuse = demanding (nested && leb (length view) view_limit) OutOfRange body_range

  variable_refuses : Refuses OfBody (variable_expr d nested sub view expected)
  unfolding variable_expr
  variable_refuses =
      then (byte_refuses body_short)
      (λ n. then_on (demanding (ltb n (length view)) UnknownNumber body_number)
      (then_on limits_refuse
      (then_on (demanding (eqb (get_or view n 0) expected) TypeMismatch body_type) giving)))

  call_refuses : (f : ℕ) (h : Option Head) → Refuses OfBody (call_of d nested sub view expected f h)
  unfolding call_of
  call_refuses f none = refusing body_number
  call_refuses f (some h) =
      then_on limits_refuse
      (then_on (demanding (eqb h.result expected) TypeMismatch body_type)
      (then (operands_refuse sub below view h.parameters) (λ es. giving)))

  construct_refuses : (t c : ℕ) (us : Option (List ℕ)) → Refuses OfBody (construct_of d nested sub view expected t c us)
  unfolding construct_of
  construct_refuses t c none = refusing body_number
  construct_refuses t c (some us) =
      then_on limits_refuse
      (then_on (demanding (eqb t expected) TypeMismatch body_type)
      (then (operands_refuse sub below view us) (λ es. giving)))

  case_refuses : (t : ℕ) (cs : Option (List (List ℕ))) → Refuses OfBody (case_of d nested sub view expected t cs)
  unfolding case_of
  case_refuses t none = refusing body_number
  case_refuses t (some cs) =
      then_on limits_refuse
      (then (below view t)
      (λ e. then (alternatives_refuse sub below view expected cs) (λ alts. giving)))

  let_refuses : Refuses OfBody (let_expr d nested sub view expected)
  unfolding let_expr
  let_refuses =
      then (byte_refuses body_short)
      (λ t. then_on (demanding (ltb t (length d.types)) UnknownNumber body_number)
      (then_on limits_refuse
      (then (below view t) (λ e. then (below (view ++ (t ∷ [])) expected) (λ b. giving)))))

  target_refuses : Refuses OfBody (target_expr d nested sub view expected)
  unfolding target_expr
  target_refuses = then (byte_refuses body_short) (λ l. then_on limits_refuse (then (below view expected) (λ e. giving)))

  by_refuses : Refuses OfBody (expression_by d nested sub view expected)
  unfolding expression_by call_expr construct_expr case_expr
  by_refuses =
      then (byte_refuses body_short)
      (λ code. then_on (demanding (leb code 5) UnknownCode body_code)
      (choosing (eqb code 0) variable_refuses
      (choosing (eqb code 1) (then (byte_refuses body_short) (λ f. call_refuses f (get_elem? d.heads f)))
      (choosing (eqb code 2)
      (then (byte_refuses body_short) (λ t. then (byte_refuses body_short) (λ c. construct_refuses t c (field_types d.types t c))))
      (choosing (eqb code 3) (then (byte_refuses body_short) (λ t. case_refuses t (get_elem? d.types t)))
      (choosing (eqb code 4) let_refuses target_refuses))))))

expression_refuses : (d : Declarations) (n : ℕ) → RefusesAll (expression d n)
unfolding expression
expression_refuses d zero view t = by_refuses d false (λ view t. refuse OutOfRange) (λ view t. refusing body_range) view t
expression_refuses d (suc n) view t = by_refuses d true (expression d n) (expression_refuses d n) view t

body_refuses : (d : Declarations) (h : Head) → Refuses OfBody (λ s here. body_of d h s)
unfolding body_of
body_refuses d h =
    let whole = then (expression_refuses d nesting_limit h.parameters h.result) (λ e. then_on (end_refuses body_tail) (giving {a = e})) in
    record { met = λ s i. whole.met (take (h.body + h.size) s) h.body }

bodies_refuse : (d : Declarations) (hs : List Head) → Refuses OfBody (functions_of d hs)
unfolding functions_of
bodies_refuse d [] = giving
bodies_refuse d (h ∷ hs) = then (body_refuses d h) (λ e. then (bodies_refuse d hs) (λ fs. giving))

pub body_gives : (d : Declarations) (h : Head) (file : List ℕ) (why : Refusal) → body_of d h file ≡ refused why → number_of why ∈ (1 ∷ 3 ∷ 4 ∷ 5 ∷ 6 ∷ 7 ∷ [])
body_gives d h file why is = subst (IfRefused OfBody) is ((body_refuses d h).met file 0)

-- The file.

-- what a pass gives is of 1 to 9
small : (ns : List ℕ) → Each (λ n. n ≤ 9) ns → (why : Refusal) → number_of why ∈ ns → OfFile why
small ns all why m = inl (each_member (λ n. n ≤ 9) all m)

size_refuses : Refuses OfFile size_in_limit
unfolding size_in_limit
size_refuses = record { met = λ s i. picked (IfRefused OfFile) (leb (length s) file_limit) (λ fits. tt) (λ long. inl (omega arith)) }

file_refuses : Refuses OfFile rule_file
unfolding rule_file
file_refuses =
    then_on size_refuses
    (then (weakened (small _ (omega arith, (omega arith, (omega arith, (omega arith, tt))))) outline_refuses)
    (λ o. then_on (demanding (numbers_exist o) UnknownNumber (inl (omega arith)))
    (then (weakened (small _ (omega arith, (omega arith, (omega arith, (omega arith, (omega arith, (omega arith, tt)))))))
    (bodies_refuse o.declared o.declared.heads))
    (λ fs. then_on (demanding (no_empty_type (least_depths o.declared.types)) EmptyType (inl (omega arith)))
    (then_on (demanding (deep_enough (program_of o fs)) DepthTooSmall (inl (omega arith)))
    (then_on (demanding (well_spelled o) BadSpelling (inr refl)) giving))))))

-- a file that is turned back gets a number of 1 to 9, or 15
pub turned_back_by : (file : List ℕ) (why : Refusal) → check file ≡ turned_back why → OfFile why
unfolding check
turned_back_by file why = go (rule_file file 0) (file_refuses.met file 0)
  where
    go : (g : Got Program) → IfRefused OfFile g → on_got (λ p next. accepted p) turned_back g ≡ turned_back why → OfFile why
    go (got p next) low is = absurd (clash (cc))
    go (refused by) low is = let z : by ≡ why = cc in subst OfFile z low
