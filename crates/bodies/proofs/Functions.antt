-- The bodies of the functions: one body inside its own length, and all of them in file order. One law for each answer of the code.
-- Rests on expressions' Passing, and on the answers of crate typerecord.
use Prim.Native.Nat.{ℕ, suc, ◌+◌, ◌≤◌, ◌<◌}
use mathlib.Core.Path.{◌≡◌, refl, sym, ◌∙◌, ap}
use mathlib.Core.List.{List, [], ◌∷◌, map}
use Rattle.std.specs.Prelude.{Result, Ok, Err}
use lib.ListN.{length, get_or, take, drop, drop_of_length-le}
use lib.Seq.{length-take-le, drop-cons}
use native.Mathlib.Omega.{arith}
use native.Mathlib.Numerals.{add-one}
use borrow.Author.Tests.{lt-ltb, le-ltb}
use Rattle.reach.specs.declared.Refusal.{Refusal}
use Rattle.reach.specs.declared.Refusal.TheVariants.{TrailingBytes}
use Rattle.reach.specs.Limits.{nesting_limit}
use Rattle.reach.specs.Syntax.{Expr, Function}
use Rattle.reach.specs.Reader.{Got, at_end}
use Rattle.reach.specs.RuleFile.{Head, Declarations, body_of, functions_of}
use Rattle.reach.specs.Places.{bytes_at, head_at}
use Rattle.typerecord.specs.Passed.{passed_of}
use Rattle.typerecord.proofs.Answers.{step_got, step_refused}
use Rattle.lookups.specs.declared.Head as Looked
use Rattle.lookups.specs.Heads.{head_of}
use Rattle.lookups.proofs.Tables.{parameters_many}
use Rattle.expressions.specs.Tables.{TablesSmall}
use Rattle.expressions.specs.Readers.{declared, expression_at}
use Rattle.expressions.proofs.Passing.{both_next}
use Rattle.bodies.specs.Check.{body_at, BodyThere, bodies_of}

-- where a body ends, and the expression in it
abbrev end_of : Head → ℕ
end_of h = h.body + h.size

abbrev inside : List ℕ → List ℕ → List ℕ → Head → Got Expr
inside file types functions h =
    expression_at file types functions nesting_limit h.parameters h.result (take (end_of h) file) h.body

-- The body of the function whose record stands at a place, as the code reads it: first what the record says, then the parameters in view and the
-- step of the expression.
module _ (file : List ℕ) (place : ℕ) (h : Looked.Head) (is : head_of file h ≡ head_at file place) (there : BodyThere file place) where
  end_is : h.body + h.size ≡ end_of (head_at file place)
  end_is = ap end_of is

  pub body_length : h.body + h.size ≡ length (take (h.body + h.size) file)
  body_length = sym (length-take-le (h.body + h.size) file (omega (arith, end_is)))

  module _ (types functions view : List ℕ) (v : view ≡ bytes_at file h.parameters.at h.parameters.count) where
    -- what the code reads of the expression
    abbrev told : Result ℕ Refusal
    told = passed_of (expression_at file types functions 32 view h.result (take (h.body + h.size) file) h.body)

    body_told : told ≡ passed_of (inside file types functions (head_at file place))
    body_told = rw (← is, ← v)

    pub body_refused : {why : Refusal} → Err why ≡ told → Err why ≡ passed_of (body_at file types functions place)
    unfolding body_of
    body_refused e = rw (step_refused (inside file types functions (head_at file place)) (sym (e ∙ body_told)))

    module _ {behind : ℕ} (e : Ok behind ≡ told) where
      pub body_trailing : behind < h.body + h.size → Err TrailingBytes ≡ passed_of (body_at file types functions place)
      unfolding body_of at_end
      body_trailing b =
          rw ((step_got (inside file types functions (head_at file place)) (sym (e ∙ body_told))).1, length-take-le (end_of (head_at file place)) file there)
          (rw (lt-ltb behind (end_of (head_at file place)) (omega (arith, end_is))) refl)

      pub body_ends : h.body + h.size ≤ behind → Ok behind ≡ passed_of (body_at file types functions place)
      unfolding body_of at_end
      body_ends b =
          rw ((step_got (inside file types functions (head_at file place)) (sym (e ∙ body_told))).1, length-take-le (end_of (head_at file place)) file there)
          (rw (le-ltb behind (end_of (head_at file place)) (omega (arith, end_is))) refl)

-- a function of the table has few parameters
pub few_parameters :
    {file types functions : List ℕ} {f : ℕ} → TablesSmall file types functions → f < length functions
    → (h : Looked.Head) → head_of file h ≡ head_at file (get_or functions f 0) → h.parameters.count ≤ 8
few_parameters {file} {f = f} small more h is = omega (arith, parameters_many file h is, small.parameters_limit f more)

-- the bodies from number f on; the place behind them is left out
abbrev pub bodies_from : List ℕ → List ℕ → List ℕ → ℕ → Result (Unit {0}) Refusal
bodies_from file types functions f =
    bodies_of (passed_of (functions_of (declared file types functions) (map (head_at file) (drop f functions)) file 0))

-- no body is read from the place behind the one before
anywhere : (d : Declarations) (s : List ℕ) (hs : List Head) (i j : ℕ) → bodies_of (passed_of (functions_of d hs s i)) ≡ bodies_of (passed_of (functions_of d hs s j))
unfolding functions_of
anywhere d s [] i j = refl
anywhere d s (h ∷ hs) i j = refl

-- All bodies: of more than none the first, which goes on or is refused; and no more.
module _ (file types functions : List ℕ) (f : ℕ) where
  abbrev d : Declarations
  d = declared file types functions

  abbrev first : Head
  first = head_at file (get_or functions f 0)

  abbrev others : List Head
  others = map (head_at file) (drop (suc f) functions)

  module _ (more : f < length functions) where
    pub body_next : {next : ℕ} → Ok next ≡ passed_of (body_of d first file) → bodies_from file types functions (f + 1) ≡ bodies_from file types functions f
    unfolding functions_of
    body_next {next} told =
        rw (add-one, drop-cons functions f 0 more)
        (anywhere d file others 0 next
        ∙ ap bodies_of
        (sym
        (both_next {C = List Function} (λ s here. body_of d first s) (functions_of d others)
        (λ x fs. record { parameters = first.parameters; result = first.result; body = x } ∷ fs)
        file 0 (sym told))))

    pub body_stops : {why : Refusal} → Err why ≡ passed_of (body_of d first file) → Err why ≡ bodies_from file types functions f
    unfolding functions_of
    body_stops told = rw (drop-cons functions f 0 more, step_refused (body_of d first file) (sym told))

  pub bodies_done : length functions ≤ f → Ok tt ≡ bodies_from file types functions f
  unfolding functions_of
  bodies_done h = rw (drop_of_length-le functions h)
