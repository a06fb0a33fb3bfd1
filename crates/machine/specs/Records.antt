-- Environments, waiting cases and the state of the evaluation in the lent words: records of four words from a base on, only ever added.
-- Rests on reach's Eval, Encoding and RuleFile.
use Rattle.std.specs.Prelude.{ℕ, suc, ◌+◌, ◌*◌, ◌%◌, ◌≤◌, ◌<◌, ◌≡◌, List, [], ◌∷◌, length, get_or}
use Rattle.reach.specs.Limits.{nesting_limit}
use Rattle.reach.specs.Syntax.{Expr, Exprs, ◌∷ₑ◌, count, Alternatives}
use Rattle.reach.specs.Parts.{Place}
use Rattle.reach.specs.Encoding.{Stands, StandsAll, StandsAlternatives, Arity, ArityAll, ArityAlternatives, nesting, nesting_all, nesting_alternatives}
use Rattle.reach.specs.RuleFile.{Declarations}
use Rattle.reach.specs.Eval.{Row, part_of, Env, empty, operands, input_parts, size, Frame, waiting, fields, State, evaluating, inspecting, uncovered}

-- word k of record r
abbrev pub record_word : List ℕ → ℕ → ℕ → ℕ → ℕ
record_word w base r k = get_or w (base + 4 * r + k) 0

-- record r holds these four words
pub record RecordIs (w : List ℕ) (base r a b c d : ℕ) : Type 0 where
  pub word_0 : record_word w base r 0 ≡ a
  pub word_1 : record_word w base r 1 ≡ b
  pub word_2 : record_word w base r 2 ≡ c
  pub word_3 : record_word w base r 3 ≡ d

-- no word changed but those of the record at the top
pub record OnlyTop (w w' : List ℕ) (base records : ℕ) : Type 0 where
  pub same_length : length w' ≡ length w
  pub elsewhere : (i : ℕ) → (base + 4 * records ≤ i → base + 4 * (records + 1) ≤ i) → get_or w' i 0 ≡ get_or w i 0

-- the record at the top was written
pub record Wrote (w w' : List ℕ) (base top a b c d : ℕ) : Type 0 where
  pub only_top : OnlyTop w w' base top
  pub holds : RecordIs w' base top a b c d

-- An expression of the file, at the place where its bytes stand; operands; alternatives.
abbrev pub Code : List ℕ → Declarations → ℕ → Expr → Type 0
Code file o i e = Stands file i e × Arity o e × (nesting e ≤ nesting_limit)

abbrev pub CodeAll : List ℕ → Declarations → ℕ → Exprs → Type 0
CodeAll file o i es = StandsAll file i es × ArityAll o es × (nesting_all es ≤ nesting_limit)

abbrev pub CodeAlternatives : List ℕ → Declarations → ℕ → Alternatives → Type 0
CodeAlternatives file o i alts = StandsAlternatives file i alts × ArityAlternatives o alts × (nesting_alternatives alts ≤ nesting_limit)

-- What is being evaluated, in numbers: the expression at a place of the file, in the environment of a record; the input part of a cell; or
-- nothing, an alternative was missing.
pub data Control : Type 0 where
  expression_at : ℕ → ℕ → Control
  part_in : ℕ → Control
  nothing_left : Control

-- the record of the environment that it names, or 0
abbrev pub environment_of : Control → ℕ
environment_of (expression_at i r) = r
environment_of (part_in x) = 0
environment_of nothing_left = 0

-- Frames have numbers: a waiting case that of its record; from this one on no case waits, and what is above it is the record of fields that wait, or 0.
abbrev pub no_case : ℕ
no_case = 1000000

-- the record of the frame is before t
abbrev pub FrameBelow : ℕ → ℕ → Type 0
FrameBelow f t = (f % no_case < t) × (f < 2000000)

-- what a state's parts are in the words: `cell` gives the cell of a place
module _ (file : List ℕ) (o : Declarations) (w : List ℕ) (base : ℕ) (cell : Place → ℕ) where
  -- An environment is a record: the record of what is outside it, how many variables are in view, where its group begins, and 0 for a group of input
  -- parts or 1 more than the record of the environment in which the operands stand. Record 0 is the empty environment.
  pub data EnvAt : ℕ → Env → Type 0 where
    empty_at : EnvAt 0 empty
    operands_at_law : {r a b i n : ℕ} {outer inner : Env} {es : Exprs} → RecordIs w base r a n i (suc b) → a < r → b < r → n ≡ size outer + count es
        → EnvAt a outer → EnvAt b inner → CodeAll file o i es → EnvAt r (operands outer es inner)
    parts_at : {r a x n k : ℕ} {outer : Env} {row : Row} → RecordIs w base r a n x 0 → a < r → n ≡ size outer + k
        → EnvAt a outer → ((j : ℕ) → j < k → cell (part_of row j) ≡ x + j) → EnvAt r (input_parts outer row k)

  -- A waiting case is a record: where its alternatives stand, 0, its environment, and the number of the next frame. Fields that wait are one: where the
  -- next of them stands, how many they are, their environment, and the number of the next frame.
  pub data FramesAt : ℕ → List Frame → Type 0 where
    none_at : FramesAt no_case []
    waiting_at : {r i a f : ℕ} {alts : Alternatives} {env : Env} {fs : List Frame} → RecordIs w base r i 0 a f → r < no_case → a < r → FrameBelow f r
        → CodeAlternatives file o i alts → EnvAt a env → FramesAt f fs → FramesAt r (waiting alts env ∷ fs)
    fields_at : {r i n a f : ℕ} {e : Expr} {es : Exprs} {env : Env} {fs : List Frame} → RecordIs w base r i n a f → r < no_case → a < r → FrameBelow f r
        → n ≡ suc (count es) → CodeAll file o i (e ∷ₑ es) → EnvAt a env → FramesAt f fs → FramesAt (no_case + r) (fields e es env ∷ fs)

  -- A state is what is being evaluated and the record of the innermost frame. No numbers stand for `stuck`.
  pub data StateAt : Control → ℕ → State → Type 0 where
    evaluating_at : {i r f : ℕ} {x : Expr} {env : Env} {fs : List Frame} → Code file o i x → EnvAt r env → FramesAt f fs → StateAt (expression_at i r) f (evaluating x env fs)
    inspecting_at : {x f : ℕ} {q : Place} {fs : List Frame} → cell q ≡ x → FramesAt f fs → StateAt (part_in x) f (inspecting q fs)
    missing_at : {f : ℕ} → StateAt nothing_left f uncovered
