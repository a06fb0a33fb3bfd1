-- Records of environments and waiting cases: they are kept while the words and cells that they speak of are, a new record adds to them, the
-- count word is the number of variables in view, and a variable is found by walking outward.
-- Rests on specs/Records, on Codes and on reach's States.
use Prim.Native.Nat.{ℕ, zero, suc, ◌+◌, ◌-◌, ◌*◌, ◌≤◌, ◌<◌}
use mathlib.Core.Path.{◌≡◌, refl, ◌∙◌, subst}
use mathlib.Core.Bool.{Bool, true, false}
use mathlib.Core.List.{List, ◌∷◌}
use mathlib.Core.Option.{Option, none, some}
use native.Mathlib.Omega.{arith}
use lib.ListN.{get_or}
use lib.Dec.{ltb}
use borrow.Author.Tests.{ltb-true, ltb-false, lt-ltb, le-ltb}
use Rattle.reach.specs.Base.{pick}
use Rattle.reach.specs.Syntax.{Expr, Exprs, []ₑ, ◌∷ₑ◌, count, nth_expr, Alternatives}
use Rattle.reach.specs.Parts.{Parts, Place, at, There}
use Rattle.reach.specs.RuleFile.{Declarations}
use Rattle.reach.specs.Eval.{Row, part_of, Env, empty, operands, input_parts, size, Closure, suspended, input_part, suspend, lookup, Frame, waiting, fields, State}
use Rattle.reach.proofs.Base.{clash}
use Rattle.reach.specs.States.{EnvIn, FramesIn, StateIn}
use Rattle.machine.specs.Records.{record_word, RecordIs, CodeAll, CodeAlternatives, Control, environment_of, no_case, FrameBelow, EnvAt, empty_at, operands_at_law, parts_at, FramesAt, none_at, waiting_at, fields_at, StateAt, evaluating_at, inspecting_at, missing_at}
use Rattle.machine.specs.Walks.{OperandAt, outside_of, VariableAt, outside, in_parts, in_operands}
use Rattle.machine.proofs.Codes.{operand_at}

-- the words of the first t records are as before
abbrev pub Same : List ℕ → List ℕ → ℕ → ℕ → Type 0
Same w w' base t = (i : ℕ) → base ≤ i → i < base + 4 * t → get_or w' i 0 ≡ get_or w i 0

pub holds_kept : (w w' : List ℕ) (base t : ℕ) → Same w w' base t → {r a b c d : ℕ} → r < t → RecordIs w base r a b c d → RecordIs w' base r a b c d
holds_kept w w' base t same {r} below holds =
    record {
      word_0 = same (base + 4 * r + 0) (omega arith) (omega arith) ∙ holds.word_0;
      word_1 = same (base + 4 * r + 1) (omega arith) (omega arith) ∙ holds.word_1;
      word_2 = same (base + 4 * r + 2) (omega arith) (omega arith) ∙ holds.word_2;
      word_3 = same (base + 4 * r + 3) (omega arith) (omega arith) ∙ holds.word_3;
    }

-- Keeping: what records below t stand for stays while their words do, and the cells of the places that are there in e. All that a record speaks of
-- stands in it and in earlier ones: with t one more than the record, nothing above it matters.
module _
    (file : List ℕ) (o : Declarations) (w w' : List ℕ) (base t : ℕ) (cell cell' : Place → ℕ) (e : Parts) (same : Same w w' base t) (cells : (q : Place) → There (at e q) → cell' q ≡ cell q)
  where
    pub env_kept : {r : ℕ} {env : Env} → r < t → EnvAt file o w base cell r env → EnvIn e env → EnvAt file o w' base cell' r env
    env_kept below empty_at there = empty_at
    env_kept below (operands_at_law holds a<r b<r n outer inner code) there =
        operands_at_law (holds_kept w w' base t same below holds) a<r b<r n (env_kept (omega arith) outer there.0) (env_kept (omega arith) inner there.1) code
    env_kept below (parts_at {row = row} holds a<r n outer parts) there =
        parts_at (holds_kept w w' base t same below holds) a<r n (env_kept (omega arith) outer there.0) (λ j j<k. cells (part_of row j) (there.1 j j<k) ∙ parts j j<k)

    pub frames_kept : {f : ℕ} {fs : List Frame} → FrameBelow f t → FramesAt file o w base cell f fs → FramesIn e fs → FramesAt file o w' base cell' f fs
    frames_kept below none_at there = none_at
    frames_kept below (waiting_at holds small a<r f<r code env rest) there =
        waiting_at (holds_kept w w' base t same (omega arith) holds) small a<r f<r code (env_kept (omega arith) env there.0) (frames_kept (omega arith, f<r.1) rest there.1)
    frames_kept below (fields_at holds small a<r f<r many code env rest) there =
        fields_at (holds_kept w w' base t same (omega arith) holds) small a<r f<r many code (env_kept (omega arith) env there.0) (frames_kept (omega arith, f<r.1) rest there.1)

    -- the record that the control names is one of those, or it names none
    pub state_kept :
        {c : Control} {f : ℕ} {s : State} → environment_of c < t → FrameBelow f t → StateAt file o w base cell c f s → StateIn e s
        → StateAt file o w' base cell' c f s
    state_kept below f<t (evaluating_at code env frames) there = evaluating_at code (env_kept below env there.0) (frames_kept f<t frames there.1)
    state_kept below f<t (inspecting_at {q = q} is frames) there = inspecting_at (cells q there.0 ∙ is) (frames_kept f<t frames there.1)
    state_kept below f<t missing_at there = missing_at

    -- Adding: record t is written behind them, as operands, as input parts, or as a waiting case.
    pub operands_added :
        {a b i n : ℕ} {outer inner : Env} {es : Exprs} → RecordIs w' base t a n i (suc b) → a < t → b < t → n ≡ size outer + count es
        → EnvAt file o w base cell a outer → EnvIn e outer → EnvAt file o w base cell b inner → EnvIn e inner → CodeAll file o i es
        → EnvAt file o w' base cell' t (operands outer es inner)
    operands_added holds a<t b<t n outer outer-in inner inner-in code =
        operands_at_law holds a<t b<t n (env_kept a<t outer outer-in) (env_kept b<t inner inner-in) code

    pub parts_added :
        {a x n k : ℕ} {outer : Env} {row : Row} → RecordIs w' base t a n x 0 → a < t → n ≡ size outer + k
        → EnvAt file o w base cell a outer → EnvIn e outer → ((j : ℕ) → j < k → cell' (part_of row j) ≡ x + j)
        → EnvAt file o w' base cell' t (input_parts outer row k)
    parts_added holds a<t n outer outer-in parts = parts_at holds a<t n (env_kept a<t outer outer-in) parts

    pub waiting_added :
        {i a f : ℕ} {alts : Alternatives} {env : Env} {fs : List Frame} → RecordIs w' base t i 0 a f → t < no_case → a < t → FrameBelow f t
        → CodeAlternatives file o i alts → EnvAt file o w base cell a env → EnvIn e env → FramesAt file o w base cell f fs → FramesIn e fs
        → FramesAt file o w' base cell' t (waiting alts env ∷ fs)
    waiting_added holds small a<t f<t code env env_in frames frames_in =
        waiting_at holds small a<t f<t code (env_kept a<t env env_in) (frames_kept f<t frames frames_in)

    pub fields_added :
        {i n a f : ℕ} {x : Expr} {xs : Exprs} {env : Env} {fs : List Frame} → RecordIs w' base t i n a f → t < no_case → a < t → FrameBelow f t → n ≡ suc (count xs)
        → CodeAll file o i (x ∷ₑ xs) → EnvAt file o w base cell a env → EnvIn e env → FramesAt file o w base cell f fs → FramesIn e fs
        → FramesAt file o w' base cell' (no_case + t) (fields x xs env ∷ fs)
    fields_added holds small a<t f<t many code env env_in frames frames_in =
        fields_at holds small a<t f<t many code (env_kept a<t env env_in) (frames_kept f<t frames frames_in)

-- Variables.

-- a variable is outside a group, or in it or past it
by_group : {A : Type 0} (n m : ℕ) → (n < m → A) → (m ≤ n → A) → A
by_group {A} n m below past = go (ltb n m) refl
  where
    go : (t : Bool) → ltb n m ≡ t → A
    go true is = below (ltb-true n m is)
    go false is = past (ltb-false n m is)

nth_there : (es : Exprs) (j : ℕ) → j < count es → (e : Expr) × (nth_expr es j ≡ some e)
unfolding nth_expr count
nth_there []ₑ j known = absurd (clash (omega arith))
nth_there (e ∷ₑ es) zero known = (e, refl)
nth_there (e ∷ₑ es) (suc j) known = nth_there es j (omega arith)

-- a variable in view stands for something
pub lookup_there : (env : Env) (n : ℕ) → n < size env → (x : Closure) × (lookup env n ≡ some x)
unfolding lookup size suspend
lookup_there empty n known = absurd (clash (omega arith))
lookup_there (operands outer es inner) n known =
    by_group n (size outer)
    (λ out. let found = lookup_there outer n out in (found.0, rw (lt-ltb n (size outer) out) found.1))
    (λ past. let found = nth_there es (n - size outer) (omega arith) in (suspended found.0 inner, rw (le-ltb n (size outer) past, found.1)))
lookup_there (input_parts outer row k) n known =
    by_group n (size outer)
    (λ out. let found = lookup_there outer n out in (found.0, rw (lt-ltb n (size outer) out) found.1))
    (λ past. (input_part (part_of row (n - size outer)), rw (le-ltb n (size outer) past, lt-ltb (n - size outer) k (omega arith))))

-- what a variable of a group stands for, if anything
suspended_some : (y : Option Expr) (inner : Env) (x : Closure) → suspend y inner ≡ some x → (e : Expr) × (y ≡ some e) × (suspended e inner ≡ x)
unfolding suspend
suspended_some none inner x is = absurd (clash (cc))
suspended_some (some e) inner x is = (e, refl, cc)

part_some : (j k : ℕ) (row : Row) (x : Closure) → pick (ltb j k) (some (input_part (part_of row j))) none ≡ some x → (j < k) × (input_part (part_of row j) ≡ x)
part_some j k row x is = by_group j k (λ below. (below, cc (lt-ltb j k below))) (λ past. absurd (clash (cc (le-ltb j k past))))

module _ (file : List ℕ) (o : Declarations) (w : List ℕ) (base : ℕ) (cell : Place → ℕ) where
  found_outside : {r a m i d : ℕ} {x : Closure} → RecordIs w base r a m i d → a < r → (n : ℕ) → n < record_word w base a 1 → VariableAt file o w base cell n a x → VariableAt file o w base cell n r x
  found_outside {r} {x = x} holds a<r n below rest = outside {r = r} {x = x} (rw holds.word_0 a<r) (rw holds.word_0 below) (rw holds.word_0 rest)

  -- One step of the walk, by the words that it looks at. The record outside is an earlier one.
  pub variable_outer : (n r : ℕ) (x : Closure) → VariableAt file o w base cell n r x → record_word w base r 0 < r
  variable_outer n r x (outside a<r below rest) = a<r
  variable_outer n r x (in_parts a<r past mark is) = a<r
  variable_outer n r x (in_operands a<r past mark b<r inner operand) = a<r

  pub variable_outside : (n r : ℕ) (x : Closure) → VariableAt file o w base cell n r x → n < outside_of w base r → VariableAt file o w base cell n (record_word w base r 0) x
  variable_outside n r x (outside a<r below rest) out = rest
  variable_outside n r x (in_parts a<r past mark is) out = absurd (clash (omega arith))
  variable_outside n r x (in_operands a<r past mark b<r inner operand) out = absurd (clash (omega arith))

  pub variable_part :
      (n r : ℕ) (x : Closure) → VariableAt file o w base cell n r x → outside_of w base r ≤ n → record_word w base r 3 ≡ 0
      → (q : Place) × (x ≡ input_part q) × (cell q ≡ record_word w base r 2 + (n - outside_of w base r))
  variable_part n r x (outside a<r below rest) here zero-mark = absurd (clash (omega arith))
  variable_part n r x (in_parts {q = q} a<r past mark is) here zero-mark = (q, refl, is)
  variable_part n r x (in_operands a<r past mark b<r inner operand) here zero-mark = absurd (clash (omega arith))

  pub variable_operand :
      (n r : ℕ) (x : Closure) → VariableAt file o w base cell n r x → outside_of w base r ≤ n → (record_word w base r 3 ≡ 0 → ⊥)
      → (e : Expr) × (inner : Env) × (x ≡ suspended e inner) × (record_word w base r 3 - 1 < r) × EnvAt file o w base cell (record_word w base r 3 - 1) inner
      × OperandAt file o (record_word w base r 2) (n - outside_of w base r) e
  variable_operand n r x (outside a<r below rest) here other = absurd (clash (omega arith))
  variable_operand n r x (in_parts a<r past mark is) here other = absurd (other mark)
  variable_operand n r x (in_operands {b = b} {e = e} {inner = env} a<r past mark b<r inner operand) here other =
      let z : record_word w base r 3 - 1 ≡ b = omega arith in
      (e, env, refl, omega arith, rw z inner, operand)

  -- where record 0 is empty, the count word of each environment is its number of variables in view
  module _ (zeros : RecordIs w base 0 0 0 0 0) where
    pub count_word : {r : ℕ} {env : Env} → EnvAt file o w base cell r env → record_word w base r 1 ≡ size env
    unfolding size
    count_word empty_at = zeros.word_1
    count_word (operands_at_law holds a<r b<r n outer inner code) = holds.word_1 ∙ n
    count_word (parts_at holds a<r n outer parts) = holds.word_1 ∙ n

    -- what the environment of a record gives a variable is what the walk finds
    pub variable_at_law : {r : ℕ} {env : Env} (n : ℕ) (x : Closure) → EnvAt file o w base cell r env → lookup env n ≡ some x → VariableAt file o w base cell n r x
    unfolding lookup
    variable_at_law n x empty_at is = absurd (clash (cc))
    variable_at_law {r} n x (operands_at_law {i = i} {outer = out} {inner = in'} {es = es} holds a<r b<r many outer inner code) is =
        let view : outside_of w base r ≡ size out = rw holds.word_0 (count_word outer) in
        by_group n (size out)
        (λ below. found_outside holds a<r n (rw (count_word outer) below) (variable_at_law n x outer (rw (lt-ltb n (size out) below) at is)))
        (λ past.
        let found = suspended_some (nth_expr es (n - size out)) in' x (rw (le-ltb n (size out) past) at is) in
        subst (VariableAt file o w base cell n r) found.2
        (in_operands {r = r} (rw holds.word_0 a<r) (rw view past) holds.word_3 b<r inner
        (rw (holds.word_2, view) (operand_at file o i (n - size out) es found.0 code found.1))))
    variable_at_law {r} n x (parts_at {k = k} {outer = out} {row = row} holds a<r many outer parts) is =
        let view : outside_of w base r ≡ size out = rw holds.word_0 (count_word outer) in
        by_group n (size out)
        (λ below. found_outside holds a<r n (rw (count_word outer) below) (variable_at_law n x outer (rw (lt-ltb n (size out) below) at is)))
        (λ past.
        let found = part_some (n - size out) k row x (rw (le-ltb n (size out) past) at is) in
        subst (VariableAt file o w base cell n r) found.1
        (in_parts {r = r} (rw holds.word_0 a<r) (rw view past) holds.word_3 (rw (holds.word_2, view) (parts (n - size out) found.0))))
