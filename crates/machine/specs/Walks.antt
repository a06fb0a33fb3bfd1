-- What the steps find by passing over what stands before it: the operand of a number, the alternative of a constructor, and, outward from an
-- environment's record, the group of a variable. One turn of a loop is one constructor.
-- Rests on Records and on reach's Encoding and Eval.
use Rattle.std.specs.Prelude.{ℕ, zero, suc, ◌+◌, ◌-◌, ◌≤◌, ◌<◌, ◌≡◌, List}
use Rattle.reach.specs.Limits.{nesting_limit}
use Rattle.reach.specs.Syntax.{Expr}
use Rattle.reach.specs.Parts.{Place}
use Rattle.reach.specs.Reader.{got}
use Rattle.reach.specs.RuleFile.{Declarations}
use Rattle.reach.specs.Encoding.{ByteAt, skipped}
use Rattle.reach.specs.Eval.{Env, Closure, suspended, input_part, Frame, State, evaluating, uncovered}
use Rattle.machine.specs.Records.{record_word, Code, EnvAt}

module _ (file : List ℕ) (o : Declarations) where
  -- passing over the expression at i leads to next
  abbrev pub Behind : ℕ → ℕ → Type 0
  Behind i next = skipped o nesting_limit file i ≡ got tt next

  -- The operand of number j, of operands that begin at i: j expressions are passed over.
  pub data OperandAt : ℕ → ℕ → Expr → Type 0 where
    this_operand : {i : ℕ} {e : Expr} → Code file o i e → OperandAt i zero e
    later_operand : {i j : ℕ} {e : Expr} (x : Expr) → Code file o i x → ((next : ℕ) → Behind i next → OperandAt next j e) → OperandAt i (suc j) e

  -- The alternative of constructor c, of alternatives that begin at i: c of them are passed over. The state is the one that the case goes on to.
  module _ (env : Env) (fs : List Frame) where
    pub data ChosenAt : ℕ → ℕ → State → Type 0 where
      none_chosen : {i : ℕ} → ByteAt file i 0 → ChosenAt i zero uncovered
      this_chosen : {i : ℕ} (e : Expr) → ByteAt file i 1 → Code file o (i + 1) e → ChosenAt i zero (evaluating e env fs)
      past_absent : {i c : ℕ} {s : State} → ByteAt file i 0 → ChosenAt (i + 1) c s → ChosenAt i (suc c) s
      past_present :
          {i c : ℕ} {s : State} (e : Expr) → ByteAt file i 1 → Code file o (i + 1) e → ((next : ℕ) → Behind (i + 1) next → ChosenAt next c s)
          → ChosenAt i (suc c) s

-- how many variables are in view outside the group of record r
abbrev pub outside_of : List ℕ → ℕ → ℕ → ℕ
outside_of w base r = record_word w base (record_word w base r 0) 1

module _ (file : List ℕ) (o : Declarations) (w : List ℕ) (base : ℕ) (cell : Place → ℕ) where
  -- The walk outward from record r to the group of variable n, and what the variable stands for: an input part, in the cell of its number in the
  -- group, or the operand of that number.
  pub data VariableAt (n : ℕ) : ℕ → Closure → Type 0 where
    outside : {r : ℕ} {x : Closure} → record_word w base r 0 < r → n < outside_of w base r → VariableAt n (record_word w base r 0) x → VariableAt n r x
    in_parts :
        {r : ℕ} {q : Place} → record_word w base r 0 < r → outside_of w base r ≤ n → record_word w base r 3 ≡ 0
        → cell q ≡ record_word w base r 2 + (n - outside_of w base r) → VariableAt n r (input_part q)
    in_operands :
        {r b : ℕ} {e : Expr} {inner : Env} → record_word w base r 0 < r → outside_of w base r ≤ n → record_word w base r 3 ≡ suc b → b < r
        → EnvAt file o w base cell b inner → OperandAt file o (record_word w base r 2) (n - outside_of w base r) e → VariableAt n r (suspended e inner)
