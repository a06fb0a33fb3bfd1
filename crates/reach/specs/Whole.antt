-- The whole result in the words of 000, section 3.4: the unit-evaluator, which comes to a constructor with unevaluated children or to a part of the
-- input, is applied again to each child, from left to right and depth first. proofs/Whole.antt shows that `run` is this, with its steps.
-- Rests on Eval.
use Rattle.std.specs.Prelude.{ℕ, zero, suc, [], ◌∷◌}
use Rattle.std.proofs.Math.Option.{Option, none, some}
use Rattle.reach.specs.Syntax.{Expr, Exprs, []ₑ, ◌∷ₑ◌, Program, where_construct}
use Rattle.reach.specs.Parts.{Parts}
use Rattle.reach.specs.Eval.{Env, empty, State, evaluating, inspecting, uncovered, stuck, value, on_next, next, Run, reached, ended, unfinished, missing, halted, conclude, start}

-- What an evaluation came to, with so many steps left and done; or it stopped.
pub data Came (A : Type 0) : Type 0 where
  came : A → ℕ → ℕ → Came A
  stopped : Run → Came A

-- and from there on
unfoldable pub and_then : {A B : Type 0} → Came A → (A → ℕ → ℕ → Came B) → Came B
and_then (came a left n) on = on a left n
and_then (stopped r) on = stopped r

-- the children of the result that a state is, if it is one: of a construction its fields, in their environment; of a part of the input, which is not gone
-- into, none
unfoldable pub children_of : State → Option (Exprs × Env)
children_of (evaluating e env []) = where_construct (λ t c es. some (es, env)) none e
children_of (evaluating e env (f ∷ fs)) = none
children_of (inspecting q []) = some ([]ₑ, empty)
children_of (inspecting q (f ∷ fs)) = none
children_of uncovered = none
children_of stuck = none

-- by what a state is: something for a result with its children, or for any other state
abbrev pub on_result : {A : Type 0} → A → ((Exprs × Env) → A) → Option (Exprs × Env) → A
on_result other result none = other
on_result other result (some c) = result c

module _ (p : Program) (i : Parts) where
  -- the unit-evaluator: steps up to a result
  unfoldable pub unit_eval : ℕ → ℕ → State → Came (Exprs × Env)
  unit_eval zero n s = on_result (stopped (conclude (λ s'. unfinished n) (λ q. unfinished n) n (next p i s))) (λ c. came c zero n) (children_of s)
  unit_eval (suc left) n s =
      on_result
      (on_next (stopped (reached n)) (stopped (missing n)) (λ why. stopped (ended why n)) (λ s'. unit_eval left (suc n) s') (λ q. stopped (halted q.place n)) (next p i s))
      (λ c. came c (suc left) n)
      (children_of s)

  -- each of the children in turn; turning to one costs a step
  unfoldable pub in_turn : (Expr → Env → ℕ → ℕ → Came (Unit {0})) → Exprs → Env → ℕ → ℕ → Came (Unit {0})
  in_turn whole []ₑ env left n = came tt left n
  in_turn whole (e ∷ₑ es) env zero n = stopped (unfinished n)
  in_turn whole (e ∷ₑ es) env (suc left) n = and_then (whole e env left (suc n)) (λ x left' n'. in_turn whole es env left' n')

  -- a state's result, then its children, by what evaluates one of them
  unfoldable pub whole_by : (Expr → Env → ℕ → ℕ → Came (Unit {0})) → ℕ → ℕ → State → Came (Unit {0})
  whole_by whole left n s = and_then (unit_eval left n s) (λ c left' n'. in_turn whole c.0 c.1 left' n')

  -- the whole result of an expression, constructors one inside another at most so many deep. (Each level costs a step, so as many levels as steps are enough.)
  unfoldable pub whole : ℕ → Expr → Env → ℕ → ℕ → Came (Unit {0})
  whole zero e env left n = stopped (unfinished n)
  whole (suc levels) e env left n = whole_by (whole levels) left n (evaluating e env [])

abbrev pub end_of : Came (Unit {0}) → Run
end_of (came x left n) = ended value n
end_of (stopped r) = r

-- the source's whole result
unfoldable pub whole_run : Program → Parts → Run
whole_run p i = end_of (whole_by p i (whole p i p.steps) p.steps 0 (start p))
