-- A variable: the walk outward finds its group, and what the group's record says is what the variable stands for.
-- Rests on Kept, on machine's Records and Codes, and on reach's Eval.
use Prim.Native.Nat.{ℕ, ◌+◌, ◌-◌}
use mathlib.Core.Path.{◌≡◌, sym, ◌∙◌, ap, subst}
use mathlib.Core.List.{List}
use mathlib.Core.Option.{some}
use native.Mathlib.Omega.{arith}
use lib.ListN.{get_or}
use Rattle.reach.specs.Syntax.{Expr, variable, Program}
use Rattle.reach.specs.Parts.{Parts, Place}
use Rattle.reach.specs.Eval as Eval
use Rattle.reach.specs.Eval.{Env, Frame, State, Closure, suspended, input_part, lookup, resume, view, answer, next}
use Rattle.machine.specs.Cells.{cell_of}
use Rattle.machine.specs.Records.{record_word, EnvAt, evaluating_at, inspecting_at}
use Rattle.machine.proofs.Codes.{code_variable}
use Rattle.machine.specs.Walks.{VariableAt, outside_of}
use Rattle.machine.proofs.Records.{variable_at_law, variable_part, variable_operand}
use Rattle.registers.specs.declared.Registers.{Registers}
use Rattle.registers.specs.declared.Next.{Next}
use Rattle.registers.specs.Stepping.{declarations_of, StandsFor, Standing, Ready, Leads, VariableThere, Group, OperandIn, part_kind, expression_kind}
use Rattle.machine.proofs.Words.{nothing_written}
use Rattle.registers.proofs.Which.{when_variable}
use Rattle.registers.proofs.Kept.{Met, shown, StepsAt, steps_by}

-- what comes next at a variable, by what it stands for
part_next :
    (p : Program) (e : Parts) (n : ℕ) (env : Env) (fs : List Frame) (q : Place) → lookup env n ≡ some (input_part q)
    → next p e (Eval.evaluating (variable n) env fs) ≡ Eval.goes (Eval.inspecting q fs)
unfolding next answer view resume
part_next p e n env fs q is = rw is

operand_next :
    (p : Program) (e : Parts) (n : ℕ) (env : Env) (fs : List Frame) (y : Expr) (inner : Env) → lookup env n ≡ some (suspended y inner)
    → next p e (Eval.evaluating (variable n) env fs) ≡ Eval.goes (Eval.evaluating y inner fs)
unfolding next answer view resume
operand_next p e n env fs y inner is = rw is

module _ (file types functions w : List ℕ) (base i env : ℕ) (r : Registers) {n : ℕ} (ready : Ready file w base r 0 i env) (is-n : n ≡ get_or file (i + 1) 0) where
  -- what the variable stands for, and that the walk finds it
  found :
      (p : Program) (cells : ℕ) (e : Parts) (s : State) → StandsFor file types functions p w base cells r e s → (m : ℕ) (env' : Env) (fs : List Frame)
      → Met file types functions w base i env r p e (variable m) env' fs
      → (x : Closure) × (lookup env' m ≡ some x) × VariableAt file (declarations_of file types functions) w base (cell_of w) n env x
  found p cells e s stands m env' fs met =
      let bytes = code_variable file (declarations_of file types functions) i m met.code in
      let same : n ≡ m = is-n ∙ bytes.1.1 in
      let (x, is) = met.sound in
      (x, is, rw same (variable_at_law file (declarations_of file types functions) w base (cell_of w) stands.zeros m x met.env_at is))

  pub variable_there : Standing file types functions w base r → VariableThere w base n env
  variable_there standing =
      let p = standing.program in
      let e = standing.input in
      shown file types functions w base i env r p e (λ s. VariableThere w base n env) ready standing.stands
      (λ x env' fs coded met. when_variable (λ y. Met file types functions w base i env r p e y env' fs → VariableThere w base n env) coded
      (λ m met'. let there = found p standing.cells e standing.state standing.stands m env' fs met' in
      (file, declarations_of file types functions, cell_of w, there.0, there.2)) met)

  -- what is right at every variable is right
  variable_leads :
      (r' : Registers)
      → ((p : Program) (cells : ℕ) (e : Parts) (s : State) → StandsFor file types functions p w base cells r e s
      → (m : ℕ) → StepsAt file types functions w w base i env r p e (Next.Goes r') (variable m))
      → Leads file types functions w w base r r'
  variable_leads r' means = record {
    only_top = nothing_written w base r.records;
    steps = λ p cells e s file_of stands.
        steps_by file types functions w w base i env r p e (Next.Goes r') ready stands
        (λ x coded. when_variable (StepsAt file types functions w w base i env r p e (Next.Goes r')) coded (means p cells e s stands));
  }

  module _
      {group outside first inner : ℕ} (group-is : Group w base n env group) (is-outside : outside ≡ outside_of w base group)
      (is-first : first ≡ record_word w base group 2) (is-inner : inner ≡ record_word w base group 3)
    where
      -- a part of the input
      pub part_leads :
          inner ≡ 0 → Leads file types functions w w base r (record { kind = part_kind; place = first + (n - outside); env = 0; frame = r.frame; records = r.records })
      part_leads mark = variable_leads (record { kind = part_kind; place = first + (n - outside); env = 0; frame = r.frame; records = r.records }) (λ p cells e s stands m env' fs met.
          let there = found p cells e s stands m env' fs met in
          let at-group = group-is.outward file (declarations_of file types functions) (cell_of w) there.0 there.2 in
          let part = variable_part file (declarations_of file types functions) w base (cell_of w) n group there.0 at-group group-is.inside (sym is-inner ∙ mark) in (
            Eval.inspecting part.0 fs,
            part_next p e m env' fs part.0 (there.1 ∙ ap some part.1),
            record {
              state = inspecting_at (rw (is-first, is-outside) part.2) met.frames_at;
              environment_below = ready.space.some_record;
              frame_below = ready.space.frame_below;
              no_fewer = omega arith;
              one_more = omega arith;
              few = ready.space.few;
            },
          ))

      -- an operand, in the environment in which it stands
      pub operand_leads :
          {place : ℕ} → (inner ≡ 0 → ⊥) → OperandIn file types functions first (n - outside) place
          → Leads file types functions w w base r (record { kind = expression_kind; place = place; env = inner - 1; frame = r.frame; records = r.records })
      operand_leads {place} other placed = variable_leads (record { kind = expression_kind; place = place; env = inner - 1; frame = r.frame; records = r.records }) (λ p cells e s stands m env' fs met.
          let there = found p cells e s stands m env' fs met in
          let at-group = group-is.outward file (declarations_of file types functions) (cell_of w) there.0 there.2 in
          let (y, env'', is, before, env_at, operand) = variable_operand file (declarations_of file types functions) w base (cell_of w) n group there.0 at-group group-is.inside (λ zero-mark. other (is-inner ∙ zero-mark)) in (
            Eval.evaluating y env'' fs,
            operand_next p e m env' fs y env'' (there.1 ∙ ap some is),
            record {
              state = evaluating_at (placed y (rw (is-first, is-outside) operand)) (subst (λ (k : ℕ). EnvAt file (declarations_of file types functions) w base (cell_of w) (k - 1) env'') (sym is-inner) env_at) met.frames_at;
              environment_below = omega (arith, is-inner, before, group-is.no_later, ready.environment_there);
              frame_below = ready.space.frame_below;
              no_fewer = omega arith;
              one_more = omega arith;
              few = ready.space.few;
            },
          ))
