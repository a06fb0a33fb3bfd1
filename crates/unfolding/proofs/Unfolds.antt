-- A call, a let, a case and a target: what the words stand for after the step.
-- Rests on Kept, on machine's Codes and on reach's Eval.
use Prim.Native.Nat.{ℕ, zero, suc, ◌+◌, ◌≤◌, ◌<◌}
use mathlib.Core.Path.{◌≡◌, refl, sym, ◌∙◌, ap, subst}
use mathlib.Core.List.{List, [], ◌∷◌, map}
use mathlib.Core.Option.{some, some-injective, none-ne-some}
use native.Mathlib.Omega.{arith}
use lib.Dec.{eqb}
use lib.ListN.{length, get_or, get_elem?}
use borrow.Author.Tests.{eq-eqb, ne_eqb}
use Rattle.reach.specs.Base.{pick}
use Rattle.reach.specs.Syntax.{Expr, call, case, let_in, target, Exprs, []ₑ, ◌∷ₑ◌, count, Alternatives, Function, Program, function_at}
use Rattle.reach.specs.Parts.{Parts}
use Rattle.reach.specs.Eval as Eval
use Rattle.reach.specs.Eval.{Env, empty, operands, size, Frame, waiting, State, enter, view, answer, next}
use Rattle.reach.specs.RuleFile.{Head}
use Rattle.reach.specs.Places.{head_at, declarations_at}
use Rattle.lookups.specs.declared.Head as Looked
use Rattle.lookups.specs.Heads.{head_of}
use Rattle.lookups.proofs.Tables.{parameters_many}
use Rattle.machine.specs.Cells.{cell_of}
use Rattle.machine.specs.Records.{record_word, Code, empty_at, evaluating_at, Wrote}
use Rattle.machine.proofs.Codes.{code_call, code_let, code_one, code_case, code_target}
use Rattle.machine.proofs.Records.{count_word}
use Rattle.registers.specs.declared.Registers.{Registers}
use Rattle.registers.specs.declared.Next.{Next}
use Rattle.registers.specs.Stepping.{declarations_of, FileOf, StandsFor, Ready, Leads, Stepped, StepMeans, PassedOver, expression_kind}
use Rattle.machine.proofs.Words.{nothing_written}
use Rattle.registers.proofs.Which.{when_call, when_let, when_case, when_target}
use Rattle.registers.proofs.Kept.{Met, StepsAt, steps_by, env_there, frames_there, operands_there, waiting_there, few_added}

-- what a mapped list holds at a number is the image of what stands there
mapped : {A B : Type 0} (f : A → B) (xs : List A) (d : A) (n : ℕ) (y : B) → get_elem? (map f xs) n ≡ some y → (n < length xs) × (f (get_or xs n d) ≡ y)
mapped f [] d n y is = absurd (none-ne-some y is)
mapped f (x ∷ xs) d zero y is = (omega arith, some-injective (f x) y is)
mapped f (x ∷ xs) d (suc n) y is = let rest = mapped f xs d n y is in (omega (arith, rest.0), rest.1)

-- A call.

module _ (file types functions : List ℕ) where
  -- a called function is one of the table, and takes as many operands as its record says
  called :
      (f : ℕ) (es : Exprs) (h : Head) → get_elem? (declarations_of file types functions).heads f ≡ some h → count es ≡ length h.parameters
      → (f < length functions) × (count es ≡ length (head_at file (get_or functions f 0)).parameters)
  unfolding declarations_at
  called f es h is many =
      let known = mapped (head_at file) functions 0 f h is in
      (known.0, many ∙ ap (λ (g : Head). length g.parameters) (sym known.1))

call_next :
    (p : Program) (e : Parts) (f : ℕ) (es : Exprs) (env : Env) (fs : List Frame) (g : Function) → function_at p f ≡ some g
    → next p e (Eval.evaluating (call f es) env fs) ≡ Eval.goes (Eval.evaluating g.body (operands empty es env) fs)
unfolding next answer view enter
call_next p e f es env fs g is = rw is

module _
    (file functions w w' : List ℕ) (base i env : ℕ) (r : Registers) (head : Looked.Head) (ready : Ready file w base r 1 i env)
    (is : head_of file head ≡ head_at file (get_or functions (get_or file (i + 1) 0) 0)) (small : head.parameters.count ≤ 255)
    (wrote : Wrote w w' base r.records 0 head.parameters.count (i + 2) (env + 1))
  where
    call_after : Registers
    call_after = record { kind = expression_kind; place = head.body; env = r.records; frame = r.frame; records = r.records + 1 }

    call_follows :
        (types : List ℕ) (p : Program) (cells : ℕ) (e : Parts) (s : State) → FileOf file types functions p → StandsFor file types functions p w base cells r e s
        → (f : ℕ) (es : Exprs) (env' : Env) (fs : List Frame) → Met file types functions w base i env r p e (call f es) env' fs
        → StepMeans file types functions w w' base r p e (Eval.evaluating (call f es) env' fs) (Next.Goes call_after)
    unfolding size call_after
    call_follows types p cells e s file_of stands f es env' fs met =
        let bytes = code_call file (declarations_of file types functions) i f es met.code in
        let arity = met.code.1 in
        let known = called file types functions f es arity.0 arity.1 arity.2 in
        let there = file_of.function_there f known.0 in
        let here : head_of file head ≡ head_at file (get_or functions f 0) = is ∙ ap (λ (k : ℕ). head_at file (get_or functions k 0)) bytes.1.1 in
        let many : head.parameters.count ≡ count es = sym (known.1 ∙ parameters_many file head here) in
        let body : (head_at file (get_or functions f 0)).body ≡ head.body = ap (λ (g : Head). g.body) (sym here) in (
          Eval.evaluating there.0.body (operands empty es env') fs,
          call_next p e f es env' fs there.0 there.1,
          record {
            state = evaluating_at (subst (λ (k : ℕ). Code file (declarations_of file types functions) k there.0.body) body there.2)
                (operands_there stands wrote.only_top wrote.holds ready.space.some_record ready.environment_there (omega arith) empty_at tt met.env_at met.env_in bytes.2)
                (frames_there stands wrote.only_top ready.space.frame_below met.frames_at met.frames_in);
            environment_below = omega arith;
            frame_below = (omega (arith, ready.space.frame_below.0), ready.space.frame_below.1);
            no_fewer = omega arith;
            one_more = omega arith;
            few = few_added ready.space.few wrote (omega (arith, ready.space.some_record));
          },
        )

    pub call_leads :
        (types : List ℕ)
        → Leads file types functions w w' base r (record { kind = expression_kind; place = head.body; env = r.records; frame = r.frame; records = r.records + 1 })
    unfolding call_after
    call_leads types = record {
      only_top = wrote.only_top;
      steps = λ p cells e s file_of stands.
          steps_by file types functions w w' base i env r p e (Next.Goes call_after) ready stands
          (λ x coded. when_call (StepsAt file types functions w w' base i env r p e (Next.Goes call_after)) coded (λ f es. call_follows types p cells e s file_of stands f es));
    }

-- A let.

let_next :
    (p : Program) (e : Parts) (t : ℕ) (y b : Expr) (env : Env) (fs : List Frame)
    → next p e (Eval.evaluating (let_in t y b) env fs) ≡ Eval.goes (Eval.evaluating b (operands env (y ∷ₑ []ₑ) env) fs)
unfolding next answer view
let_next p e t y b env fs = refl

module _
    (file types functions w w' : List ℕ) (base i env : ℕ) (r : Registers) {body seen : ℕ} (ready : Ready file w base r 4 i env)
    (found : PassedOver file types functions (i + 2) body)
    (is_seen : seen ≡ record_word w base env 1) (wrote : Wrote w w' base r.records env (seen + 1) (i + 2) (env + 1))
  where
    let_after : Registers
    let_after = record { kind = expression_kind; place = body; env = r.records; frame = r.frame; records = r.records + 1 }

    let_follows :
        (p : Program) (cells : ℕ) (e : Parts) (s : State) → StandsFor file types functions p w base cells r e s
        → (t : ℕ) (y b : Expr) (env' : Env) (fs : List Frame) → Met file types functions w base i env r p e (let_in t y b) env' fs
        → StepMeans file types functions w w' base r p e (Eval.evaluating (let_in t y b) env' fs) (Next.Goes let_after)
    unfolding count let_after
    let_follows p cells e s stands t y b env' fs met =
        let at = code_let file (declarations_of file types functions) i t y b met.code in
        let many = count_word file (declarations_of file types functions) w base (cell_of w) stands.zeros met.env_at in (
          Eval.evaluating b (operands env' (y ∷ₑ []ₑ) env') fs,
          let_next p e t y b env' fs,
          record {
            state = evaluating_at (at.3 body (found y at.2))
                (operands_there stands wrote.only_top wrote.holds ready.environment_there ready.environment_there (omega (arith, is_seen, many)) met.env_at met.env_in met.env_at met.env_in
                (code_one file (declarations_of file types functions) (i + 2) y at.2))
                (frames_there stands wrote.only_top ready.space.frame_below met.frames_at met.frames_in);
            environment_below = omega arith;
            frame_below = (omega (arith, ready.space.frame_below.0), ready.space.frame_below.1);
            no_fewer = omega arith;
            one_more = omega arith;
            few = few_added ready.space.few wrote (omega (arith, is_seen, ready.environment_there, ready.space.few env ready.environment_there));
          },
        )

    pub let_leads : Leads file types functions w w' base r (record { kind = expression_kind; place = body; env = r.records; frame = r.frame; records = r.records + 1 })
    unfolding let_after
    let_leads = record {
      only_top = wrote.only_top;
      steps = λ p cells e s file_of stands.
          steps_by file types functions w w' base i env r p e (Next.Goes let_after) ready stands
          (λ x coded. when_let (StepsAt file types functions w w' base i env r p e (Next.Goes let_after)) coded (λ t y b. let_follows p cells e s stands t y b));
    }

-- A case.

case_next :
    (p : Program) (e : Parts) (t : ℕ) (y : Expr) (alts : Alternatives) (env : Env) (fs : List Frame)
    → next p e (Eval.evaluating (case t y alts) env fs) ≡ Eval.goes (Eval.evaluating y env (waiting alts env ∷ fs))
unfolding next answer view
case_next p e t y alts env fs = refl

module _
    (file types functions w w' : List ℕ) (base i env : ℕ) (r : Registers) {alternatives : ℕ} (ready : Ready file w base r 3 i env)
    (found : PassedOver file types functions (i + 2) alternatives) (wrote : Wrote w w' base r.records alternatives 0 env r.frame)
  where
    case_after : Registers
    case_after = record { kind = expression_kind; place = i + 2; env = env; frame = r.records; records = r.records + 1 }

    case_follows :
        (p : Program) (cells : ℕ) (e : Parts) (s : State) → StandsFor file types functions p w base cells r e s
        → (t : ℕ) (y : Expr) (alts : Alternatives) (env' : Env) (fs : List Frame) → Met file types functions w base i env r p e (case t y alts) env' fs
        → StepMeans file types functions w w' base r p e (Eval.evaluating (case t y alts) env' fs) (Next.Goes case_after)
    unfolding case_after
    case_follows p cells e s stands t y alts env' fs met =
        let at = code_case file (declarations_of file types functions) i t y alts met.code in (
          Eval.evaluating y env' (waiting alts env' ∷ fs),
          case_next p e t y alts env' fs,
          record {
            state = evaluating_at at.2 (env_there stands wrote.only_top ready.environment_there met.env_at met.env_in)
                (waiting_there stands wrote.only_top wrote.holds ready.environment_there ready.space.frame_below (at.3 alternatives (found y at.2))
                met.env_at met.env_in met.frames_at met.frames_in);
            environment_below = omega (arith, ready.environment_there);
            frame_below = (omega arith, omega (arith, ready.space.room, ready.space.narrow));
            no_fewer = omega arith;
            one_more = omega arith;
            few = few_added ready.space.few wrote (omega (arith, ready.space.some_record));
          },
        )

    pub case_leads : Leads file types functions w w' base r (record { kind = expression_kind; place = i + 2; env = env; frame = r.records; records = r.records + 1 })
    unfolding case_after
    case_leads = record {
      only_top = wrote.only_top;
      steps = λ p cells e s file_of stands.
          steps_by file types functions w w' base i env r p e (Next.Goes case_after) ready stands
          (λ x coded. when_case (StepsAt file types functions w w' base i env r p e (Next.Goes case_after)) coded (λ t y alts. case_follows p cells e s stands t y alts));
    }

-- A target.

target_next :
    (p : Program) (e : Parts) (l : ℕ) (y : Expr) (env : Env) (fs : List Frame)
    → next p e (Eval.evaluating (target l y) env fs) ≡ answer e (pick (eqb l p.label) Eval.demands (Eval.goes (Eval.evaluating y env fs)))
unfolding next view
target_next p e l y env fs = refl

module _ (file types functions w : List ℕ) (base label i env : ℕ) (r : Registers) (ready : Ready file w base r 5 i env) where
  -- what is right at every target is right
  target_steps :
      (n : Next)
      → ((p : Program) (e : Parts) → label ≡ p.label → (l : ℕ) (y : Expr) → StepsAt file types functions w w base i env r p e n (target l y))
      → Stepped file types functions w w base label r n
  target_steps n means = record {
    only_top = nothing_written w base r.records;
    steps = λ p sought cells e s file_of stands.
        steps_by file types functions w w base i env r p e n ready stands
        (λ x coded. when_target (StepsAt file types functions w w base i env r p e n) coded (means p e sought));
  }

  pub target_demands : get_or file (i + 1) 0 ≡ label → Stepped file types functions w w base label r Next.Demands
  unfolding answer
  target_demands is = target_steps Next.Demands (λ p e sought l y env' fs met.
      let at = code_target file (declarations_of file types functions) i l y met.code in
      let same : l ≡ p.label = cc at.1.1 in
      rw (target_next, eq-eqb l p.label same))

  pub target_goes :
      (get_or file (i + 1) 0 ≡ label → ⊥)
      → Stepped file types functions w w base label r (Next.Goes (record { kind = expression_kind; place = i + 2; env = env; frame = r.frame; records = r.records }))
  unfolding answer
  target_goes other = target_steps (Next.Goes (record { kind = expression_kind; place = i + 2; env = env; frame = r.frame; records = r.records })) (λ p e sought l y env' fs met.
      let at = code_target file (declarations_of file types functions) i l y met.code in (
        Eval.evaluating y env' fs,
        rw (target_next, ne_eqb l p.label (λ same. other (at.1.1 ∙ (same ∙ sym sought)))),
        record {
          state = evaluating_at at.2 met.env_at met.frames_at;
          environment_below = ready.environment_there;
          frame_below = ready.space.frame_below;
          no_fewer = omega arith;
          one_more = omega arith;
          few = ready.space.few;
        },
      ))
