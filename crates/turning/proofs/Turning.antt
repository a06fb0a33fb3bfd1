-- With no case waiting: a field is turned to, one of the construction or the next that waits, or it is the end.
-- Rests on registers' Which and Kept, on machine's Codes and on reach's Eval.
use Prim.Native.Nat.{ℕ, suc, ◌+◌, ◌*◌, ◌≤◌, ◌<◌}
use mathlib.Core.Path.{◌≡◌, refl, sym, ◌∙◌}
use mathlib.Core.List.{List, [], ◌∷◌}
use native.Mathlib.Omega.{arith}
use lib.ListN.{get_or}
use Rattle.reach.specs.Syntax.{Expr, construct, Exprs, []ₑ, ◌∷ₑ◌, count, Program}
use Rattle.reach.specs.Parts.{Parts, Place}
use Rattle.reach.specs.Eval as Eval
use Rattle.reach.specs.Eval.{Env, Frame, waiting, fields, with_fields, State, view, answer, next}
use Rattle.reach.specs.Places.{declarations_at}
use Rattle.reach.specs.States.{EnvIn, FramesIn}
use Rattle.reach.proofs.Base.{clash}
use Rattle.machine.specs.Cells.{cell_of}
use Rattle.machine.specs.Records.{record_word, no_case, FrameBelow, Code, CodeAll, EnvAt, FramesAt, evaluating_at, OnlyTop}
use Rattle.machine.proofs.Codes.{code_next, code_construct}
use Rattle.registers.specs.declared.Registers.{Registers}
use Rattle.registers.specs.declared.Next.{Next}
use Rattle.lookups.specs.Fields.{FieldCount}
use Rattle.registers.specs.Stepping.{declarations_of, StandsFor, Standing, Ready, Follows, Stepped, StepMeans, Turned, to_last, to_next}
use Rattle.turning.specs.Turning.{FieldsFit, FitWords, GoesOn, at_the_end, to_field}
use Rattle.registers.proofs.Words.{few_kept}
use Rattle.registers.proofs.Which.{when_construct, when_no_frame, when_fields, when_no_case}
use Rattle.registers.proofs.Kept.{Met, shown, env_there, frames_there, fields_there, few_added}

-- What the words stand for after the turn.
module _
    {file types functions w w' : List ℕ} {base cells first k env frame : ℕ} {p : Program} {r : Registers} {e : Parts} {s : State} {x : Expr} {outer : Env} {fs : List Frame}
    (stands : StandsFor file types functions p w base cells r e s) (small : k ≤ 255 * r.records) (env<t : env < r.records) (frame<t : FrameBelow frame r.records)
    (env_at : EnvAt file (declarations_of file types functions) w base (cell_of w) env outer) (env_in : EnvIn e outer)
    (frames_at : FramesAt file (declarations_of file types functions) w base (cell_of w) frame fs) (frames_in : FramesIn e fs)
  where
    pub turned :
        {r' : Registers} (xs : Exprs) → k ≡ suc (count xs) → CodeAll file (declarations_of file types functions) first (x ∷ₑ xs)
        → Turned file types functions w w' base r first k env frame r' → Follows file types functions w' base r.records r' (Eval.evaluating x outer (with_fields xs outer fs))
    unfolding with_fields count
    turned []ₑ many code (to_last only one) = record {
      state = evaluating_at (code_next file (declarations_of file types functions) first x []ₑ code).0 (env_there stands only env<t env_at env_in) (frames_there stands only frame<t frames_at frames_in);
      environment_below = env<t;
      frame_below = frame<t;
      no_fewer = omega arith;
      one_more = omega arith;
      few = few_kept only stands.space.few;
    }
    turned (y ∷ₑ ys) many code (to_last only one) = absurd (clash (omega arith))
    turned []ₑ many code (to_next i wrote more passed) = absurd (clash (omega arith))
    turned (y ∷ₑ ys) many code (to_next i wrote more passed) =
        let (at, behind-it) = code_next file (declarations_of file types functions) first x (y ∷ₑ ys) code in
        record {
          state = evaluating_at at (env_there stands wrote.only_top env<t env_at env_in)
              (fields_there stands wrote.only_top wrote.holds env<t frame<t (omega arith) (behind-it i (passed x at)) env_at env_in frames_at frames_in);
          environment_below = omega arith;
          frame_below = (omega (arith, stands.space.room, stands.space.narrow), omega (arith, stands.space.room, stands.space.narrow));
          no_fewer = omega arith;
          one_more = omega arith;
          few = few_added stands.space.few wrote (omega (arith, stands.space.some_record));
        }

pub turned_only :
    {file types functions w w' : List ℕ} {base first k env frame : ℕ} {r r' : Registers} → Turned file types functions w w' base r first k env frame r' → OnlyTop w w' base r.records
turned_only (to_last only one) = only
turned_only (to_next i wrote more passed) = wrote.only_top

-- What comes next at a result with no case waiting.

construct_end : (p : Program) (e : Parts) (t c : ℕ) (env : Env) → next p e (Eval.evaluating (construct t c []ₑ) env []) ≡ Eval.stops Eval.value
unfolding next answer view
construct_end p e t c env = refl

construct_after :
    (p : Program) (e : Parts) (t c : ℕ) (env : Env) (y : Expr) (ys : Exprs) (outer : Env) (rest : List Frame)
    → next p e (Eval.evaluating (construct t c []ₑ) env (fields y ys outer ∷ rest)) ≡ Eval.goes (Eval.evaluating y outer (with_fields ys outer rest))
unfolding next answer view
construct_after p e t c env y ys outer rest = refl

construct_turns :
    (p : Program) (e : Parts) (t c : ℕ) (x : Expr) (xs : Exprs) (env : Env)
    → next p e (Eval.evaluating (construct t c (x ∷ₑ xs)) env []) ≡ Eval.goes (Eval.evaluating x env (with_fields xs env []))
unfolding next answer view
construct_turns p e t c x xs env = refl

construct_turns_first :
    (p : Program) (e : Parts) (t c : ℕ) (x : Expr) (xs : Exprs) (env : Env) (y : Expr) (ys : Exprs) (outer : Env) (rest : List Frame)
    → next p e (Eval.evaluating (construct t c (x ∷ₑ xs)) env (fields y ys outer ∷ rest)) ≡ Eval.goes (Eval.evaluating x env (with_fields xs env (fields y ys outer ∷ rest)))
unfolding next answer view
construct_turns_first p e t c x xs env y ys outer rest = refl

pub part_end : (p : Program) (e : Parts) (q : Place) → next p e (Eval.inspecting q []) ≡ Eval.stops Eval.value
unfolding next answer view
part_end p e q = refl

pub part_after :
    (p : Program) (e : Parts) (q : Place) (y : Expr) (ys : Exprs) (outer : Env) (rest : List Frame)
    → next p e (Eval.inspecting q (fields y ys outer ∷ rest)) ≡ Eval.goes (Eval.evaluating y outer (with_fields ys outer rest))
unfolding next answer view
part_after p e q y ys outer rest = refl

module _
    {file types functions w : List ℕ} {base cells : ℕ} {p : Program} {r : Registers} {e : Parts} {s : State} (stands : StandsFor file types functions p w base cells r e s)
  where
    -- the record of the frame is one of those there are
    record_there : {x : ℕ} → r.frame ≡ no_case + x → x < r.records
    record_there {x} is =
        let below = stands.space.frame_below in
        let small = stands.space.room in
        omega (arith, below.0, below.1)

    -- the words of the fields that wait
    pub fields_fit :
        {fs : List Frame} {x : ℕ} → FramesAt file (declarations_of file types functions) w base (cell_of w) r.frame fs → r.frame ≡ no_case + x → 0 < x → FitWords w base r x
    fields_fit {x = x} frames is some =
        when_fields (λ fs. FitWords w base r x) is some frames
        (λ y ys outer rest env<f next<f many code env_at frames_at.
        let below = record_there is in
        (omega (arith, many), omega (arith, below, stands.space.few x below), omega (arith, env<f, below), (omega (arith, next<f.0, below), next<f.1)))

    -- behind a result with nothing to go into
    pub after_result :
        {w' : List ℕ} {fs : List Frame} {n : Next} (S : List Frame → State) → next p e (S []) ≡ Eval.stops Eval.value
        → ((y : Expr) (ys : Exprs) (outer : Env) (rest : List Frame) → next p e (S (fields y ys outer ∷ rest)) ≡ Eval.goes (Eval.evaluating y outer (with_fields ys outer rest)))
        → FramesAt file (declarations_of file types functions) w base (cell_of w) r.frame fs → FramesIn e fs
        → GoesOn file types functions w w' base r n → StepMeans file types functions w w' base r p e (S fs) n
    after_result {w'} S end on frames frames_in (at_the_end none only) =
        when_no_frame (λ fs. StepMeans file types functions w w' base r p e (S fs) Next.Stops) none frames (Eval.value, end)
    after_result {w'} S end on frames frames_in (to_field {r'} x is some turns) =
        when_fields (λ fs. FramesIn e fs → StepMeans file types functions w w' base r p e (S fs) (Next.Goes r')) is some frames
        (λ y ys outer rest env<f next<f many code env_at frames_at in-input.
        let below = record_there is in (
          Eval.evaluating y outer (with_fields ys outer rest),
          on y ys outer rest,
          turned stands (omega (arith, below, stands.space.few x below)) (omega (arith, env<f, below)) (omega (arith, next<f.0, below), next<f.1) env_at in-input.0 frames_at in-input.1 ys many code turns,
        )) frames_in

pub goes_only : {file types functions w w' : List ℕ} {base : ℕ} {r : Registers} {n : Next} → GoesOn file types functions w w' base r n → OnlyTop w w' base r.records
goes_only (at_the_end none only) = only
goes_only (to_field x is some turns) = turned_only turns

-- the words of the frame are those of the fields that wait
pub goes_field :
    {file types functions w w' : List ℕ} {base first k env frame x : ℕ} {r r' : Registers} → r.frame ≡ no_case + x → 0 < x → first ≡ record_word w base x 0
    → k ≡ record_word w base x 1 → env ≡ record_word w base x 2 → frame ≡ record_word w base x 3
    → Turned file types functions w w' base r first k env frame r' → GoesOn file types functions w w' base r (Next.Goes r')
goes_field {x = x} {r' = r'} is some is-first is-k is-env is-frame turns = to_field {r' = r'} x is some (rw (← is-first, ← is-k, ← is-env, ← is-frame) turns)

-- A construction with no case waiting.
module _ (file types functions w : List ℕ) (base i env : ℕ) (r : Registers) (ready : Ready file w base r 2 i env) (no-case : no_case ≤ r.frame) where
  -- as many fields as the type's record says
  many_fields :
      {t' c' k : ℕ} (t c : ℕ) (es : Exprs) → t' ≡ get_or file (i + 1) 0 → c' ≡ get_or file (i + 2) 0 → FieldCount file types t' c' k
      → Code file (declarations_of file types functions) i (construct t c es) → k ≡ count es
  unfolding declarations_at
  many_fields t c es is-t is_c counts code =
      let bytes = code_construct file (declarations_of file types functions) i t c es code in
      let arity = code.1 in
      counts.0 arity.0 (rw (is-t ∙ bytes.1.1, is_c ∙ bytes.2.1) arity.1) ∙ sym arity.2

  -- what is to be shown is shown of a construction
  construction :
      (p : Program) (cells : ℕ) (e : Parts) (s : State) (G : State → Type 0) → StandsFor file types functions p w base cells r e s
      → ((t c : ℕ) (es : Exprs) (env' : Env) (fs : List Frame) → Met file types functions w base i env r p e (construct t c es) env' fs → G (Eval.evaluating (construct t c es) env' fs))
      → G s
  construction p cells e s G stands show =
      shown file types functions w base i env r p e G ready stands
      (λ x env' fs coded met. when_construct (λ y. Met file types functions w base i env r p e y env' fs → G (Eval.evaluating y env' fs)) coded (λ t c es. show t c es env' fs) met)

  pub construct_fits : Standing file types functions w base r → FieldsFit w base r
  construct_fits standing x is some =
      construction standing.program standing.cells standing.input standing.state (λ s. FitWords w base r x) standing.stands
      (λ t c es env' fs met. fields_fit standing.stands met.frames_at is some)

  module _ {t' c' k : ℕ} (is-t : t' ≡ get_or file (i + 1) 0) (is_c : c' ≡ get_or file (i + 2) 0) (counts : FieldCount file types t' c' k) where
    -- without fields
    pub construct_goes_on : {w' : List ℕ} {n : Next} → k ≡ 0 → GoesOn file types functions w w' base r n → (label : ℕ) → Stepped file types functions w w' base label r n
    unfolding count
    construct_goes_on {w'} {n} none goes label = record {
      only_top = goes_only goes;
      steps = λ p sought cells e s file_of stands.
          construction p cells e s (λ s'. StepMeans file types functions w w' base r p e s' n) stands (by_fields p cells e s stands);
    }
      where
        by_fields :
            (p : Program) (cells : ℕ) (e : Parts) (s : State) → StandsFor file types functions p w base cells r e s → (t c : ℕ) (es : Exprs) (env' : Env) (fs : List Frame)
            → Met file types functions w base i env r p e (construct t c es) env' fs → StepMeans file types functions w w' base r p e (Eval.evaluating (construct t c es) env' fs) n
        by_fields p cells e s stands t c []ₑ env' fs met =
            after_result stands (λ fs'. Eval.evaluating (construct t c []ₑ) env' fs') (construct_end p e t c env') (construct_after p e t c env') met.frames_at met.frames_in goes
        by_fields p cells e s stands t c (x ∷ₑ xs) env' fs met = absurd (clash (omega (arith, many_fields t c (x ∷ₑ xs) is-t is_c counts met.code)))

    -- with fields: the first is turned to
    pub construct_turns_to :
        {w' : List ℕ} {r' : Registers} → (k ≡ 0 → ⊥) → Turned file types functions w w' base r (i + 3) k env r.frame r' → (label : ℕ)
        → Stepped file types functions w w' base label r (Next.Goes r')
    unfolding count
    construct_turns_to {w'} {r'} some turns label = record {
      only_top = turned_only turns;
      steps = λ p sought cells e s file_of stands.
          construction p cells e s (λ s'. StepMeans file types functions w w' base r p e s' (Next.Goes r')) stands (by_fields p cells e s stands);
    }
      where
        by_fields :
            (p : Program) (cells : ℕ) (e : Parts) (s : State) → StandsFor file types functions p w base cells r e s → (t c : ℕ) (es : Exprs) (env' : Env) (fs : List Frame)
            → Met file types functions w base i env r p e (construct t c es) env' fs → StepMeans file types functions w w' base r p e (Eval.evaluating (construct t c es) env' fs) (Next.Goes r')
        by_fields p cells e s stands t c []ₑ env' fs met = absurd (some (many_fields t c []ₑ is-t is_c counts met.code))
        by_fields p cells e s stands t c (x ∷ₑ xs) env' fs met =
            let bytes = code_construct file (declarations_of file types functions) i t c (x ∷ₑ xs) met.code in (
              Eval.evaluating x env' (with_fields xs env' fs),
              when_no_case (λ fs'. next p e (Eval.evaluating (construct t c (x ∷ₑ xs)) env' fs') ≡ Eval.goes (Eval.evaluating x env' (with_fields xs env' fs'))) no-case met.frames_at
                  (construct_turns p e t c x xs env') (construct_turns_first p e t c x xs env'),
              turned stands (omega (arith, counts.1, ready.space.some_record)) ready.environment_there ready.space.frame_below met.env_at met.env_in met.frames_at met.frames_in xs
                  (many_fields t c (x ∷ₑ xs) is-t is_c counts met.code) bytes.3 turns,
            )
