-- What the words stood for before the record at the top was written they stand for afterwards, and the new record is an environment or a waiting case.
-- Rests on Words and on machine's laws of records.
use Prim.Native.Nat.{ℕ, suc, ◌+◌, ◌*◌, ◌≤◌, ◌<◌}
use mathlib.Core.Path.{◌≡◌, sym, subst}
use mathlib.Core.List.{List, ◌∷◌}
use native.Mathlib.Omega.{arith}
use lib.ListN.{length, get_or}
use Rattle.reach.specs.Syntax.{Expr, Exprs, ◌∷ₑ◌, count, Alternatives, Program}
use Rattle.reach.specs.Parts.{Parts, Place, at, There}
use Rattle.reach.specs.Eval as Eval
use Rattle.reach.specs.Eval.{Env, operands, size, Frame, waiting, fields, State}
use Rattle.reach.specs.States.{EnvIn, FramesIn, StateIn, Sound}
use Rattle.machine.specs.Cells.{cell_of}
use Rattle.machine.specs.Records.{RecordIs, Code, CodeAll, CodeAlternatives, Control, expression_at, part_in, environment_of, no_case, FrameBelow, EnvAt, FramesAt, StateAt, OnlyTop, Wrote}
use Rattle.machine.proofs.Codes.{Coded, coded_known, code_kind}
use Rattle.machine.proofs.Records.{env_kept, frames_kept, operands_added, waiting_added, fields_added}
use Rattle.registers.specs.declared.Registers.{Registers}
use Rattle.registers.specs.declared.Next.{Next}
use Rattle.registers.specs.Stepping.{declarations_of, control_in, CountsSmall, StandsFor, Standing, Ready, StepMeans, Leads, Stepped}
use Rattle.machine.proofs.Words.{records_same}
use Rattle.registers.proofs.Words.{cells_same, few_more}
use Rattle.registers.proofs.Which.{when_expression, when_part}

-- the state, by what the control is
pub state_of :
    {file types functions w : List ℕ} {base cells : ℕ} {p : Program} {r : Registers} {e : Parts} {s : State} {c : Control}
    → StandsFor file types functions p w base cells r e s → control_in r ≡ c
    → StateAt file (declarations_of file types functions) w base (cell_of w) c r.frame s
state_of {file} {types} {functions} {w} {base} {r = r} {s = s} stands is =
    subst (λ (c : Control). StateAt file (declarations_of file types functions) w base (cell_of w) c r.frame s) is stands.state

-- An expression that is being evaluated, and all that is known of it: where it stands, its environment and frames in the words, and what it meets.
module _ (file types functions w : List ℕ) (base i env : ℕ) (r : Registers) (p : Program) (e : Parts) where
  pub record Met (x : Expr) (env' : Env) (fs : List Frame) : Type 0 where
    pub code : Code file (declarations_of file types functions) i x
    pub env_at : EnvAt file (declarations_of file types functions) w base (cell_of w) env env'
    pub frames_at : FramesAt file (declarations_of file types functions) w base (cell_of w) r.frame fs
    pub env_in : EnvIn e env'
    pub frames_in : FramesIn e fs
    pub sound : Sound p e (Eval.evaluating x env' fs)

  -- what is to be shown of the state is shown of an expression of this code
  pub shown :
      {code cells : ℕ} {s : State} (G : State → Type 0) → Ready file w base r code i env → StandsFor file types functions p w base cells r e s
      → ((x : Expr) (env' : Env) (fs : List Frame) → Coded code x → Met x env' fs → G (Eval.evaluating x env' fs)) → G s
  shown G ready stands show =
      when_expression (λ s. StateIn e s → Sound p e s → G s) (state_of stands ready.control_is)
      (λ x env' fs code env_at frames_at there sound.
      show x env' fs (rw ready.code_is at (code_kind file (declarations_of file types functions) i x code).1)
      (record { code = code; env_at = env_at; frames_at = frames_at; env_in = there.0; frames_in = there.1; sound = sound }))
      stands.there stands.sound

-- A part of the input that is being evaluated.
module _ (file types functions w : List ℕ) (base cell : ℕ) (r : Registers) (is_part : control_in r ≡ part_in cell) where
  -- what is to be shown is shown of the part that is in the cell
  pub inspected :
      (p : Program) (cells : ℕ) (e : Parts) (s : State) (G : State → Type 0) → StandsFor file types functions p w base cells r e s
      → ((q : Place) (fs : List Frame) → cell_of w q ≡ cell → FramesAt file (declarations_of file types functions) w base (cell_of w) r.frame fs
      → There (at e q) → FramesIn e fs → Sound p e (Eval.inspecting q fs) → G (Eval.inspecting q fs))
      → G s
  inspected p cells e s G stands show =
      when_part (λ s'. StateIn e s' → Sound p e s' → G s') (state_of stands is_part)
      (λ q fs is frames there sound. show q fs is frames there.0 there.1 sound) stands.there stands.sound

-- What a step says of the state, it says of an expression of the code, whatever environment and frames are met.
module _ (file types functions w w' : List ℕ) (base i env : ℕ) (r : Registers) (p : Program) (e : Parts) (n : Next) where
  abbrev pub StepsAt : Expr → Type 0
  StepsAt x =
      (env' : Env) (fs : List Frame) → Met file types functions w base i env r p e x env' fs
      → StepMeans file types functions w w' base r p e (Eval.evaluating x env' fs) n

  pub steps_by :
      {code cells : ℕ} {s : State} → Ready file w base r code i env → StandsFor file types functions p w base cells r e s
      → ((x : Expr) → Coded code x → StepsAt x) → StepMeans file types functions w w' base r p e s n
  steps_by ready stands show =
      shown file types functions w base i env r p e (λ s. StepMeans file types functions w w' base r p e s n) ready stands
      (λ x env' fs coded met. show x coded env' fs met)

-- where an expression is evaluated, its code stands in the file
module _ (file types functions w : List ℕ) (base i env : ℕ) (r : Registers) (standing : Standing file types functions w base r) (is : control_in r ≡ expression_at i env) where
  kind : (i < length file) × ((x : Expr) × Coded (get_or file i 0) x)
  kind =
      when_expression (λ s. (i < length file) × ((x : Expr) × Coded (get_or file i 0) x)) (state_of standing.stands is)
      (λ x env' fs code env_at frames_at. let found = code_kind file (declarations_of file types functions) i x code in (found.0, (x, found.1)))

  pub code_known : get_or file i 0 ≤ 5
  code_known = coded_known (get_or file i 0) kind.1.0 kind.1.1

  pub ready_at : {code : ℕ} → code ≡ get_or file i 0 → Ready file w base r code i env
  ready_at code_is =
      record {
        control_is = is;
        code_is = sym code_is;
        within = kind.0;
        small = standing.file_of.small;
        environment_there = subst (λ (c : Control). environment_of c < r.records) is standing.stands.space.environment_below;
        space = standing.stands.space;
      }

-- a step that leads to registers is a step, whatever label is sought
pub stepped :
    {file types functions w w' : List ℕ} {base : ℕ} {r r' : Registers} (label : ℕ) → Leads file types functions w w' base r r'
    → Stepped file types functions w w' base label r (Next.Goes r')
stepped label leads = record { only_top = leads.only_top; steps = λ p sought. leads.steps p }

module _
    {file types functions w w' : List ℕ} {base cells : ℕ} {p : Program} {r : Registers} {e : Parts} {s : State}
    (stands : StandsFor file types functions p w base cells r e s) (only : OnlyTop w w' base r.records)
  where
    pub env_there :
        {a : ℕ} {env : Env} → a < r.records → EnvAt file (declarations_of file types functions) w base (cell_of w) a env → EnvIn e env
        → EnvAt file (declarations_of file types functions) w' base (cell_of w') a env
    env_there below at there =
        env_kept file (declarations_of file types functions) w w' base r.records (cell_of w) (cell_of w') e (records_same only) (cells_same only stands).0 below at there

    pub frames_there :
        {f : ℕ} {fs : List Frame} → FrameBelow f r.records → FramesAt file (declarations_of file types functions) w base (cell_of w) f fs → FramesIn e fs
        → FramesAt file (declarations_of file types functions) w' base (cell_of w') f fs
    frames_there below at there =
        frames_kept file (declarations_of file types functions) w w' base r.records (cell_of w) (cell_of w') e (records_same only) (cells_same only stands).0 below at there

    -- the record at the top is a group of operands
    pub operands_there :
        {a b i n : ℕ} {outer inner : Env} {es : Exprs} → RecordIs w' base r.records a n i (b + 1) → a < r.records → b < r.records → n ≡ size outer + count es
        → EnvAt file (declarations_of file types functions) w base (cell_of w) a outer → EnvIn e outer
        → EnvAt file (declarations_of file types functions) w base (cell_of w) b inner → EnvIn e inner → CodeAll file (declarations_of file types functions) i es
        → EnvAt file (declarations_of file types functions) w' base (cell_of w') r.records (operands outer es inner)
    operands_there {a} {b} {i} {n} holds a<t b<t many outer outer-in inner inner-in code =
        let z : b + 1 ≡ suc b = omega arith in
        operands_added file (declarations_of file types functions) w w' base r.records (cell_of w) (cell_of w') e (records_same only) (cells_same only stands).0
        (subst (λ (k : ℕ). RecordIs w' base r.records a n i k) z holds) a<t b<t many outer outer-in inner inner-in code

    -- or a waiting case
    pub waiting_there :
        {i a f : ℕ} {alts : Alternatives} {env : Env} {fs : List Frame} → RecordIs w' base r.records i 0 a f → a < r.records → FrameBelow f r.records
        → CodeAlternatives file (declarations_of file types functions) i alts
        → EnvAt file (declarations_of file types functions) w base (cell_of w) a env → EnvIn e env
        → FramesAt file (declarations_of file types functions) w base (cell_of w) f fs → FramesIn e fs
        → FramesAt file (declarations_of file types functions) w' base (cell_of w') r.records (waiting alts env ∷ fs)
    waiting_there holds a<t f<t code env env_in frames frames_in =
        waiting_added file (declarations_of file types functions) w w' base r.records (cell_of w) (cell_of w') e (records_same only) (cells_same only stands).0
        holds (omega (arith, stands.space.room, stands.space.narrow)) a<t f<t code env env_in frames frames_in

    -- or fields that wait
    pub fields_there :
        {i n a f : ℕ} {x : Expr} {xs : Exprs} {env : Env} {fs : List Frame} → RecordIs w' base r.records i n a f → a < r.records → FrameBelow f r.records → n ≡ suc (count xs)
        → CodeAll file (declarations_of file types functions) i (x ∷ₑ xs)
        → EnvAt file (declarations_of file types functions) w base (cell_of w) a env → EnvIn e env
        → FramesAt file (declarations_of file types functions) w base (cell_of w) f fs → FramesIn e fs
        → FramesAt file (declarations_of file types functions) w' base (cell_of w') (no_case + r.records) (fields x xs env ∷ fs)
    fields_there holds a<t f<t many code env env_in frames frames_in =
        fields_added file (declarations_of file types functions) w w' base r.records (cell_of w) (cell_of w') e (records_same only) (cells_same only stands).0
        holds (omega (arith, stands.space.room, stands.space.narrow)) a<t f<t many code env env_in frames frames_in

-- the counts after a record with such a count was added
pub few_added :
    {w w' : List ℕ} {base top a n b c : ℕ} → CountsSmall w base top → Wrote w w' base top a n b c → n ≤ 255 * top → CountsSmall w' base (top + 1)
few_added few wrote small = few_more wrote.only_top few (rw wrote.holds.word_1 small)
