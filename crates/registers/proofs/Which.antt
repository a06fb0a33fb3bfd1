-- Which state the words stand for, by the registers' control and the code that stands in the file: what is to be shown of every state is shown of
-- the one kind that it can be.
-- Rests on machine's Records and Codes.
use Prim.Native.Nat.{ℕ, zero, suc, ◌+◌, ◌≤◌, ◌<◌}
use mathlib.Core.Path.{◌≡◌, refl, ◌∙◌}
use mathlib.Core.List.{List, [], ◌∷◌}
use native.Mathlib.Omega.{arith}
use Rattle.reach.specs.Syntax.{Expr, variable, call, construct, case, let_in, target, Exprs, ◌∷ₑ◌, count, Alternatives}
use Rattle.reach.specs.Parts.{Place}
use Rattle.reach.specs.Eval.{Env, Frame, waiting, fields, State, evaluating, inspecting, uncovered}
use Rattle.reach.specs.RuleFile.{Declarations}
use Rattle.reach.proofs.Base.{clash}
use Rattle.machine.specs.Records.{record_word, no_case, FrameBelow, Code, CodeAll, CodeAlternatives, expression_at, part_in, nothing_left, EnvAt, FramesAt, none_at, waiting_at, fields_at, StateAt, evaluating_at, inspecting_at, missing_at}
use Rattle.registers.specs.Stepping.{control_of}
use Rattle.machine.proofs.Codes.{Coded, a_variable, a_call, a_construct, a_case, a_let, a_target}

-- what is being evaluated, by the number of its kind
pub control_expression : (kind place env : ℕ) → kind ≡ 2 → control_of kind place env ≡ expression_at place env
control_expression kind place env is = rw is refl

pub control_part : (kind place env : ℕ) → kind ≡ 1 → control_of kind place env ≡ part_in place
control_part kind place env is = rw is refl

pub control_missing : (kind place env : ℕ) → (kind ≡ 2 → ⊥) → (kind ≡ 1 → ⊥) → control_of kind place env ≡ nothing_left
control_missing zero place env some other = refl
control_missing (suc zero) place env some other = absurd (other refl)
control_missing (suc (suc zero)) place env some other = absurd (some refl)
control_missing (suc (suc (suc n))) place env some other = refl

-- and the other way round
pub expression_control : (kind place env i e : ℕ) → control_of kind place env ≡ expression_at i e → (kind ≡ 2) × (i ≡ place) × (e ≡ env)
expression_control zero place env i e is = absurd (clash (cc))
expression_control (suc zero) place env i e is = absurd (clash (cc))
expression_control (suc (suc zero)) place env i e is = (refl, cc, cc)
expression_control (suc (suc (suc n))) place env i e is = absurd (clash (cc))

pub part_control : (kind place env x : ℕ) → control_of kind place env ≡ part_in x → kind ≡ 2 → ⊥
part_control zero place env x is two = clash (cc)
part_control (suc zero) place env x is two = clash (cc)
part_control (suc (suc zero)) place env x is two = clash (cc)
part_control (suc (suc (suc n))) place env x is two = clash (cc)

module _ {file : List ℕ} {o : Declarations} {w : List ℕ} {base : ℕ} {cell : Place → ℕ} (G : State → Type 0) where
  pub when_expression :
      {i r f : ℕ} {s : State} → StateAt file o w base cell (expression_at i r) f s
      → ((x : Expr) (env : Env) (fs : List Frame) → Code file o i x → EnvAt file o w base cell r env → FramesAt file o w base cell f fs → G (evaluating x env fs))
      → G s
  when_expression (evaluating_at code env frames) show = show _ _ _ code env frames

  pub when_part :
      {x f : ℕ} {s : State} → StateAt file o w base cell (part_in x) f s
      → ((q : Place) (fs : List Frame) → cell q ≡ x → FramesAt file o w base cell f fs → G (inspecting q fs)) → G s
  when_part (inspecting_at {q = q} {fs = fs} is frames) show = show q fs is frames

  pub when_missing : {f : ℕ} {s : State} → StateAt file o w base cell nothing_left f s → G uncovered → G s
  when_missing missing_at show = show

module _ (G : Expr → Type 0) where
  pub when_variable : {x : Expr} → Coded 0 x → ((n : ℕ) → G (variable n)) → G x
  when_variable a_variable show = show _

  pub when_call : {x : Expr} → Coded 1 x → ((f : ℕ) (es : Exprs) → G (call f es)) → G x
  when_call a_call show = show _ _

  pub when_construct : {x : Expr} → Coded 2 x → ((t c : ℕ) (es : Exprs) → G (construct t c es)) → G x
  when_construct a_construct show = show _ _ _

  pub when_case : {x : Expr} → Coded 3 x → ((t : ℕ) (y : Expr) (alts : Alternatives) → G (case t y alts)) → G x
  when_case a_case show = show _ _ _

  pub when_let : {x : Expr} → Coded 4 x → ((t : ℕ) (y b : Expr) → G (let_in t y b)) → G x
  when_let a_let show = show _ _ _

  pub when_target : {x : Expr} → Coded 5 x → ((l : ℕ) (y : Expr) → G (target l y)) → G x
  when_target a_target show = show _ _

-- below `no_case` the frame is a waiting case, above it fields that wait, and at it none
module _ {file : List ℕ} {o : Declarations} {w : List ℕ} {base : ℕ} {cell : Place → ℕ} (G : List Frame → Type 0) where
  pub when_no_frame : {f : ℕ} {fs : List Frame} → f ≡ no_case → FramesAt file o w base cell f fs → G [] → G fs
  when_no_frame is none_at show = show
  when_no_frame is (waiting_at holds small a<f next<f code env rest) show = absurd (clash (omega arith))
  when_no_frame is (fields_at holds small a<f next<f many code env rest) show = absurd (clash (omega arith))

  pub when_waiting :
      {f : ℕ} {fs : List Frame} → f < no_case → FramesAt file o w base cell f fs
      → ((alts : Alternatives) (outer : Env) (rest : List Frame) → record_word w base f 2 < f → FrameBelow (record_word w base f 3) f
      → CodeAlternatives file o (record_word w base f 0) alts → EnvAt file o w base cell (record_word w base f 2) outer
      → FramesAt file o w base cell (record_word w base f 3) rest → G (waiting alts outer ∷ rest))
      → G fs
  when_waiting some none_at show = absurd (clash (omega arith))
  when_waiting some (waiting_at holds small a<f next<f code env rest) show =
      show _ _ _ (rw holds.word_2 a<f) (rw holds.word_3 next<f) (rw holds.word_0 code) (rw holds.word_2 env) (rw holds.word_3 rest)
  when_waiting some (fields_at holds small a<f next<f many code env rest) show = absurd (clash (omega arith))

  pub when_fields :
      {f x : ℕ} {fs : List Frame} → f ≡ no_case + x → 0 < x → FramesAt file o w base cell f fs
      → ((e : Expr) (es : Exprs) (outer : Env) (rest : List Frame) → record_word w base x 2 < x → FrameBelow (record_word w base x 3) x
      → record_word w base x 1 ≡ suc (count es) → CodeAll file o (record_word w base x 0) (e ∷ₑ es) → EnvAt file o w base cell (record_word w base x 2) outer
      → FramesAt file o w base cell (record_word w base x 3) rest → G (fields e es outer ∷ rest))
      → G fs
  when_fields is some none_at show = absurd (clash (omega arith))
  when_fields is some (waiting_at holds small a<f next<f code env rest) show = absurd (clash (omega arith))
  when_fields {x = x} is some (fields_at {r = r} holds small a<f next<f many code env rest) show =
      let same : x ≡ r = omega arith in
      show _ _ _ _ (rw (same, holds.word_2) a<f) (rw (same, holds.word_3) next<f) (rw same (holds.word_1 ∙ many)) (rw (same, holds.word_0) code) (rw (same, holds.word_2) env)
      (rw (same, holds.word_3) rest)

  -- no frame, or fields that wait
  pub when_no_case :
      {f : ℕ} {fs : List Frame} → no_case ≤ f → FramesAt file o w base cell f fs → G []
      → ((e : Expr) (es : Exprs) (outer : Env) (rest : List Frame) → G (fields e es outer ∷ rest)) → G fs
  when_no_case no-case none_at none some = none
  when_no_case no-case (waiting_at holds small a<f next<f code env rest) none some = absurd (clash (omega arith))
  when_no_case no-case (fields_at holds small a<f next<f many code env rest) none some = some _ _ _ _
