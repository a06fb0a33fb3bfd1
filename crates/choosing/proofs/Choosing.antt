-- The innermost waiting case and the alternative that is chosen for it; and a construction, which is the value that the case looks at, or the end.
-- Rests on Kept, on machine's Records and Codes, and on reach's States.
use Prim.Native.Nat.{ℕ, ◌+◌, ◌≤◌, ◌<◌}
use mathlib.Core.Path.{◌≡◌, refl, sym, ◌∙◌, subst}
use mathlib.Core.List.{List, ◌∷◌}
use native.Mathlib.Omega.{arith}
use lib.ListN.{get_or}
use Rattle.reach.specs.Syntax.{construct, Exprs, Alternatives, Program}
use Rattle.reach.specs.Parts.{Parts}
use Rattle.reach.specs.Eval as Eval
use Rattle.reach.specs.Eval.{Env, operands, size, Frame, waiting, State, choose, view, answer, next}
use Rattle.reach.specs.States.{EnvIn, FramesIn, Chooses, Sound}
use Rattle.machine.specs.Cells.{cell_of}
use Rattle.machine.specs.Records.{record_word, no_case, FrameBelow, Code, CodeAlternatives, nothing_left, EnvAt, FramesAt, evaluating_at, missing_at, OnlyTop, Wrote}
use Rattle.machine.specs.Walks.{ChosenAt}
use Rattle.machine.proofs.Codes.{chosen_at, code_construct}
use Rattle.machine.proofs.Records.{count_word}
use Rattle.registers.specs.declared.Registers.{Registers}
use Rattle.std.specs.Prelude.{Option, Some, None}
use Rattle.registers.specs.declared.Next.TheVariants as Next
use Rattle.lookups.specs.Fields.{FieldCount}
use Rattle.registers.specs.Stepping.{declarations_of, control_in, FileOf, StandsFor, Standing, Ready, Follows, Stepped, StepMeans, Found, Chose, chose_none, chose_one, missing_kind, expression_kind}
use Rattle.machine.proofs.Words.{nothing_written}
use Rattle.registers.proofs.Words.{few_kept}
use Rattle.registers.proofs.Which.{when_construct, when_missing, when_waiting}
use Rattle.registers.proofs.Kept.{Met, shown, state_of, frames_there, operands_there, few_added}

-- A waiting case in the words: its alternatives, its environment and the frames behind it.
pub record Pending (file types functions w : List ℕ) (base : ℕ) (r : Registers) (e : Parts) (alts : Alternatives) (outer : Env) (rest : List Frame) : Type 0 where
  pub is_case : r.frame < no_case
  pub env_before : record_word w base r.frame 2 < r.frame
  pub next_before_law : FrameBelow (record_word w base r.frame 3) r.frame
  pub code : CodeAlternatives file (declarations_of file types functions) (record_word w base r.frame 0) alts
  pub env_at : EnvAt file (declarations_of file types functions) w base (cell_of w) (record_word w base r.frame 2) outer
  pub frames_at : FramesAt file (declarations_of file types functions) w base (cell_of w) (record_word w base r.frame 3) rest
  pub env_in : EnvIn e outer
  pub frames_in : FramesIn e rest

-- what is to be shown of the frames is shown of a waiting case
pub pending :
    {file types functions w : List ℕ} {base : ℕ} {r : Registers} {e : Parts} {fs : List Frame} (G : List Frame → Type 0) → r.frame < no_case
    → FramesAt file (declarations_of file types functions) w base (cell_of w) r.frame fs → FramesIn e fs
    → ((alts : Alternatives) (outer : Env) (rest : List Frame) → Pending file types functions w base r e alts outer rest → G (waiting alts outer ∷ rest)) → G fs
pending {e = e} G case_waits frames frames_in show =
    when_waiting (λ fs. FramesIn e fs → G fs) case_waits frames
    (λ alts outer rest env_before next_before_law code env_at frames_at in-input.
    show alts outer rest (record { is_case = case_waits; env_before = env_before; next_before_law = next_before_law; code = code; env_at = env_at; frames_at = frames_at; env_in = in-input.0; frames_in = in-input.1 }))
    frames_in

-- the alternative is there
pub pending_there :
    {file types functions w : List ℕ} {base c : ℕ} {r : Registers} {p : Program} {e : Parts} {alts : Alternatives} {outer new : Env} {rest : List Frame} {t : ℕ}
    → Pending file types functions w base r e alts outer rest → Chooses p t c alts outer new
    → ChosenAt file (declarations_of file types functions) new rest (record_word w base r.frame 0) c (choose alts c new rest)
pending_there {file} {types} {functions} {c = c} {alts = alts} {new = new} {rest = rest} here chooses =
    chosen_at file (declarations_of file types functions) new rest _ c alts here.code chooses.within_alternatives

pub chose_only :
    {file types functions w w' : List ℕ} {base c k first inner : ℕ} {r r' : Registers} → Chose file types functions w w' base r c k first inner r' → OnlyTop w w' base r.records
chose_only (chose_none only found) = only
chose_only (chose_one i wrote found) = wrote.only_top

-- what is chosen, by the alternative that was found and the words of the case's record
module _
    (file types functions w : List ℕ) {base c k first inner i : ℕ} {r : Registers} {a : Option ℕ}
    (is-i : i ≡ record_word w base r.frame 0) (found : Found file types functions i c a)
  where
    pub chose_absent :
        a ≡ None → Chose file types functions w w base r c k first inner (record { kind = missing_kind; place = 0; env = 0; frame = 0; records = r.records })
    chose_absent is = chose_none (nothing_written w base r.records) (subst (λ (x : Option ℕ). Found file types functions (record_word w base r.frame 0) c x) is (subst (λ (j : ℕ). Found file types functions j c a) is-i found))

    pub chose_present :
        {w' : List ℕ} {place env seen next' : ℕ} → env ≡ record_word w base r.frame 2 → seen ≡ record_word w base env 1 → next' ≡ record_word w base r.frame 3
        → a ≡ Some place → Wrote w w' base r.records env (seen + k) first inner
        → Chose file types functions w w' base r c k first inner (record { kind = expression_kind; place = place; env = r.records; frame = next'; records = r.records + 1 })
    chose_present {w'} {place} {env} {seen} is-env is_seen is-next is wrote =
        rw is-next
        (chose_one place
        (subst (λ (j : ℕ). Wrote w w' base r.records j (record_word w base j 1 + k) first inner) is-env (subst (λ (j : ℕ). Wrote w w' base r.records env (j + k) first inner) is_seen wrote))
        (subst (λ (x : Option ℕ). Found file types functions (record_word w base r.frame 0) c x) is (subst (λ (j : ℕ). Found file types functions j c a) is-i found)))

-- Once an alternative is chosen, the words stand for the state that the case goes on to, if the new record stands for its environment.
module _
    {file types functions w w' : List ℕ} {base cells c k first inner : ℕ} {p : Program} {r : Registers} {e : Parts} {s : State}
    {alts : Alternatives} {outer new : Env} {rest : List Frame}
    (stands : StandsFor file types functions p w base cells r e s) (here : Pending file types functions w base r e alts outer rest) (small : k ≤ 255)
    (env_New : Wrote w w' base r.records (record_word w base r.frame 2) (record_word w base (record_word w base r.frame 2) 1 + k) first inner
    → EnvAt file (declarations_of file types functions) w' base (cell_of w') r.records new)
    (there : ChosenAt file (declarations_of file types functions) new rest (record_word w base r.frame 0) c (choose alts c new rest))
  where
    pub chosen :
        {r' : Registers} → Chose file types functions w w' base r c k first inner r'
        → Follows file types functions w' base r.records r' (choose alts c new rest)
    chosen (chose_none only found) = record {
      state = rw (found new rest _ there) missing_at;
      environment_below = stands.space.some_record;
      frame_below = (omega (arith, stands.space.some_record), omega arith);
      no_fewer = omega arith;
      one_more = omega arith;
      few = few_kept only stands.space.few;
    }
    chosen (chose_one i wrote found) =
        let (x, is, code) = found new rest _ there in
        let below = stands.space.frame_below in
        record {
          state = rw is (evaluating_at code (env_New wrote) (frames_there stands wrote.only_top (omega (arith, below.0, here.is_case, here.next_before_law.0), here.next_before_law.1) here.frames_at here.frames_in));
          environment_below = omega arith;
          frame_below = (omega (arith, below.0, here.is_case, here.next_before_law.0), here.next_before_law.1);
          no_fewer = omega arith;
          one_more = omega arith;
          few = few_added stands.space.few wrote
              (omega (arith, below.0, here.is_case, here.env_before, stands.space.few (record_word w base r.frame 2) (omega (arith, below.0, here.is_case, here.env_before))));
        }

-- A construction.

construct_next :
    (p : Program) (e : Parts) (t c : ℕ) (es : Exprs) (env outer : Env) (alts : Alternatives) (rest : List Frame)
    → next p e (Eval.evaluating (construct t c es) env (waiting alts outer ∷ rest)) ≡ Eval.goes (choose alts c (operands outer es env) rest)
unfolding next answer view
construct_next p e t c es env outer alts rest = refl

-- as many fields as the type's record says
pub counted :
    {file types functions : List ℕ} {p : Program} {t c k t' c' : ℕ} {alts : Alternatives} {outer new : Env} → FileOf file types functions p
    → FieldCount file types t' c' k → t' ≡ t → c' ≡ c → Chooses p t c alts outer new → size new ≡ size outer + k
counted file_of fields is-t is_c chooses =
    let k-is = fields.0 chooses.fields (rw (is-t, is_c, ← file_of.types_there) chooses.constructor_exists) in
    rw k-is chooses.fields_agree

module _ (file types functions w : List ℕ) (base i env : ℕ) (r : Registers) (ready : Ready file w base r 2 i env) where
  module _ {c : ℕ} (is_c : c ≡ get_or file (i + 2) 0) (case_waits : r.frame < no_case) where
    -- what is to be shown is shown of a construction that a case waits for
    constructed :
        (p : Program) (cells : ℕ) (e : Parts) (s : State) (G : State → Type 0) → StandsFor file types functions p w base cells r e s
        → ((t : ℕ) (es : Exprs) (env' : Env) (alts : Alternatives) (outer : Env) (rest : List Frame) → Code file (declarations_of file types functions) i (construct t c es)
        → EnvAt file (declarations_of file types functions) w base (cell_of w) env env' → EnvIn e env' → Pending file types functions w base r e alts outer rest
        → Chooses p t c alts outer (operands outer es env') → G (Eval.evaluating (construct t c es) env' (waiting alts outer ∷ rest)))
        → G s
    constructed p cells e s G stands show =
        shown file types functions w base i env r p e G ready stands
        (λ x env' fs coded met. when_construct (λ y. Met file types functions w base i env r p e y env' fs → G (Eval.evaluating y env' fs)) coded
        (λ t c' es met'.
        let bytes = code_construct file (declarations_of file types functions) i t c' es met'.code in
        let same : c' ≡ c = sym (is_c ∙ bytes.2.1) in
        pending (λ fs'. Sound p e (Eval.evaluating (construct t c' es) env' fs') → G (Eval.evaluating (construct t c' es) env' fs')) case_waits met'.frames_at met'.frames_in
        (λ alts outer rest here sound.
        subst (λ (d : ℕ). Code file (declarations_of file types functions) i (construct t d es) → Chooses p t d alts outer (operands outer es env') → G (Eval.evaluating (construct t d es) env' (waiting alts outer ∷ rest))) (sym same)
        (λ code chooses. show t es env' alts outer rest code met'.env_at met'.env_in here chooses) met'.code sound.1) met'.sound) met)

    pub construct_chooses : Standing file types functions w base r → record_word w base r.frame 2 < r.records
    construct_chooses standing =
        constructed standing.program standing.cells standing.input standing.state (λ s. record_word w base r.frame 2 < r.records) standing.stands
        (λ t es env' alts outer rest code env_at env_in here chooses. omega (arith, case_waits, here.env_before, ready.space.frame_below.0))

    pub construct_goes :
        {w' : List ℕ} {t' k : ℕ} {r' : Registers} → t' ≡ get_or file (i + 1) 0 → FieldCount file types t' c k
        → Chose file types functions w w' base r c k (i + 3) (env + 1) r' → (label : ℕ) → Stepped file types functions w w' base label r (Next.Goes r')
    unfolding size
    construct_goes {w'} {t'} {k} {r'} is-t fields chose label = record {
      only_top = chose_only chose;
      steps = λ p sought cells e s file_of stands.
          constructed p cells e s (λ s'. StepMeans file types functions w w' base r p e s' (Next.Goes r')) stands
          (λ t es env' alts outer rest code env_at env_in here chooses.
          let bytes = code_construct file (declarations_of file types functions) i t c es code in
          let size_is = counted file_of fields (is-t ∙ bytes.1.1) refl chooses in
          let many = count_word file (declarations_of file types functions) w base (cell_of w) stands.zeros here.env_at in (
            choose alts c (operands outer es env') rest,
            construct_next p e t c es env' outer alts rest,
            chosen stands here fields.1
                (λ wrote. operands_there stands wrote.only_top wrote.holds (omega (arith, case_waits, here.env_before, ready.space.frame_below.0)) ready.environment_there (omega (arith, many, size_is))
                here.env_at here.env_in env_at env_in bytes.3)
                (pending_there here chooses) chose,
          ));
    }

-- What comes next where an alternative was missing.

missing_next : (p : Program) (e : Parts) → next p e Eval.uncovered ≡ Eval.lacks
unfolding next answer view
missing_next p e = refl

pub missing_lacks :
    (file types functions w : List ℕ) (base label : ℕ) (r : Registers) → control_in r ≡ nothing_left → Stepped file types functions w w base label r Next.Lacks
missing_lacks file types functions w base label r is = record {
  only_top = nothing_written w base r.records;
  steps = λ p sought cells e s file_of stands.
      when_missing (λ s'. StepMeans file types functions w w base r p e s' Next.Lacks) (state_of stands is) (missing_next p e);
}
