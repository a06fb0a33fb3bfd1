-- The evaluation of the whole result is the unit-evaluator applied again to each child: the same outcome, after the same steps.
-- Rests on specs/Whole and Evaluation.
use Prim.Native.Nat.{ℕ, zero, suc, ◌≤◌}
use mathlib.Core.Path.{◌≡◌, refl, sym, ◌∙◌, ap, subst}
use mathlib.Core.Bool.{Bool, true, false}
use mathlib.Core.List.{List, [], ◌∷◌, ◌++◌}
use mathlib.Core.Option.{Option, none, some}
use lib.Dec.{eqb}
use native.Mathlib.Omega.{arith}
use Rattle.reach.specs.Base.{pick}
use Rattle.reach.specs.Syntax.{variable, call, construct, case, let_in, target, Exprs, []ₑ, ◌∷ₑ◌, Alternatives, no_more, absent, present, Function, Program, function_at}
use Rattle.reach.specs.Parts.{Parts, Seen, gone, free, has, at}
use Rattle.reach.specs.Eval.{Env, Closure, suspended, input_part, lookup, Frame, waiting, fields, with_fields, State, evaluating, inspecting, uncovered, stuck, resume, choose, enter, Question, answered, Stop, value, unknown, Next, demands, lacks, stops, goes, waits}
use Rattle.reach.specs.Eval.{view, look, answer, next, Run, reached, ended, unfinished, missing, halted, conclude, eval, start_of, start, run}
use Rattle.reach.specs.Whole.{Came, came, stopped, and_then, children_of, unit_eval, in_turn, whole_by, whole, end_of, whole_run}
use Rattle.reach.proofs.Base.{clash}
use Rattle.reach.proofs.Evaluation.{eval_step, eval_wait, eval_demands, eval_lacks, eval_stops, eval_spent, eval_spent_wait}

-- Frames put under those of a state, and of what comes next.

abbrev over : List Frame → State → State
over ws (evaluating e env fs) = evaluating e env (fs ++ ws)
over ws (inspecting q fs) = inspecting q (fs ++ ws)
over ws uncovered = uncovered
over ws stuck = stuck

abbrev over_question : List Frame → Question → Question
over_question ws q = record { place = q.place; alternatives = q.alternatives; environment = q.environment; frames = q.frames ++ ws }

abbrev over_next : List Frame → Next → Next
over_next ws demands = demands
over_next ws lacks = lacks
over_next ws (stops why) = stops why
over_next ws (goes s) = goes (over ws s)
over_next ws (waits q) = waits (over_question ws q)

behind_over : (ws : List Frame) (es : Exprs) (env : Env) (fs : List Frame) → with_fields es env (fs ++ ws) ≡ with_fields es env fs ++ ws
unfolding with_fields
behind_over ws []ₑ env fs = refl
behind_over ws (e ∷ₑ es) env fs = refl

choose_over : (ws : List Frame) (alts : Alternatives) (c : ℕ) (env : Env) (fs : List Frame) → choose alts c env (fs ++ ws) ≡ over ws (choose alts c env fs)
unfolding choose
choose_over ws no_more c env fs = refl
choose_over ws (absent alts) zero env fs = refl
choose_over ws (absent alts) (suc c) env fs = choose_over ws alts c env fs
choose_over ws (present e alts) zero env fs = refl
choose_over ws (present e alts) (suc c) env fs = choose_over ws alts c env fs

resume_over : (ws : List Frame) (c : Option Closure) (fs : List Frame) → resume c (fs ++ ws) ≡ over ws (resume c fs)
unfolding resume
resume_over ws none fs = refl
resume_over ws (some (suspended e env)) fs = refl
resume_over ws (some (input_part q)) fs = refl

enter_over : (ws : List Frame) (f : Option Function) (es : Exprs) (env : Env) (fs : List Frame) → enter f es env (fs ++ ws) ≡ over ws (enter f es env fs)
unfolding enter
enter_over ws none es env fs = refl
enter_over ws (some f) es env fs = refl

-- where the state is no result, the same comes next over any frames
view_over : (p : Program) (ws : List Frame) (s : State) → children_of s ≡ none → view p (over ws s) ≡ over_next ws (view p s)
unfolding view children_of
view_over p ws (evaluating (variable n) env fs) h = ap goes (resume_over ws (lookup env n) fs)
view_over p ws (evaluating (call f es) env fs) h = ap goes (enter_over ws (function_at p f) es env fs)
view_over p ws (evaluating (construct t c es) env []) h = absurd (clash (cc))
view_over p ws (evaluating (construct t c es) env (waiting alts outer ∷ fs)) h = ap goes (choose_over ws alts c _ fs)
view_over p ws (evaluating (construct t c []ₑ) env (fields y ys outer ∷ fs)) h = ap (λ (gs : List Frame). goes (evaluating y outer gs)) (behind_over ws ys outer fs)
view_over p ws (evaluating (construct t c (x ∷ₑ es)) env (fields y ys outer ∷ fs)) h =
    ap (λ (gs : List Frame). goes (evaluating x env gs)) (behind_over ws es env (fields y ys outer ∷ fs))
view_over p ws (evaluating (case t x alts) env fs) h = refl
view_over p ws (evaluating (let_in t x body) env fs) h = refl
view_over p ws (evaluating (target l x) env fs) h = by_label (eqb l p.label)
  where
    by_label : (sought : Bool)
        → pick sought demands (goes (evaluating x env (fs ++ ws))) ≡ over_next ws (pick sought demands (goes (evaluating x env fs)))
    by_label true = refl
    by_label false = refl
view_over p ws (inspecting q []) h = absurd (clash (cc))
view_over p ws (inspecting q (waiting alts outer ∷ fs)) h = refl
view_over p ws (inspecting q (fields y ys outer ∷ fs)) h = ap (λ (gs : List Frame). goes (evaluating y outer gs)) (behind_over ws ys outer fs)
view_over p ws uncovered h = refl
view_over p ws stuck h = refl

answer_over : (i : Parts) (ws : List Frame) (N : Next) → answer i (over_next ws N) ≡ over_next ws (answer i N)
unfolding answer look answered
answer_over i ws demands = refl
answer_over i ws lacks = refl
answer_over i ws (stops why) = refl
answer_over i ws (goes s) = refl
answer_over i ws (waits q) = seen (at i q.place)
  where
    seen : (x : Seen) → look (over_question ws q) x ≡ over_next ws (look q x)
    seen gone = refl
    seen free = refl
    seen (has c k) = ap goes (choose_over ws q.alternatives c _ q.frames)

next_over : (p : Program) (i : Parts) (ws : List Frame) (s : State) → children_of s ≡ none → next p i (over ws s) ≡ over_next ws (next p i s)
unfolding next
next_over p i ws s h = ap (answer i) (view_over p ws s h) ∙ answer_over i ws (view p s)

-- Rows of fields that wait, the innermost first; a row may be empty, and then has no frame.

abbrev frames_of : List (Exprs × Env) → List Frame
frames_of [] = []
frames_of (r ∷ rs) = with_fields r.0 r.1 (frames_of rs)

module _ (p : Program) (i : Parts) where
  -- what the evaluation comes to from a result on, with these rows waiting, the children of the result before the others
  go_on : ℕ → ℕ → List (Exprs × Env) → Run
  go_on left n [] = ended value n
  go_on left n ((([]ₑ), env) ∷ rs) = go_on left n rs
  go_on zero n ((e ∷ₑ es, env) ∷ rs) = unfinished n
  go_on (suc left) n ((e ∷ₑ es, env) ∷ rs) = eval p i left (suc n) (evaluating e env (frames_of ((es, env) ∷ rs)))

  finish : Came (Unit {0}) → List (Exprs × Env) → Run
  finish (came x left n) rs = go_on left n rs
  finish (stopped r) rs = r

  finish_unit : Came (Exprs × Env) → List (Exprs × Env) → Run
  finish_unit (came c left n) rs = go_on left n (c ∷ rs)
  finish_unit (stopped r) rs = r

  -- What comes next at a result: the first field that waits is turned to, or it is the end. (No case is among rows of fields.)
  abbrev turns_to : List Frame → Next
  turns_to [] = stops value
  turns_to (waiting alts env ∷ fs) = stops unknown
  turns_to (fields e es env ∷ fs) = goes (evaluating e env (with_fields es env fs))

  construct_turns : (t c : ℕ) (es : Exprs) (env : Env) (rs : List (Exprs × Env))
      → next p i (evaluating (construct t c es) env (frames_of rs)) ≡ turns_to (frames_of ((es, env) ∷ rs))
  unfolding next answer view with_fields
  construct_turns t c []ₑ env [] = refl
  construct_turns t c (x ∷ₑ es) env [] = refl
  construct_turns t c es env (([]ₑ, outer) ∷ rs) = construct_turns t c es env rs
  construct_turns t c []ₑ env ((y ∷ₑ ys, outer) ∷ rs) = refl
  construct_turns t c (x ∷ₑ es) env ((y ∷ₑ ys, outer) ∷ rs) = refl

  part_turns : (q : Rattle.reach.specs.Parts.Place) (env : Env) (rs : List (Exprs × Env)) → next p i (inspecting q (frames_of rs)) ≡ turns_to (frames_of (([]ₑ, env) ∷ rs))
  unfolding next answer view with_fields
  part_turns q env [] = refl
  part_turns q env (([]ₑ, outer) ∷ rs) = part_turns q env rs
  part_turns q env ((y ∷ₑ ys, outer) ∷ rs) = refl

  result_next : (s : State) (c : Exprs × Env) (rs : List (Exprs × Env)) → children_of s ≡ some c → next p i (over (frames_of rs) s) ≡ turns_to (frames_of (c ∷ rs))
  unfolding children_of
  result_next (evaluating (variable n) env []) c rs h = absurd (clash (cc))
  result_next (evaluating (call f es) env []) c rs h = absurd (clash (cc))
  result_next (evaluating (construct t d es) env []) c rs h =
      let same : (es, env) ≡ c = cc in
      subst (λ (x : Exprs × Env). next p i (evaluating (construct t d es) env (frames_of rs)) ≡ turns_to (frames_of (x ∷ rs))) same (construct_turns t d es env rs)
  result_next (evaluating (case t x alts) env []) c rs h = absurd (clash (cc))
  result_next (evaluating (let_in t x body) env []) c rs h = absurd (clash (cc))
  result_next (evaluating (target l x) env []) c rs h = absurd (clash (cc))
  result_next (evaluating e env (f ∷ fs)) c rs h = absurd (clash (cc))
  result_next (inspecting q []) c rs h =
      let same : ([]ₑ, Rattle.reach.specs.Eval.empty) ≡ c = cc in
      subst (λ (x : Exprs × Env). next p i (inspecting q (frames_of rs)) ≡ turns_to (frames_of (x ∷ rs))) same (part_turns q _ rs)
  result_next (inspecting q (f ∷ fs)) c rs h = absurd (clash (cc))
  result_next uncovered c rs h = absurd (clash (cc))
  result_next stuck c rs h = absurd (clash (cc))

  turns_on : (left n : ℕ) (s : State) (rs : List (Exprs × Env)) → next p i s ≡ turns_to (frames_of rs) → eval p i left n s ≡ go_on left n rs
  unfolding go_on with_fields
  turns_on left n s [] h = eval_stops p i left n s value h
  turns_on left n s (([]ₑ, env) ∷ rs) h = turns_on left n s rs h
  turns_on zero n s ((e ∷ₑ es, env) ∷ rs) h = eval_spent p i n s _ h
  turns_on (suc left) n s ((e ∷ₑ es, env) ∷ rs) h = eval_step p i left n s _ h

  -- The evaluation over rows of fields: the unit-evaluator, then its children and the rows.
  over_none : (left n : ℕ) (s : State) (rs : List (Exprs × Env)) → ((s' : State) → eval p i left (suc n) (over (frames_of rs) s') ≡ finish_unit (unit_eval p i left (suc n) s') rs)
      → children_of s ≡ none → (N : Next) → next p i s ≡ N → eval p i (suc left) n (over (frames_of rs) s) ≡ finish_unit (unit_eval p i (suc left) n s) rs
  unfolding unit_eval finish_unit
  over_none left n s rs ih h demands w = rw (h, w) (eval_demands p i (suc left) n (over (frames_of rs) s) (next_over p i (frames_of rs) s h ∙ ap (over_next (frames_of rs)) w))
  over_none left n s rs ih h lacks w = rw (h, w) (eval_lacks p i (suc left) n (over (frames_of rs) s) (next_over p i (frames_of rs) s h ∙ ap (over_next (frames_of rs)) w))
  over_none left n s rs ih h (stops why) w = rw (h, w) (eval_stops p i (suc left) n (over (frames_of rs) s) why (next_over p i (frames_of rs) s h ∙ ap (over_next (frames_of rs)) w))
  over_none left n s rs ih h (goes s') w =
      rw (h, w) (eval_step p i left n (over (frames_of rs) s) (over (frames_of rs) s') (next_over p i (frames_of rs) s h ∙ ap (over_next (frames_of rs)) w) ∙ ih s')
  over_none left n s rs ih h (waits q) w =
      rw (h, w) (eval_wait p i left n (over (frames_of rs) s) (over_question (frames_of rs) q) (next_over p i (frames_of rs) s h ∙ ap (over_next (frames_of rs)) w))

  over_spent : (n : ℕ) (s : State) (rs : List (Exprs × Env)) → children_of s ≡ none → (N : Next) → next p i s ≡ N
      → eval p i zero n (over (frames_of rs) s) ≡ finish_unit (unit_eval p i zero n s) rs
  unfolding unit_eval finish_unit conclude
  over_spent n s rs h demands w = rw (h, w) (eval_demands p i zero n (over (frames_of rs) s) (next_over p i (frames_of rs) s h ∙ ap (over_next (frames_of rs)) w))
  over_spent n s rs h lacks w = rw (h, w) (eval_lacks p i zero n (over (frames_of rs) s) (next_over p i (frames_of rs) s h ∙ ap (over_next (frames_of rs)) w))
  over_spent n s rs h (stops why) w = rw (h, w) (eval_stops p i zero n (over (frames_of rs) s) why (next_over p i (frames_of rs) s h ∙ ap (over_next (frames_of rs)) w))
  over_spent n s rs h (goes s') w = rw (h, w) (eval_spent p i n (over (frames_of rs) s) _ (next_over p i (frames_of rs) s h ∙ ap (over_next (frames_of rs)) w))
  over_spent n s rs h (waits q) w = rw (h, w) (eval_spent_wait p i i n (over (frames_of rs) s) _ (next_over p i (frames_of rs) s h ∙ ap (over_next (frames_of rs)) w))

  unit_result : (left n : ℕ) (s : State) (c : Exprs × Env) → children_of s ≡ some c → unit_eval p i left n s ≡ came c left n
  unfolding unit_eval
  unit_result zero n s c h = rw h
  unit_result (suc left) n s c h = rw h

  over_last : (n : ℕ) (s : State) (rs : List (Exprs × Env)) (c : Option (Exprs × Env)) → children_of s ≡ c
      → eval p i zero n (over (frames_of rs) s) ≡ finish_unit (unit_eval p i zero n s) rs
  unfolding finish_unit
  over_last n s rs none h = over_spent n s rs h (next p i s) refl
  over_last n s rs (some c) h = rw (unit_result zero n s c h) (turns_on zero n (over (frames_of rs) s) (c ∷ rs) (result_next s c rs h))

  over_step : (left n : ℕ) (s : State) (rs : List (Exprs × Env)) → ((s' : State) → eval p i left (suc n) (over (frames_of rs) s') ≡ finish_unit (unit_eval p i left (suc n) s') rs)
      → (c : Option (Exprs × Env)) → children_of s ≡ c → eval p i (suc left) n (over (frames_of rs) s) ≡ finish_unit (unit_eval p i (suc left) n s) rs
  unfolding finish_unit
  over_step left n s rs ih none h = over_none left n s rs ih h (next p i s) refl
  over_step left n s rs ih (some c) h = rw (unit_result (suc left) n s c h) (turns_on (suc left) n (over (frames_of rs) s) (c ∷ rs) (result_next s c rs h))

  eval_over : (left n : ℕ) (s : State) (rs : List (Exprs × Env)) → eval p i left n (over (frames_of rs) s) ≡ finish_unit (unit_eval p i left n s) rs
  eval_over zero n s rs = over_last n s rs (children_of s) refl
  eval_over (suc left) n s rs = over_step left n s rs (λ s'. eval_over left (suc n) s' rs) (children_of s) refl

  -- No more steps are left than there were.
  abbrev Within : {A : Type 0} → ℕ → Came A → Type 0
  Within limit (came x left n) = left ≤ limit
  Within limit (stopped r) = Unit {0}

  within_more : {A : Type 0} (a b : ℕ) (x : Came A) → a ≤ b → Within a x → Within b x
  within_more a b (came x left n) h g = omega arith
  within_more a b (stopped r) h g = tt

  unit_within_step : (left n : ℕ) (s : State) → ((s' : State) → Within left (unit_eval p i left (suc n) s'))
      → (c : Option (Exprs × Env)) → children_of s ≡ c → (N : Next) → next p i s ≡ N → Within (suc left) (unit_eval p i (suc left) n s)
  unfolding unit_eval
  unit_within_step left n s ih (some c) h N w = rw h (omega arith)
  unit_within_step left n s ih none h demands w = rw (h, w) tt
  unit_within_step left n s ih none h lacks w = rw (h, w) tt
  unit_within_step left n s ih none h (stops why) w = rw (h, w) tt
  unit_within_step left n s ih none h (goes s') w = rw (h, w) (within_more left (suc left) (unit_eval p i left (suc n) s') (omega arith) (ih s'))
  unit_within_step left n s ih none h (waits q) w = rw (h, w) tt

  unit_within_last : (n : ℕ) (s : State) (c : Option (Exprs × Env)) → children_of s ≡ c → Within zero (unit_eval p i zero n s)
  unfolding unit_eval
  unit_within_last n s (some c) h = rw h (omega arith)
  unit_within_last n s none h = rw h tt

  unit_within : (left n : ℕ) (s : State) → Within left (unit_eval p i left n s)
  unit_within zero n s = unit_within_last n s (children_of s) refl
  unit_within (suc left) n s = unit_within_step left n s (λ s'. unit_within left (suc n) s') (children_of s) refl (next p i s) refl

  -- what is whole of one child goes on with the others
  abbrev Goes : ℕ → Type 0
  Goes levels = (es : Exprs) (env : Env) (left n : ℕ) (rs : List (Exprs × Env)) → left ≤ levels
      → (go_on left n ((es, env) ∷ rs) ≡ finish (in_turn p i (whole p i levels) es env left n) rs) × Within left (in_turn p i (whole p i levels) es env left n)

  -- the children behind one that is whole, or that stopped
  after_child : (levels : ℕ) (es : Exprs) (env : Env) (rs : List (Exprs × Env)) (limit : ℕ) (x : Came (Unit {0})) → Within limit x
      → ((left n : ℕ) → left ≤ limit → (go_on left n ((es, env) ∷ rs) ≡ finish (in_turn p i (whole p i levels) es env left n) rs) × Within left (in_turn p i (whole p i levels) es env left n))
      → (finish x ((es, env) ∷ rs) ≡ finish (and_then x (λ y left n. in_turn p i (whole p i levels) es env left n)) rs)
      × Within limit (and_then x (λ y left n. in_turn p i (whole p i levels) es env left n))
  unfolding finish and_then
  after_child levels es env rs limit (came y left n) h on =
      let more = on left n h in
      (more.0, within_more left limit (in_turn p i (whole p i levels) es env left n) h more.1)
  after_child levels es env rs limit (stopped r) h on = (refl, tt)

  -- the children of a child's result, then those behind it
  after_unit : (levels : ℕ) → Goes levels → (rs : List (Exprs × Env)) (limit : ℕ) (x : Came (Exprs × Env)) → limit ≤ levels → Within limit x
      → (finish_unit x rs ≡ finish (and_then x (λ c left n. in_turn p i (whole p i levels) c.0 c.1 left n)) rs)
      × Within limit (and_then x (λ c left n. in_turn p i (whole p i levels) c.0 c.1 left n))
  unfolding finish finish_unit and_then
  after_unit levels on rs limit (came c left n) few h =
      let more = on c.0 c.1 left n rs (omega arith) in
      (more.0, within_more left limit (in_turn p i (whole p i levels) c.0 c.1 left n) h more.1)
  after_unit levels on rs limit (stopped r) few h = (refl, tt)

  turns_none : Goes zero
  unfolding go_on finish in_turn
  turns_none []ₑ env left n rs h = (refl, omega arith)
  turns_none (e ∷ₑ es) env zero n rs h = (refl, tt)
  turns_none (e ∷ₑ es) env (suc left) n rs h = absurd (clash (omega arith))

  turns_more : (levels : ℕ) → Goes levels → Goes (suc levels)
  unfolding go_on finish in_turn whole whole_by
  turns_more levels below []ₑ env left n rs h = (refl, omega arith)
  turns_more levels below (e ∷ₑ es) env zero n rs h = (refl, tt)
  turns_more levels below (e ∷ₑ es) env (suc left) n rs h =
      let unit = after_unit levels below ((es, env) ∷ rs) left (unit_eval p i left (suc n) (evaluating e env [])) (omega arith) (unit_within left (suc n) (evaluating e env [])) in
      let child = after_child (suc levels) es env rs left (whole_by p i (whole p i levels) left (suc n) (evaluating e env [])) unit.1
      (λ a b few. turns_more levels below es env a b rs (omega arith)) in
      (eval_over left (suc n) (evaluating e env []) ((es, env) ∷ rs) ∙ unit.0 ∙ child.0, within_more left (suc left) (and_then (whole_by p i (whole p i levels) left (suc n) (evaluating e env [])) (λ y a b. in_turn p i (whole p i (suc levels)) es env a b)) (omega arith) child.1)

  turns : (levels : ℕ) → Goes levels
  turns zero = turns_none
  turns (suc levels) = turns_more levels (turns levels)

  -- 000, section 3.4: "the → relation is applied recursively to the root's children in a left-to-right, depth-first order"
  end_is : (x : Came (Unit {0})) → finish x [] ≡ end_of x
  unfolding finish go_on
  end_is (came y left n) = refl
  end_is (stopped r) = refl

start_over : (p : Program) → over [] (start p) ≡ start p
unfolding start start_of
start_over p = by_source (function_at p p.source)
  where
    by_source : (f : Option Function) → over [] (start_of f) ≡ start_of f
    by_source none = refl
    by_source (some f) = refl

pub whole_run_law : (p : Program) (i : Parts) → run p i ≡ whole_run p i
unfolding run whole_run whole_by
whole_run_law p i =
    ap (eval p i p.steps 0) (sym (start_over p))
    ∙ eval_over p i p.steps 0 (start p) []
    ∙ (after_unit p i p.steps (turns p i p.steps) [] p.steps (unit_eval p i p.steps 0 (start p)) (omega arith) (unit_within p i p.steps 0 (start p))).0
    ∙ end_is p i (whole_by p i (whole p i p.steps) p.steps 0 (start p))
