-- Laws of the evaluation: what happens on a partial input happens on every input that binds at least as much, up to the place where it
-- halts. A run takes at most S steps, all of them where it is unfinished; a closed input never halts.
-- Rests on specs/Eval and Order.
use Prim.Native.Nat.{ℕ, zero, suc, ◌+◌, ◌-◌, ◌<◌}
use mathlib.Core.Path.{◌≡◌, refl, sym, ◌∙◌, ap, subst}
use mathlib.Core.Bool.{Bool, true, false}
use mathlib.Core.List.{List, [], ◌∷◌}
use mathlib.Core.Logic.{◌↔◌}
use mathlib.Core.Option.{Option, none, some}
use lib.ListN.{length}
use lib.Dec.{ltb, eqb}
use native.Mathlib.Omega.{arith}
use borrow.Author.Tests.{ltb-true, eq-eqb}
use Rattle.reach.specs.Base.{pick}
use Rattle.reach.specs.States.{EnvIn, FramesIn, StateIn, NothingWaits}
use Rattle.reach.specs.Syntax.{Expr, variable, call, construct, case, let_in, target}
use Rattle.reach.specs.Syntax.{Exprs, []ₑ, ◌∷ₑ◌, Alternatives, no_more, absent, present, nth_expr, Function, Program, function_at, source_types, parameters_of}
use Rattle.reach.specs.Parts.{Parts, width, Place, Seen, gone, free, has, at, Closed, ◌⊑◌, There}
use Rattle.reach.specs.Eval.{fields_of, part_of, Env, empty, operands, input_parts, size, Closure, suspended, input_part, suspend, lookup, Frame, waiting, fields, with_fields}
use Rattle.reach.specs.Eval.{State, evaluating, inspecting, uncovered, stuck, resume, choose, enter, Question, answered, Stop, value, Next, demands, lacks, stops, goes, waits}
use Rattle.reach.specs.Eval.{view, look, answer, next, Run, reached, ended, unfinished, missing, halted, conclude, eval, start_of, start, run, NotHalted, Spent}
use Rattle.reach.proofs.Base.{clash, picked}
use Rattle.reach.proofs.Order.{⊑-has, ⊑-there, part_there, field_there, free_unbound, closed_has, ⊑_refl}

-- so every place that a question or what comes next speaks of
abbrev pub QuestionIn : Parts → Question → Type 0
QuestionIn e q = There (at e q.place) × EnvIn e q.environment × FramesIn e q.frames

abbrev pub NextIn : Parts → Next → Type 0
NextIn e demands = Unit {0}
NextIn e lacks = Unit {0}
NextIn e (stops why) = Unit {0}
NextIn e (goes s) = StateIn e s
NextIn e (waits q) = QuestionIn e q

abbrev ClosureIn : Parts → Option Closure → Type 0
ClosureIn e none = Unit {0}
ClosureIn e (some (suspended x env)) = EnvIn e env
ClosureIn e (some (input_part q)) = There (at e q)

-- and stays there when more is bound
pub env_more : {e j : Parts} → e ⊑ j → (env : Env) → EnvIn e env → EnvIn j env
env_more a empty h = tt
env_more a (operands outer es inner) h = (env_more a outer h.0, env_more a inner h.1)
env_more a (input_parts outer row k) h = (env_more a outer h.0, λ n l. ⊑-there a (part_of row n) (h.1 n l))

pub frames_more : {e j : Parts} → e ⊑ j → (fs : List Frame) → FramesIn e fs → FramesIn j fs
frames_more a [] h = tt
frames_more a (waiting alts env ∷ fs) h = (env_more a env h.0, frames_more a fs h.1)
frames_more a (fields x xs env ∷ fs) h = (env_more a env h.0, frames_more a fs h.1)

-- a variable stands for something that is there
lookup_in : (e : Parts) (env : Env) (n : ℕ) → EnvIn e env → ClosureIn e (lookup env n)
unfolding lookup suspend
lookup_in e empty n h = tt
lookup_in e (operands outer es inner) n h =
    picked (ClosureIn e) (ltb n (size outer)) (λ further-out. lookup_in e outer n h.0) (λ ours. of_expr (nth_expr es (n - size outer)))
  where
    of_expr : (x : Option Expr) → ClosureIn e (suspend x inner)
    of_expr none = tt
    of_expr (some x) = h.1
lookup_in e (input_parts outer row k) n h =
    picked (ClosureIn e) (ltb n (size outer)) (λ further-out. lookup_in e outer n h.0)
    (λ ours. picked (ClosureIn e) (ltb (n - size outer) k) (λ l. h.1 (n - size outer) (ltb-true (n - size outer) k l)) (λ beyond. tt))

resume_in : (e : Parts) (c : Option Closure) (fs : List Frame) → ClosureIn e c → FramesIn e fs → StateIn e (resume c fs)
unfolding resume
resume_in e none fs h g = tt
resume_in e (some (suspended x env)) fs h g = (h, g)
resume_in e (some (input_part q)) fs h g = (h, g)

-- 01: evaluation ends at the sought target. Two rules of 000 speak of it, Targ₁ and Targ₂, and Targ₁ stands first.
pub sought_first : (p : Program) (l : ℕ) (x : Expr) (env : Env) (fs : List Frame) → l ≡ p.label → view p (evaluating (target l x) env fs) ≡ demands
unfolding view
sought_first p l x env fs is = rw (eq-eqb l p.label is) refl

-- 02, Slip 7: "a missing alternative still stops everything", whatever waits
pub missing_stops_all : (p : Program) (alts : Alternatives) (env : Env) (fs : List Frame) → view p (choose (absent alts) zero env fs) ≡ lacks
unfolding view choose
missing_stops_all p alts env fs = refl

-- 02, Slip 7: "its fields are evaluated from left to right, each as a result in turn": a field's own fields before the next field
pub own_fields_first : (p : Program) (t c : ℕ) (x : Expr) (es : Exprs) (env : Env) (y : Expr) (ys : Exprs) (outer : Env) (fs : List Frame)
    → view p (evaluating (construct t c (x ∷ₑ es)) env (fields y ys outer ∷ fs)) ≡ goes (evaluating x env (with_fields es env (fields y ys outer ∷ fs)))
unfolding view
own_fields_first p t c x es env y ys outer fs = refl

-- 01 and 02, Slip 7: evaluation ends at a value exactly where nothing waits
pub ends_exactly : (p : Program) (i : Parts) (s : State) → (next p i s ≡ stops value) ↔ NothingWaits s
unfolding next answer view look
ends_exactly p i (evaluating (variable n) env fs) = (λ e. clash (cc), λ h. absurd h)
ends_exactly p i (evaluating (call f es) env fs) = (λ e. clash (cc), λ h. absurd h)
ends_exactly p i (evaluating (construct t c []ₑ) env []) = (λ e. tt, λ h. refl)
ends_exactly p i (evaluating (construct t c (x ∷ₑ es)) env []) = (λ e. clash (cc), λ h. absurd h)
ends_exactly p i (evaluating (construct t c []ₑ) env (fields y ys outer ∷ fs)) = (λ e. clash (cc), λ h. absurd h)
ends_exactly p i (evaluating (construct t c (x ∷ₑ es)) env (fields y ys outer ∷ fs)) = (λ e. clash (cc), λ h. absurd h)
ends_exactly p i (evaluating (construct t c es) env (waiting alts outer ∷ fs)) = (λ e. clash (cc), λ h. absurd h)
ends_exactly p i (evaluating (case t x alts) env fs) = (λ e. clash (cc), λ h. absurd h)
ends_exactly p i (evaluating (let_in t x body) env fs) = (λ e. clash (cc), λ h. absurd h)
ends_exactly p i (evaluating (target l x) env fs) = (passed (eqb l p.label), λ h. absurd h)
  where
    passed : (b : Bool) → answer i (pick b demands (goes (evaluating x env fs))) ≡ stops value → ⊥
    passed true e = clash (cc)
    passed false e = clash (cc)
ends_exactly p i (inspecting q []) = (λ e. tt, λ h. refl)
ends_exactly p i (inspecting q (fields y ys outer ∷ fs)) = (λ e. clash (cc), λ h. absurd h)
ends_exactly p i (inspecting q (waiting alts outer ∷ fs)) = (seen (at i q), λ h. absurd h)
  where
    seen : (x : Seen) → look (record { place = q; alternatives = alts; environment = outer; frames = fs }) x ≡ stops value → ⊥
    seen gone e = clash (cc)
    seen free e = clash (cc)
    seen (has c k) e = clash (cc)
ends_exactly p i uncovered = (λ e. clash (cc), λ h. absurd h)
ends_exactly p i stuck = (λ e. clash (cc), λ h. absurd h)

choose_in : (e : Parts) (alts : Alternatives) (c : ℕ) (env : Env) (fs : List Frame) → EnvIn e env → FramesIn e fs → StateIn e (choose alts c env fs)
unfolding choose
choose_in e no_more c env fs h g = tt
choose_in e (absent alts) zero env fs h g = tt
choose_in e (absent alts) (suc c) env fs h g = choose_in e alts c env fs h g
choose_in e (present x alts) zero env fs h g = (h, g)
choose_in e (present x alts) (suc c) env fs h g = choose_in e alts c env fs h g

enter_in : (e : Parts) (f : Option Function) (es : Exprs) (env : Env) (fs : List Frame) → EnvIn e env → FramesIn e fs → StateIn e (enter f es env fs)
unfolding enter
enter_in e none es env fs h g = tt
enter_in e (some f) es env fs h g = ((tt, h), g)

with_fields_in : (e : Parts) (es : Exprs) (env : Env) (fs : List Frame) → EnvIn e env → FramesIn e fs → FramesIn e (with_fields es env fs)
unfolding with_fields
with_fields_in e []ₑ env fs h g = g
with_fields_in e (x ∷ₑ es) env fs h g = (h, g)

view_in : (p : Program) (e : Parts) (s : State) → StateIn e s → NextIn e (view p s)
unfolding view
view_in p e (evaluating (variable n) env fs) h = resume_in e (lookup env n) fs (lookup_in e env n h.0) h.1
view_in p e (evaluating (call f es) env fs) h = enter_in e (function_at p f) es env fs h.0 h.1
view_in p e (evaluating (construct t c []ₑ) env []) h = tt
view_in p e (evaluating (construct t c (x ∷ₑ es)) env []) h = (h.0, with_fields_in e es env [] h.0 tt)
view_in p e (evaluating (construct t c []ₑ) env (fields y ys outer ∷ fs)) h = (h.1.0, with_fields_in e ys outer fs h.1.0 h.1.1)
view_in p e (evaluating (construct t c (x ∷ₑ es)) env (fields y ys outer ∷ fs)) h = (h.0, with_fields_in e es env (fields y ys outer ∷ fs) h.0 h.1)
view_in p e (evaluating (construct t c es) env (waiting alts outer ∷ fs)) h = choose_in e alts c (operands outer es env) fs (h.1.0, h.0) h.1.1
view_in p e (evaluating (case t x alts) env fs) h = (h.0, (h.0, h.1))
view_in p e (evaluating (let_in t x body) env fs) h = ((h.0, h.0), h.1)
view_in p e (evaluating (target l x) env fs) h = picked (NextIn e) (eqb l p.label) (λ sought. tt) (λ other. h)
view_in p e (inspecting q []) h = tt
view_in p e (inspecting q (fields y ys outer ∷ fs)) h = (h.1.0, with_fields_in e ys outer fs h.1.0 h.1.1)
view_in p e (inspecting q (waiting alts env ∷ fs)) h = (h.0, h.1.0, h.1.1)
view_in p e uncovered h = tt
view_in p e stuck h = tt

-- the fields of a part that turned out to be bound are there
pub answered_in : (e : Parts) (q : Question) (c k : ℕ) → at e q.place ≡ has c k → QuestionIn e q → StateIn e (answered q c k)
unfolding answered part_of
answered_in e q c k h g =
    choose_in e q.alternatives c (input_parts q.environment (fields_of q.place) k) q.frames
    (g.1, λ n l. field_there e q.place c k n h l)
    g.2

answer_in : (e : Parts) (N : Next) → NextIn e N → NextIn e (answer e N)
unfolding answer look
answer_in e demands h = tt
answer_in e lacks h = tt
answer_in e (stops why) h = tt
answer_in e (goes s) h = h
answer_in e (waits q) h = seen (at e q.place) refl
  where
    seen : (x : Seen) → at e q.place ≡ x → NextIn e (look q x)
    seen gone g = tt
    seen free g = h
    seen (has c k) g = answered_in e q c k g h

-- so a step leads from places that are there to places that are there
pub next_in : (p : Program) (e : Parts) (s : State) → StateIn e s → (N : Next) → next p e s ≡ N → NextIn e N
unfolding next
next_in p e s h N w = subst (NextIn e) w (answer_in e (view p s) (view_in p e s h))

-- the parameters are there in every input of as many parts
pub start_in : (p : Program) (e : Parts) → width e ≡ length (source_types p) → StateIn e (start p)
unfolding start start_of source_types part_of
start_in p e h = by_source (function_at p p.source) h
  where
    by_source : (f : Option Function) → width e ≡ length (parameters_of f) → StateIn e (start_of f)
    by_source none g = tt
    by_source (some f) g = ((tt, λ n l. part_there e n (subst (λ (m : ℕ). n < m) (sym g) l)), tt)

-- What comes next does not wait.
abbrev pub Settled : Next → Type 0
Settled demands = Unit {0}
Settled lacks = Unit {0}
Settled (stops why) = Unit {0}
Settled (goes s) = Unit {0}
Settled (waits q) = ⊥

answer_more : {e j : Parts} → e ⊑ j → (N : Next) → NextIn e N → Settled (answer e N) → answer j N ≡ answer e N
unfolding answer look
answer_more a demands h t = refl
answer_more a lacks h t = refl
answer_more a (stops why) h t = refl
answer_more a (goes s) h t = refl
answer_more {e} {j} a (waits q) h t = seen (at e q.place) refl t
  where
    seen : (x : Seen) → at e q.place ≡ x → Settled (look q x) → look q (at j q.place) ≡ look q (at e q.place)
    seen gone g w = absurd (subst There g h.0)
    seen free g w = absurd w
    seen (has c k) g w = ap (look q) (⊑-has a q.place g ∙ sym g)

-- what does not wait on an input comes next on every input that binds at least as much
pub next_more : (p : Program) {e j : Parts} → e ⊑ j → (s : State) → StateIn e s → (N : Next) → Settled N → next p e s ≡ N → next p j s ≡ N
unfolding next
next_more p {e} {j} a s h N t g = answer_more a (view p s) (view_in p e s h) (subst Settled (sym g) t) ∙ g

pub answer_waits : (e : Parts) (N : Next) (q : Question) → answer e N ≡ waits q → (N ≡ waits q) × (at e q.place ≡ free)
unfolding answer look
answer_waits e demands q h = absurd (subst Settled h tt)
answer_waits e lacks q h = absurd (subst Settled h tt)
answer_waits e (stops why) q h = absurd (subst Settled h tt)
answer_waits e (goes s) q h = absurd (subst Settled h tt)
answer_waits e (waits r) q h = seen (at e r.place) refl h
  where
    seen : (x : Seen) → at e r.place ≡ x → look r x ≡ waits q → (waits r ≡ waits q) × (at e q.place ≡ free)
    seen gone g w = absurd (subst Settled w tt)
    seen free g w = (w, ap (λ (y : Question). at e y.place) (ap asked (sym w)) ∙ g)
      where
        asked : Next → Question
        asked demands = r
        asked lacks = r
        asked (stops why) = r
        asked (goes s) = r
        asked (waits y) = y
    seen (has c k) g w = absurd (subst Settled w tt)

-- where the evaluation waits, the part is open
pub waits_free : (p : Program) (e : Parts) (s : State) (q : Question) → next p e s ≡ waits q → at e q.place ≡ free
unfolding next
waits_free p e s q h = (answer_waits e (view p s) q h).1

-- and on any other input what comes next hangs on that part alone
pub waits_look : (p : Program) (e j : Parts) (s : State) (q : Question) → next p e s ≡ waits q → next p j s ≡ look q (at j q.place)
unfolding next answer
waits_look p e j s q h = ap (answer j) (answer_waits e (view p s) q h).0

pub waits_answered : (p : Program) (e j : Parts) (s : State) (q : Question) (c k : ℕ) → next p e s ≡ waits q → at j q.place ≡ has c k
    → next p j s ≡ goes (answered q c k)
unfolding look
waits_answered p e j s q c k h g = waits_look p e j s q h ∙ ap (look q) g

-- the evaluation, by what comes next
pub eval_step : (p : Program) (e : Parts) (left n : ℕ) (s s' : State) → next p e s ≡ goes s' → eval p e (suc left) n s ≡ eval p e left (suc n) s'
unfolding eval conclude
eval_step p e left n s s' h = rw h

pub eval_wait : (p : Program) (e : Parts) (left n : ℕ) (s : State) (q : Question) → next p e s ≡ waits q
    → eval p e (suc left) n s ≡ halted q.place n
unfolding eval conclude
eval_wait p e left n s q h = rw h

pub eval_demands : (p : Program) (e : Parts) (left n : ℕ) (s : State) → next p e s ≡ demands → eval p e left n s ≡ reached n
unfolding eval conclude
eval_demands p e zero n s h = rw h
eval_demands p e (suc left) n s h = rw h

pub eval_lacks : (p : Program) (e : Parts) (left n : ℕ) (s : State) → next p e s ≡ lacks → eval p e left n s ≡ missing n
unfolding eval conclude
eval_lacks p e zero n s h = rw h
eval_lacks p e (suc left) n s h = rw h

pub eval_stops : (p : Program) (e : Parts) (left n : ℕ) (s : State) (why : Stop) → next p e s ≡ stops why → eval p e left n s ≡ ended why n
unfolding eval conclude
eval_stops p e zero n s why h = rw h
eval_stops p e (suc left) n s why h = rw h

pub eval_spent : (p : Program) (e : Parts) (n : ℕ) (s s' : State) → next p e s ≡ goes s' → eval p e zero n s ≡ unfinished n
unfolding eval conclude
eval_spent p e n s s' h = rw h

-- with no step left, a case that waits on a part is unfinished, whatever the part
pub eval_spent_wait : (p : Program) (e j : Parts) (n : ℕ) (s : State) (q : Question) → next p e s ≡ waits q → eval p j zero n s ≡ unfinished n
unfolding eval conclude look
eval_spent_wait p e j n s q h = rw (waits_look p e j s q h) (whatever (at j q.place))
  where
    whatever : (x : Seen) → conclude (λ s'. unfinished n) (λ q'. unfinished n) n (look q x) ≡ unfinished n
    whatever gone = refl
    whatever free = refl
    whatever (has c k) = refl

-- with no step left it does not halt
unhalted : (p : Program) (e : Parts) (n : ℕ) (s : State) (N : Next) → next p e s ≡ N → NotHalted (eval p e zero n s)
unhalted p e n s demands w = rw (eval_demands p e zero n s w) tt
unhalted p e n s lacks w = rw (eval_lacks p e zero n s w) tt
unhalted p e n s (stops why) w = rw (eval_stops p e zero n s why w) tt
unhalted p e n s (goes s') w = rw (eval_spent p e n s s' w) tt
unhalted p e n s (waits q) w = rw (eval_spent_wait p e e n s q w) tt

-- Where the evaluation halts on a part of an input, it halts on every input that binds more and leaves that part open.
module _ (p : Program) {e j : Parts} (a : e ⊑ j) (q : Place) (m : ℕ) (f : at j q ≡ free) where
  HaltMore : ℕ → ℕ → State → Type 0
  HaltMore left n s = eval p e left n s ≡ halted q m → eval p j left n s ≡ halted q m

  not_halted : {r : Run} {A : Type 0} → NotHalted r → r ≡ halted q m → A
  not_halted t w = absurd (subst NotHalted w t)

  step_more : (left n : ℕ) (s : State) → StateIn e s → ((s' : State) → StateIn e s' → HaltMore left (suc n) s')
      → (N : Next) → next p e s ≡ N → HaltMore (suc left) n s
  unfolding HaltMore look
  step_more left n s h ih demands w g = not_halted tt (sym (eval_demands p e (suc left) n s w) ∙ g)
  step_more left n s h ih lacks w g = not_halted tt (sym (eval_lacks p e (suc left) n s w) ∙ g)
  step_more left n s h ih (stops why) w g = not_halted tt (sym (eval_stops p e (suc left) n s why w) ∙ g)
  step_more left n s h ih (goes s') w g =
      eval_step p j left n s s' (next_more p a s h (goes s') tt w) ∙ ih s' (next_in p e s h (goes s') w) (sym (eval_step p e left n s s' w) ∙ g)
  step_more left n s h ih (waits r) w g =
      let same : halted r.place n ≡ halted q m = sym (eval_wait p e left n s r w) ∙ g in
      let place : r.place ≡ q = cc in
      eval_wait p j left n s r (waits_look p e j s r w ∙ ap (look r) (ap (at j) place ∙ f)) ∙ same

  pub halt_more : (left n : ℕ) (s : State) → StateIn e s → eval p e left n s ≡ halted q m → eval p j left n s ≡ halted q m
  unfolding HaltMore
  halt_more zero n s h g = not_halted (unhalted p e n s (next p e s) refl) g
  halt_more (suc left) n s h g = step_more left n s h (λ s' i g'. halt_more left (suc n) s' i g') (next p e s) refl g

spent_last : (p : Program) (e : Parts) (n : ℕ) (s : State) (N : Next) → next p e s ≡ N → Spent (zero + n) (eval p e zero n s)
spent_last p e n s demands w = rw (eval_demands p e zero n s w) (omega arith)
spent_last p e n s lacks w = rw (eval_lacks p e zero n s w) (omega arith)
spent_last p e n s (stops why) w = rw (eval_stops p e zero n s why w) (omega arith)
spent_last p e n s (goes s') w = rw (eval_spent p e n s s' w) (omega arith)
spent_last p e n s (waits q) w = rw (eval_spent_wait p e e n s q w) (omega arith)

spent_step : (p : Program) (e : Parts) (left n : ℕ) (s : State) → ((s' : State) → Spent (left + suc n) (eval p e left (suc n) s'))
    → (N : Next) → next p e s ≡ N → Spent (suc left + n) (eval p e (suc left) n s)
spent_step p e left n s ih demands w = rw (eval_demands p e (suc left) n s w) (omega arith)
spent_step p e left n s ih lacks w = rw (eval_lacks p e (suc left) n s w) (omega arith)
spent_step p e left n s ih (stops why) w = rw (eval_stops p e (suc left) n s why w) (omega arith)
spent_step p e left n s ih (goes s') w =
    let z : suc left + n ≡ left + suc n = omega arith in
    rw (eval_step p e left n s s' w, z) (ih s')
spent_step p e left n s ih (waits q) w = rw (eval_wait p e left n s q w) (omega arith)

steps_spent : (p : Program) (e : Parts) (left n : ℕ) (s : State) → Spent (left + n) (eval p e left n s)
steps_spent p e zero n s = spent_last p e n s (next p e s) refl
steps_spent p e (suc left) n s = spent_step p e left n s (λ s'. steps_spent p e left (suc n) s') (next p e s) refl

pub run_spent : (p : Program) (e : Parts) → Spent p.steps (run p e)
unfolding run
run_spent p e =
    let z : p.steps + 0 ≡ p.steps = omega arith in
    subst (λ (n : ℕ). Spent n (eval p e p.steps 0 (start p))) z (steps_spent p e p.steps 0 (start p))

-- A closed input never halts: it has no open part.
closed_settled : (p : Program) (j : Parts) → Closed j → (s : State) (q : Question) → next p j s ≡ waits q → ⊥
closed_settled p j z s q w =
    let open_there = waits_free p j s q w in
    let k = closed_has (⊑_refl j) z q.place open_there in
    free_unbound (sym open_there ∙ k.2)

closed_step : (p : Program) (j : Parts) → Closed j → (left n : ℕ) (s : State) → ((s' : State) → NotHalted (eval p j left (suc n) s'))
    → (N : Next) → next p j s ≡ N → NotHalted (eval p j (suc left) n s)
closed_step p j z left n s ih demands w = rw (eval_demands p j (suc left) n s w) tt
closed_step p j z left n s ih lacks w = rw (eval_lacks p j (suc left) n s w) tt
closed_step p j z left n s ih (stops why) w = rw (eval_stops p j (suc left) n s why w) tt
closed_step p j z left n s ih (goes s') w = rw (eval_step p j left n s s' w) (ih s')
closed_step p j z left n s ih (waits q) w = absurd (closed_settled p j z s q w)

closed_ends : (p : Program) (j : Parts) → Closed j → (left n : ℕ) (s : State) → NotHalted (eval p j left n s)
closed_ends p j z zero n s = unhalted p j n s (next p j s) refl
closed_ends p j z (suc left) n s = closed_step p j z left n s (λ s'. closed_ends p j z left (suc n) s') (next p j s) refl

pub run_ends : (p : Program) (j : Parts) → Closed j → NotHalted (run p j)
unfolding run
run_ends p j z = closed_ends p j z p.steps 0 (start p)
