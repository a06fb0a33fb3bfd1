-- What `missing` means: a run is missing exactly where, inside the step limit, a case finds that it has no alternative for its constructor, and the step
-- that finds it is the last that counts. A number that names nothing is never taken for it.
-- Rests on specs/States and Evaluation.
use Prim.Native.Nat.{ℕ, zero, suc, ◌+◌, ◌-◌}
use mathlib.Core.Path.{◌≡◌, refl, sym, ◌∙◌, ap, subst}
use mathlib.Core.Logic.{◌↔◌}
use mathlib.Core.Bool.{Bool, true, false}
use mathlib.Core.List.{List, [], ◌∷◌}
use mathlib.Core.Option.{Option, none, some}
use lib.Dec.{eqb}
use native.Mathlib.Omega.{arith}
use Rattle.reach.specs.Base.{pick}
use Rattle.reach.specs.Syntax.{variable, call, construct, case, let_in, target, Exprs, []ₑ, ◌∷ₑ◌, Alternatives, no_more, absent, present, Function, Program, function_at}
use Rattle.reach.specs.Parts.{Parts, Seen, gone, free, has, at}
use Rattle.reach.specs.Eval.{Env, Closure, suspended, input_part, lookup, Frame, waiting, fields, State, evaluating, inspecting, uncovered, stuck, resume, choose, enter, Question, answered, Next, demands, lacks, stops, goes, waits, view, look, answer, next, Run, reached, ended, unfinished, missing, halted, eval, start_of, start, run, Spent}
use Rattle.reach.specs.States.{Steps, no_step, one_more, Without, FindsNone, for_construction, for_part, MissingAfter}
use Rattle.reach.proofs.Base.{clash}
use Rattle.reach.proofs.Evaluation.{eval_step, eval_wait, eval_demands, eval_lacks, eval_stops, eval_spent, eval_spent_wait, run_spent}

-- an alternative that is missing is one of those that are absent, and the other way round
choose_uncovered : (alts : Alternatives) (c : ℕ) (env : Env) (fs : List Frame) → (choose alts c env fs ≡ uncovered) ↔ Without alts c
unfolding choose
choose_uncovered no_more c env fs = (λ e. absurd (clash (cc)), λ h. absurd h)
choose_uncovered (absent alts) zero env fs = (λ e. tt, λ h. refl)
choose_uncovered (absent alts) (suc c) env fs = choose_uncovered alts c env fs
choose_uncovered (present x alts) zero env fs = (λ e. absurd (clash (cc)), λ h. absurd h)
choose_uncovered (present x alts) (suc c) env fs = choose_uncovered alts c env fs

resume_covered : (c : Option Closure) (fs : List Frame) → resume c fs ≡ uncovered → ⊥
unfolding resume
resume_covered none fs e = clash (cc)
resume_covered (some (suspended x env)) fs e = clash (cc)
resume_covered (some (input_part q)) fs e = clash (cc)

enter_covered : (f : Option Function) (es : Exprs) (env : Env) (fs : List Frame) → enter f es env fs ≡ uncovered → ⊥
unfolding enter
enter_covered none es env fs e = clash (cc)
enter_covered (some f) es env fs e = clash (cc)

start_covered : (f : Option Function) → start_of f ≡ uncovered → ⊥
unfolding start_of
start_covered none e = clash (cc)
start_covered (some f) e = clash (cc)

-- an end that is not missing
abbrev Other : Run → Type 0
Other (reached n) = Unit {0}
Other (ended why n) = Unit {0}
Other (unfinished n) = Unit {0}
Other (missing n) = ⊥
Other (halted q n) = Unit {0}

module _ (p : Program) (i : Parts) where
  other : {r : Run} {m : ℕ} → r ≡ missing m → Other r → ⊥
  other e t = subst Other e t

  to : {s s' : State} → goes s ≡ goes s' → s ≡ s'
  to e = cc

  -- a step leads to a missing alternative from the states that find one missing, and from no other
  finds_none : (s : State) → next p i s ≡ goes uncovered → FindsNone i s
  unfolding next answer view look answered
  finds_none (evaluating (variable n) env fs) e = absurd (resume_covered (lookup env n) fs (to e))
  finds_none (evaluating (call f es) env fs) e = absurd (enter_covered (function_at p f) es env fs (to e))
  finds_none (evaluating (construct t c []ₑ) env []) e = absurd (clash (cc))
  finds_none (evaluating (construct t c (x ∷ₑ es)) env []) e = absurd (clash (cc))
  finds_none (evaluating (construct t c []ₑ) env (fields y ys outer ∷ fs)) e = absurd (clash (cc))
  finds_none (evaluating (construct t c (x ∷ₑ es)) env (fields y ys outer ∷ fs)) e = absurd (clash (cc))
  finds_none (evaluating (construct t c es) env (waiting alts outer ∷ fs)) e = for_construction ((choose_uncovered alts c _ fs).0 (to e))
  finds_none (evaluating (case t x alts) env fs) e = absurd (clash (cc))
  finds_none (evaluating (let_in t x body) env fs) e = absurd (clash (cc))
  finds_none (evaluating (target l x) env fs) e = absurd (passed (eqb l p.label) e)
    where
      passed : (sought : Bool) → answer i (pick sought demands (goes (evaluating x env fs))) ≡ goes uncovered → ⊥
      passed true e = clash (cc)
      passed false e = clash (cc)
  finds_none (inspecting q []) e = absurd (clash (cc))
  finds_none (inspecting q (fields y ys outer ∷ fs)) e = absurd (clash (cc))
  finds_none (inspecting q (waiting alts outer ∷ fs)) e = seen (at i q) refl e
    where
      seen : (x : Seen) → at i q ≡ x → look (record { place = q; alternatives = alts; environment = outer; frames = fs }) x ≡ goes uncovered
          → FindsNone i (inspecting q (waiting alts outer ∷ fs))
      seen gone w e = absurd (clash (cc))
      seen free w e = absurd (clash (cc))
      seen (has c k) w e = for_part w ((choose_uncovered alts c _ fs).0 (to e))
  finds_none uncovered e = absurd (clash (cc))
  finds_none stuck e = absurd (clash (cc))

  none_found : {s : State} → FindsNone i s → next p i s ≡ goes uncovered
  unfolding next answer view look answered
  none_found (for_construction {c = c} {alts = alts} {fs = fs} without) = ap goes ((choose_uncovered alts c _ fs).1 without)
  none_found (for_part {q = q} {c = c} {k = k} {outer = outer} {alts = alts} {fs = fs} w without) =
      ap (look (record { place = q; alternatives = alts; environment = outer; frames = fs })) w ∙ ap goes ((choose_uncovered alts c _ fs).1 without)

  -- and nothing else lacks an alternative
  lacks_uncovered : (s : State) → next p i s ≡ lacks → s ≡ uncovered
  unfolding next answer view look
  lacks_uncovered (evaluating (variable n) env fs) e = absurd (clash (cc))
  lacks_uncovered (evaluating (call f es) env fs) e = absurd (clash (cc))
  lacks_uncovered (evaluating (construct t c []ₑ) env []) e = absurd (clash (cc))
  lacks_uncovered (evaluating (construct t c (x ∷ₑ es)) env []) e = absurd (clash (cc))
  lacks_uncovered (evaluating (construct t c []ₑ) env (fields y ys outer ∷ fs)) e = absurd (clash (cc))
  lacks_uncovered (evaluating (construct t c (x ∷ₑ es)) env (fields y ys outer ∷ fs)) e = absurd (clash (cc))
  lacks_uncovered (evaluating (construct t c es) env (waiting alts outer ∷ fs)) e = absurd (clash (cc))
  lacks_uncovered (evaluating (case t x alts) env fs) e = absurd (clash (cc))
  lacks_uncovered (evaluating (let_in t x body) env fs) e = absurd (clash (cc))
  lacks_uncovered (evaluating (target l x) env fs) e = absurd (passed (eqb l p.label) e)
    where
      passed : (sought : Bool) → answer i (pick sought demands (goes (evaluating x env fs))) ≡ lacks → ⊥
      passed true e = clash (cc)
      passed false e = clash (cc)
  lacks_uncovered (inspecting q []) e = absurd (clash (cc))
  lacks_uncovered (inspecting q (fields y ys outer ∷ fs)) e = absurd (clash (cc))
  lacks_uncovered (inspecting q (waiting alts outer ∷ fs)) e = absurd (seen (at i q) e)
    where
      seen : (x : Seen) → look (record { place = q; alternatives = alts; environment = outer; frames = fs }) x ≡ lacks → ⊥
      seen gone e = clash (cc)
      seen free e = clash (cc)
      seen (has c k) e = clash (cc)
  lacks_uncovered uncovered e = refl
  lacks_uncovered stuck e = absurd (clash (cc))

  -- the last of n steps finds that an alternative is missing
  abbrev LastFinds : ℕ → Type 0
  LastFinds n = (m : ℕ) × (s : State) × (n ≡ suc m) × Steps p i m s × FindsNone i s

  came : {n : ℕ} {s : State} → Steps p i n s → s ≡ uncovered → LastFinds n
  unfolding start
  came no_step e = absurd (start_covered (function_at p p.source) e)
  came (one_more {n = n} {s = s} before on) e = (n, s, refl, before, finds_none s (on ∙ ap goes e))

  by_next : (left : ℕ) {n : ℕ} {s : State} → Steps p i n s → (m : ℕ) → eval p i left n s ≡ missing m
      → ((s' : State) → next p i s ≡ goes s' → LastFinds m) → ((q : Question) → next p i s ≡ waits q → LastFinds m)
      → (N : Next) → next p i s ≡ N → LastFinds m
  by_next left {n} {s} before m e go wait demands w = absurd (other (sym (eval_demands p i left n s w) ∙ e) tt)
  by_next left {n} {s} before m e go wait lacks w =
      let found : missing n ≡ missing m = sym (eval_lacks p i left n s w) ∙ e in
      let same : n ≡ m = cc in
      subst LastFinds same (came before (lacks_uncovered s w))
  by_next left {n} {s} before m e go wait (stops why) w = absurd (other (sym (eval_stops p i left n s why w) ∙ e) tt)
  by_next left {n} {s} before m e go wait (goes s') w = go s' w
  by_next left {n} {s} before m e go wait (waits q) w = wait q w

  eval_finds : (left : ℕ) {n : ℕ} {s : State} → Steps p i n s → (m : ℕ) → eval p i left n s ≡ missing m → LastFinds m
  eval_finds zero {n} {s} before m e =
      by_next zero before m e (λ s' w. absurd (other (sym (eval_spent p i n s s' w) ∙ e) tt)) (λ q w. absurd (other (sym (eval_spent_wait p i i n s q w) ∙ e) tt))
      (next p i s) refl
  eval_finds (suc left) {n} {s} before m e =
      by_next (suc left) before m e (λ s' w. eval_finds left (one_more before w) m (sym (eval_step p i left n s s' w) ∙ e))
      (λ q w. absurd (other (sym (eval_wait p i left n s q w) ∙ e) tt)) (next p i s) refl

  -- the run goes on from every state that it comes to
  run_from : {n : ℕ} {s : State} → Steps p i n s → (left : ℕ) → left + n ≡ p.steps → run p i ≡ eval p i left n s
  unfolding run
  run_from no_step left h =
      let z : p.steps ≡ left = omega (arith, h) in
      ap (λ (m : ℕ). eval p i m 0 (start p)) z
  run_from (one_more {n = n} {s = s} {s' = s'} before on) left h = run_from before (suc left) (omega (arith, h)) ∙ eval_step p i left n s s' on

  pub missing_exactly : (n : ℕ) → (run p i ≡ missing n) ↔ MissingAfter p i n
  unfolding run next answer view
  missing_exactly n = (forth, back)
    where
      forth : run p i ≡ missing n → MissingAfter p i n
      forth e =
          let (m, s, last, before, finds) = eval_finds p.steps no_step n e in
          (m, s, last, omega (arith, subst (Spent p.steps) e (run_spent p i)), before, finds)

      back : MissingAfter p i n → run p i ≡ missing n
      back (m, s, last, inside, before, finds) =
          let left = p.steps - suc m in
          run_from (one_more before (none_found finds)) left (omega arith) ∙ eval_lacks p i left (suc m) uncovered refl ∙ ap missing (sym last)
