-- 02, Slip 5: the definition of a step as it was before its rules stood in the order of 000, by the constructs' codes; and the evaluation, the search and the
-- answers by it. They are those of specs/: every file and input gets the steps and results of the definition before.
-- Rests on specs/Eval, specs/Search and specs/Answers.
use Prim.Native.Nat.{ℕ, zero, suc}
use mathlib.Core.Path.{◌≡◌, refl, ap, ◌∙◌, fun_ext}
use mathlib.Core.List.{List, [], ◌∷◌, flat_map}
use mathlib.Core.Option.{Option, none, some}
use lib.Dec.{eqb, leb}
use Rattle.reach.specs.declared.Refusal.TheVariants.{BadInput, WorkTooShort}
use Rattle.reach.specs.Base.{pick}
use Rattle.reach.specs.Limits.{work_words}
use Rattle.reach.specs.Syntax.{variable, call, construct, case, let_in, target, []ₑ, ◌∷ₑ◌, Program, function_at}
use Rattle.reach.specs.Parts.{Parts}
use Rattle.reach.specs.Types.{Fork, least_depths}
use Rattle.reach.specs.Eval.{operands, lookup, waiting, fields, with_fields, State, evaluating, inspecting, uncovered, stuck, resume, choose, enter, value, unknown, Next, demands, lacks, stops, goes, waits}
use Rattle.reach.specs.Eval.{view, answer, next, Run, unfinished, halted, conclude, eval, start, run}
use Rattle.reach.specs.Search.{Entry, gather, spent, branches, input_behind, state_behind, search, open_input, entries}
use Rattle.reach.specs.Input.{read_input}
use Rattle.reach.specs.Lists.{cut, room_of}
use Rattle.reach.specs.Answers.{Checked, accepted, turned_back, check, SearchAnswer, no_search, cut_answer, search_checked, search_answer, RunAnswer, no_run, ran, outcome_of, run_input, run_checked, run_answer}

-- the definition before, with what Slip 7 says of results: the expressions by their codes, then the parts of the input
unfoldable pub view_before : Program → State → Next
view_before p (evaluating (variable n) env fs) = goes (resume (lookup env n) fs)
view_before p (evaluating (call f es) env fs) = goes (enter (function_at p f) es env fs)
view_before p (evaluating (construct t c []ₑ) env []) = stops value
view_before p (evaluating (construct t c (x ∷ₑ xs)) env []) = goes (evaluating x env (with_fields xs env []))
view_before p (evaluating (construct t c es) env (waiting alts outer ∷ fs)) = goes (choose alts c (operands outer es env) fs)
view_before p (evaluating (construct t c []ₑ) env (fields y ys outer ∷ fs)) = goes (evaluating y outer (with_fields ys outer fs))
view_before p (evaluating (construct t c (x ∷ₑ xs)) env (fields y ys outer ∷ fs)) = goes (evaluating x env (with_fields xs env (fields y ys outer ∷ fs)))
view_before p (evaluating (case t e alts) env fs) = goes (evaluating e env (waiting alts env ∷ fs))
view_before p (evaluating (let_in t e body) env fs) = goes (evaluating body (operands env (e ∷ₑ []ₑ) env) fs)
view_before p (evaluating (target l e) env fs) = pick (eqb l p.label) demands (goes (evaluating e env fs))
view_before p (inspecting q []) = stops value
view_before p (inspecting q (waiting alts env ∷ fs)) = waits (record { place = q; alternatives = alts; environment = env; frames = fs })
view_before p (inspecting q (fields y ys outer ∷ fs)) = goes (evaluating y outer (with_fields ys outer fs))
view_before p uncovered = lacks
view_before p stuck = stops unknown

-- at every state the first rule that speaks of it says what the definition before said
pub same_view : (p : Program) (s : State) → view p s ≡ view_before p s
unfolding view view_before
same_view p (evaluating (variable n) env fs) = refl
same_view p (evaluating (call f es) env fs) = refl
same_view p (evaluating (construct t c []ₑ) env []) = refl
same_view p (evaluating (construct t c (x ∷ₑ xs)) env []) = refl
same_view p (evaluating (construct t c es) env (waiting alts outer ∷ fs)) = refl
same_view p (evaluating (construct t c []ₑ) env (fields y ys outer ∷ fs)) = refl
same_view p (evaluating (construct t c (x ∷ₑ xs)) env (fields y ys outer ∷ fs)) = refl
same_view p (evaluating (case t e alts) env fs) = refl
same_view p (evaluating (let_in t e body) env fs) = refl
same_view p (evaluating (target l e) env fs) = refl
same_view p (inspecting q []) = refl
same_view p (inspecting q (waiting alts env ∷ fs)) = refl
same_view p (inspecting q (fields y ys outer ∷ fs)) = refl
same_view p uncovered = refl
same_view p stuck = refl

-- The evaluation, the search and the answers by a given definition of a step, each as specs/ has it by `view`.
module _ (step : Program → State → Next) where
  abbrev pub next_by : Program → Parts → State → Next
  next_by p input s = answer input (step p s)

  unfoldable pub eval_by : Program → Parts → ℕ → ℕ → State → Run
  eval_by p input zero n s = conclude (λ s'. unfinished n) (λ q. unfinished n) n (next_by p input s)
  eval_by p input (suc left) n s = conclude (λ s'. eval_by p input left (suc n) s') (λ q. halted q.place n) n (next_by p input s)

  abbrev pub run_by : Program → Parts → Run
  run_by p input = eval_by p input p.steps 0 (start p)

  unfoldable pub search_by : Program → List ℕ → ℕ → ℕ → Parts → State → List Entry
  search_by p table zero n input s = gather (λ s'. spent n input) (λ q. spent n input) n input (next_by p input s)
  search_by p table (suc left) n input s =
      gather (λ s'. search_by p table left (suc n) input s')
      (λ q. flat_map (λ (f : Fork). search_by p table left (suc n) (input_behind q f input) (state_behind q f)) (branches p table input q))
      n
      input
      (next_by p input s)

  abbrev pub entries_by : Program → List Entry
  entries_by p = search_by p (least_depths p.types) p.steps 0 (open_input p) (start p)

  unfoldable pub search_checked_by : ℕ → ℕ → Checked → SearchAnswer
  search_checked_by work list (turned_back why) = no_search why
  search_checked_by work list (accepted p) =
      let c = cut (room_of list) (entries_by p) in
      let answer = cut_answer c.full c.kept in
      pick (leb (work_words p.steps) work) answer (no_search WorkTooShort)

  unfoldable pub run_input_by : Program → ℕ → Option (Parts × ℕ) → RunAnswer
  run_input_by p work none = no_run BadInput
  run_input_by p work (some (j, deep)) = pick (leb (work_words p.steps) work) (ran (outcome_of (run_by p j)) deep) (no_run WorkTooShort)

  unfoldable pub run_checked_by : List ℕ → ℕ → Checked → RunAnswer
  run_checked_by input work (turned_back why) = no_run why
  run_checked_by input work (accepted p) = run_input_by p work (read_input p input)

-- the steps and results of the definition before
abbrev pub next_before : Program → Parts → State → Next
next_before = next_by view_before

abbrev pub run_before : Program → Parts → Run
run_before = run_by view_before

abbrev pub entries_before : Program → List Entry
entries_before = entries_by view_before

abbrev pub search_before : List ℕ → ℕ → ℕ → SearchAnswer
search_before file work list = search_checked_by view_before work list (check file)

abbrev pub run_answer_before : List ℕ → List ℕ → ℕ → RunAnswer
run_answer_before file input work = run_checked_by view_before input work (check file)

-- by `view` they are those of specs/
eval_by_law : (p : Program) (input : Parts) (left n : ℕ) (s : State) → eval p input left n s ≡ eval_by view p input left n s
unfolding eval eval_by next
eval_by_law p input zero n s = refl
eval_by_law p input (suc left) n s =
    ap (λ (go : State → Run). conclude go (λ q. halted q.place n) n (answer input (view p s))) (fun_ext (λ s'. eval_by_law p input left (suc n) s'))

search_by_law : (p : Program) (table : List ℕ) (left n : ℕ) (input : Parts) (s : State) → search p table left n input s ≡ search_by view p table left n input s
unfolding search search_by next
search_by_law p table zero n input s = refl
search_by_law p table (suc left) n input s =
    ap (λ (below : Parts → State → List Entry).
    gather (λ s'. below input s') (λ q. flat_map (λ (f : Fork). below (input_behind q f input) (state_behind q f)) (branches p table input q)) n input (answer input (view p s)))
    (fun_ext (λ i. fun_ext (λ s'. search_by_law p table left (suc n) i s')))

-- and the two definitions of a step are one function
same : view ≡ view_before
same = fun_ext (λ p. fun_ext (λ s. same_view p s))

-- 02, Slip 5: "every file and input gets the steps and results of the definition before": the next state of every state, the end of every run, the entries
-- of every search, and the answers
pub same_next : (p : Program) (input : Parts) (s : State) → next p input s ≡ next_before p input s
unfolding next
same_next p input s = ap (answer input) (same_view p s)

pub same_run : (p : Program) (input : Parts) → run p input ≡ run_before p input
unfolding run
same_run p input = eval_by_law p input p.steps 0 (start p) ∙ ap (λ (step : Program → State → Next). run_by step p input) same

pub same_entries : (p : Program) → entries p ≡ entries_before p
unfolding entries
same_entries p =
    search_by_law p (least_depths p.types) p.steps 0 (open_input p) (start p) ∙ ap (λ (step : Program → State → Next). entries_by step p) same

search_checked_law : (work list : ℕ) (c : Checked) → search_checked work list c ≡ search_checked_by view_before work list c
unfolding search_checked search_checked_by
search_checked_law work list (turned_back why) = refl
search_checked_law work list (accepted p) = rw (same_entries p) refl

run_input_law : (p : Program) (work : ℕ) (o : Option (Parts × ℕ)) → run_input p work o ≡ run_input_by view_before p work o
unfolding run_input run_input_by
run_input_law p work none = refl
run_input_law p work (some (j, deep)) = rw (same_run p j) refl

run_checked_law : (input : List ℕ) (work : ℕ) (c : Checked) → run_checked input work c ≡ run_checked_by view_before input work c
unfolding run_checked run_checked_by
run_checked_law input work (turned_back why) = refl
run_checked_law input work (accepted p) = run_input_law p work (read_input p input)

pub same_search : (file : List ℕ) (work list : ℕ) → search_answer file work list ≡ search_before file work list
unfolding search_answer
same_search file work list = search_checked_law work list (check file)

pub same_run_answer : (file input : List ℕ) (work : ℕ) → run_answer file input work ≡ run_answer_before file input work
unfolding run_answer
same_run_answer file input work = run_checked_law input work (check file)
