-- The demands of the request, said of the call `run`: its answer, by what its contract promises, is the outcome of the published evaluation on the closed input
-- whose bytes it was given, with exact steps, and the depth of that input, or one refusal under exactly its condition. What is proved of that evaluation stands
-- in reach's Demands, of the reading of its input in readings' Demands; what the search says of the same evaluation, in search's Demands.
-- Rests on both, and on reach's Limits, Evaluation and Refusals.
use Prim.Native.Nat.{ℕ, ◌≤◌, ◌<◌}
use mathlib.Core.Path.{◌≡◌, refl, sym, ◌∙◌, ap, subst}
use mathlib.Core.Logic.{◌⊎◌, inl, inr, ⊎_elim, ◌↔◌}
use mathlib.Core.List.{List, []}
use mathlib.Core.Option.{Option, none, some, some-injective}
use native.Mathlib.Omega.{arith}
use lib.ListN.{length, drop}
use lib.Dec.{leb}
use borrow.Author.Tests.{leb-true, leb-false}
use Rattle.std.specs.Prelude.{Result, Ok, Err}
use Rattle.reach.specs.declared.Refusal.{Refusal}
use Rattle.reach.specs.declared.Refusal.TheVariants.{BadInput, WorkTooShort}
use Rattle.reach.specs.declared.Outcome.{Outcome}
use Rattle.reach.specs.declared.Outcome.TheVariants.{Unfinished, Missing}
use Rattle.reach.specs.Words.{OfFile, steps_of}
use Rattle.reach.specs.Limits.{work_words}
use Rattle.reach.specs.Syntax.{Program, source_types}
use Rattle.reach.specs.Parts.{Parts, end, opened, bound, depth, prefix}
use Rattle.reach.specs.Types.{depth_of, Typed, ClosedInput}
use Rattle.reach.specs.Whole.{whole_run}
use Rattle.reach.specs.Eval.{Run, reached, ended, unfinished, missing, halted, run, Spent}
use Rattle.reach.specs.States.{MissingAfter}
use Rattle.reach.specs.Input.{read_input}
use Rattle.reach.specs.Answers.{Checked, accepted, turned_back, check, RunAnswer, no_run, ran, outcome_of, run_input, run_checked, run_answer}
use Rattle.reach.proofs.Base.{clash, picked}
use Rattle.reach.proofs.Evaluation.{run_spent}
use Rattle.reach.proofs.Limits.{within_depth}
use Rattle.reach.proofs.Before.{run_answer_before, same_run_answer}
use Rattle.reach.proofs.Demands as Reach
use Rattle.readings.proofs.Demands as Readings
use Rattle.reach.proofs.Refusals.{turned_back_by}
use Rattle.running.specs.Looked.{LookedAt}
use Rattle.results.specs.declared.Ran.{Ran}
use Rattle.results.specs.Results.{ran_so, run_result}
use Rattle.results.proofs.Shown.{ran_shows}
use Rattle.closed.specs.Answering.{Unchanged, Leaves, RunPromise, IsInput}

-- What the answer of an accepted file says.
abbrev RunMeans : Program → List ℕ → ℕ → RunAnswer → Type 0
RunMeans p input work (no_run why) =
    ((why ≡ BadInput) × (read_input p input ≡ none))
    ⊎ ((why ≡ WorkTooShort) × ((j : Parts) × (deep : ℕ) × (read_input p input ≡ some (j, deep)) × (work < work_words p.steps)))
RunMeans p input work (ran o deep) = (j : Parts) × (read_input p input ≡ some (j, deep)) × (work_words p.steps ≤ work) × (o ≡ outcome_of (run p j))

input_means : (p : Program) (input : List ℕ) (work : ℕ) (i : Option (Parts × ℕ)) → read_input p input ≡ i → RunMeans p input work (run_input p work i)
unfolding run_input
input_means p input work none is = inl (refl, is)
input_means p input work (some (j, deep)) is =
    picked (RunMeans p input work) (leb (work_words p.steps) work)
    (λ enough. (j, is, leb-true _ _ enough, refl)) (λ short. inr (refl, (j, deep, is, leb-false _ _ short)))

run_means : (file input : List ℕ) (work : ℕ) (p : Program) → check file ≡ accepted p → RunMeans p input work (run_answer file input work)
unfolding run_answer run_checked
run_means file input work p checked = rw checked (input_means p input work (read_input p input) refl)

run_turned_back : (file input : List ℕ) (work : ℕ) (why : Refusal) → check file ≡ turned_back why → run_answer file input work ≡ no_run why
unfolding run_answer run_checked
run_turned_back file input work why checked = rw checked

-- the steps of an outcome are those of the run
steps_kept : (limit : ℕ) (x : Run) → Spent limit x → steps_of (outcome_of x) ≤ limit
unfolding outcome_of
steps_kept limit (reached n) spent = spent
steps_kept limit (ended why n) spent = spent
steps_kept limit (unfinished n) spent = omega arith
steps_kept limit (missing n) spent = spent
steps_kept limit (halted q n) spent = omega arith

unfinished_kept : (limit n : ℕ) (x : Run) → Spent limit x → Unfinished n ≡ outcome_of x → n ≡ limit
unfolding outcome_of
unfinished_kept limit n (reached m) spent is = absurd (clash (cc))
unfinished_kept limit n (ended why m) spent is = absurd (clash (cc))
unfinished_kept limit n (unfinished m) spent is = let same : n ≡ m = cc in same ∙ spent
unfinished_kept limit n (missing m) spent is = absurd (clash (cc))
unfinished_kept limit n (halted q m) spent is = absurd (clash (cc))

missing_kept : (n : ℕ) (x : Run) → Missing n ≡ outcome_of x → x ≡ missing n
unfolding outcome_of
missing_kept n (reached m) is = absurd (clash (cc))
missing_kept n (ended why m) is = absurd (clash (cc))
missing_kept n (unfinished m) is = absurd (clash (cc))
missing_kept n (missing m) is = let same : n ≡ m = cc in ap missing (sym same)
missing_kept n (halted q m) is = absurd (clash (cc))

-- `RunPromise file input work work' r` is the contract: the call answered r, and the work slice that held the words `work` holds `work'`.
module _ (file input work work' : List ℕ) (r : Result Ran Refusal) (call : RunPromise file input work work' r) where
  -- 02, Slip 5: "every file and input gets the steps and results of the definition before": the answer is the one by that definition.
  pub answered_as_before : r ≡ run_result (run_answer_before file input (length work))
  answered_as_before = call.answer_is ∙ ap run_result (same_run_answer file input (length work))

  -- 01, "Turned back": a file that the check refuses gets its number, whatever the input and the words are.
  pub refused_file : (why : Refusal) → check file ≡ turned_back why → r ≡ Err why
  refused_file why checked = call.answer_is ∙ ap run_result (run_turned_back file input (length work) why checked)

  module _ (p : Program) (checked : check file ≡ accepted p) where
    means : RunMeans p input (length work) (run_answer file input (length work))
    means = run_means file input (length work) p checked

    read : (j : Parts) (deep : ℕ) → read_input p input ≡ some (j, deep) → IsInput p input j × (deep ≡ depth j)
    read j deep is = let (within, same, as-deep) = (Readings.depth_exactly file p checked input j deep).0 is in ((within, same), as-deep)

    reads_as : (j : Parts) → IsInput p input j → read_input p input ≡ some (j, depth j)
    reads_as j is = (Readings.depth_exactly file p checked input j (depth j)).1 (is.0, is.1, refl)

    -- the bytes are of one input at most
    one_input : (j k : Parts) (deep : ℕ) → read_input p input ≡ some (j, deep) → IsInput p input k → j ≡ k
    one_input j k deep is other = ap (λ (row : Parts × ℕ). row.0) (some-injective (j, deep) (k, depth k) (sym is ∙ reads_as k other))

    -- Demand 1 and 2: the call runs exactly where the bytes are a closed input that fits and the words are enough, and answers as the published evaluation of
    -- that input ends, after exactly its steps. 02, Slip 3: "the closed run returns the largest of them, 0 without parameters": the depth of that input.
    pub ran_exactly : (o : Outcome) (deep : ℕ)
        → (r ≡ Ok (ran_so o deep)) ↔ ((j : Parts) × IsInput p input j × (work_words p.steps ≤ length work) × (o ≡ outcome_of (run p j)) × (deep ≡ depth j))
    ran_exactly o deep = (λ is. from (run_answer file input (length work)) means (sym call.answer_is ∙ is), λ h. call.answer_is ∙ into h.0 h.1 h.2 h.3 h.4 (run_answer file input (length work)) means)
      where
        from : (a : RunAnswer) → RunMeans p input (length work) a → run_result a ≡ Ok (ran_so o deep)
            → (j : Parts) × IsInput p input j × (work_words p.steps ≤ length work) × (o ≡ outcome_of (run p j)) × (deep ≡ depth j)
        from (no_run why) m is = absurd (clash (cc))
        from (ran x d) (j, reads, enough, ends) is =
            let (same, as-deep) = ran_shows x o d deep is in
            (j, (read j d reads).0, enough, sym same ∙ ends, sym as-deep ∙ (read j d reads).1)

        into :
            (j : Parts) → IsInput p input j → work_words p.steps ≤ length work → o ≡ outcome_of (run p j) → deep ≡ depth j
            → (a : RunAnswer) → RunMeans p input (length work) a → run_result a ≡ Ok (ran_so o deep)
        into j is enough ends as-deep (no_run why) (inl (by, unread)) = absurd (clash (cc (unread, reads_as j is)))
        into j is enough ends as-deep (no_run why) (inr (by, (k, d, reads, short))) = absurd (omega arith)
        into j is enough ends as-deep (ran x d) (k, reads, fits, Ended-so) =
            let same : k ≡ j = one_input k j d reads is in
            let deeper : d ≡ deep = (read k d reads).1 ∙ ap depth same ∙ sym as-deep in
            let ended-as : x ≡ o = Ended-so ∙ ap (λ (y : Parts). outcome_of (run p y)) same ∙ sym ends in
            ap (λ (y : Outcome). Ok (ran_so y d)) ended-as ∙ ap (λ (y : ℕ). Ok (ran_so o y)) deeper

    -- 01, "Turned back", refusal 10: "the bytes are not one closed, fitting value per parameter".
    pub bad_exactly : (r ≡ Err BadInput) ↔ ((j : Parts) → ¬ IsInput p input j)
    bad_exactly = (λ is j other. from (run_answer file input (length work)) means (sym call.answer_is ∙ is) j other, λ never. call.answer_is ∙ into never (run_answer file input (length work)) means)
      where
        from : (a : RunAnswer) → RunMeans p input (length work) a → run_result a ≡ Err BadInput → (j : Parts) → IsInput p input j → ⊥
        from (no_run why) (inl (by, unread)) is j other = clash (cc (unread, reads_as j other))
        from (no_run why) (inr (by, (k, d, reads, short))) is j other = clash (cc (by))
        from (ran x d) m is j other = clash (cc)

        into : ((j : Parts) → ¬ IsInput p input j) → (a : RunAnswer) → RunMeans p input (length work) a → run_result a ≡ Err BadInput
        into never (no_run why) (inl (by, unread)) = ap Err by
        into never (no_run why) (inr (by, (k, d, reads, short))) = absurd (never k (read k d reads).0)
        into never (ran x d) (k, reads, fits, Ended-so) = absurd (never k (read k d reads).0)

    -- 02, Slip 3: "the check for refusal 10 [relies] on the new figure": bytes of closed values of the parameters' types are refused exactly if the deepest
    -- of them is deeper than D.
    pub too_deep_exactly : (j : Parts) → ClosedInput p j → prefix j ≡ input → (r ≡ Err BadInput) ↔ (depth_of p.depths < depth j)
    too_deep_exactly j values same = (
      λ is. (Readings.too_deep_exactly file p checked input j values same).0 (unread (run_answer file input (length work)) means (sym call.answer_is ∙ is)),
      λ deep. bad_exactly.1 (λ k other. absurd (clash (cc (reads_as k other, (Readings.too_deep_exactly file p checked input j values same).1 deep)))),
    )
      where
        unread : (a : RunAnswer) → RunMeans p input (length work) a → run_result a ≡ Err BadInput → read_input p input ≡ none
        unread (no_run why) (inl (by, none_read)) is = none_read
        unread (no_run why) (inr (by, other)) is = absurd (clash (cc (by)))
        unread (ran x d) m is = absurd (clash (cc))

    -- 01, "Turned back", refusal 11: "the work slice of 32-bit words is shorter than 64 × S + 1,024", tested after the input.
    pub short_exactly : (r ≡ Err WorkTooShort) ↔ ((j : Parts) × IsInput p input j × (length work < work_words p.steps))
    short_exactly = (λ is. from (run_answer file input (length work)) means (sym call.answer_is ∙ is), λ h. call.answer_is ∙ into h.0 h.1 h.2 (run_answer file input (length work)) means)
      where
        from : (a : RunAnswer) → RunMeans p input (length work) a → run_result a ≡ Err WorkTooShort → (j : Parts) × IsInput p input j × (length work < work_words p.steps)
        from (no_run why) (inl (by, unread)) is = absurd (clash (cc (by)))
        from (no_run why) (inr (by, (k, d, reads, short))) is = (k, (read k d reads).0, short)
        from (ran x d) m is = absurd (clash (cc))

        into : (j : Parts) → IsInput p input j → length work < work_words p.steps → (a : RunAnswer) → RunMeans p input (length work) a → run_result a ≡ Err WorkTooShort
        into j is short (no_run why) (inl (by, unread)) = absurd (clash (cc (unread, reads_as j is)))
        into j is short (no_run why) (inr (by, other)) = ap Err by
        into j is short (ran x d) (k, reads, fits, Ended-so) = absurd (omega arith)

    -- 02, Slip 7: the whole result is looked into. The answer is that of the unit-evaluator of 000, applied again to each child of the result.
    pub ran_whole : (o : Outcome) (deep : ℕ) → r ≡ Ok (ran_so o deep) → (j : Parts) × IsInput p input j × (o ≡ outcome_of (whole_run p j))
    ran_whole o deep is =
        let (j, reads, enough, ends, as-deep) = (ran_exactly o deep).0 is in
        (j, reads, ends ∙ ap outcome_of (Reach.whole_result p j))

    -- 01: steps spent are "never above S"; "unfinished: S steps are done".
    pub steps_spent : (o : Outcome) (deep : ℕ) → r ≡ Ok (ran_so o deep) → steps_of o ≤ p.steps
    steps_spent o deep is =
        let (j, reads, enough, ends, as-deep) = (ran_exactly o deep).0 is in
        rw ends (steps_kept p.steps (run p j) (run_spent p j))

    pub unfinished_all : (n deep : ℕ) → r ≡ Ok (ran_so (Unfinished n) deep) → n ≡ p.steps
    unfinished_all n deep is =
        let (j, reads, enough, ends, as-deep) = (ran_exactly (Unfinished n) deep).0 is in
        unfinished_kept p.steps n (run p j) (run_spent p j) ends

    -- 02, Slip 1: "the closed run says missing too, no longer ended": exactly where, inside the step limit, the last of so many steps finds that a case has no
    -- alternative for its constructor.
    pub missing_exactly : (n deep : ℕ)
        → (r ≡ Ok (ran_so (Missing n) deep)) ↔ ((j : Parts) × IsInput p input j × (work_words p.steps ≤ length work) × MissingAfter p j n × (deep ≡ depth j))
    unfolding outcome_of
    missing_exactly n deep = (
      λ is. let (j, reads, enough, ends, as-deep) = (ran_exactly (Missing n) deep).0 is in
          (j, reads, enough, (Reach.missing_exactly p j n).0 (missing_kept n (run p j) ends), as-deep),
      λ h. let (j, reads, enough, finds, as-deep) = h in
          (ran_exactly (Missing n) deep).1 (j, reads, enough, sym (ap outcome_of ((Reach.missing_exactly p j n).1 finds)), as-deep),
    )

    -- 02, Slip 3: no depth is answered above D, and of an input without parameters 0.
    pub depth_within : (o : Outcome) (deep : ℕ) → r ≡ Ok (ran_so o deep) → deep ≤ depth_of p.depths
    depth_within o deep is =
        let (j, (within, same), enough, ends, as-deep) = (ran_exactly o deep).0 is in
        omega (arith, as-deep, (within_depth file p checked j within.0).0 within.1)

    pub depth_none : (o : Outcome) (deep : ℕ) → source_types p ≡ [] → r ≡ Ok (ran_so o deep) → deep ≡ 0
    unfolding depth
    depth_none o deep without is =
        let (j, (within, same), enough, ends, as-deep) = (ran_exactly o deep).0 is in
        as-deep ∙ by_row j (subst (λ (ts : List ℕ). Typed p.types ts j) without within.0.1)
      where
        by_row : (j : Parts) → Typed p.types [] j → depth j ≡ 0
        by_row end h = refl
        by_row (opened k) h = absurd h
        by_row (bound c fs k) h = absurd h

  -- which condition a refusal has
  abbrev Refusable : Refusal → Type 0
  Refusable why =
      (OfFile why × (check file ≡ turned_back why))
      ⊎ (((why ≡ BadInput) × ((p : Program) × (check file ≡ accepted p) × ((j : Parts) → ¬ IsInput p input j)))
      ⊎ ((why ≡ WorkTooShort) × ((p : Program) × (check file ≡ accepted p) × ((j : Parts) × IsInput p input j × (length work < work_words p.steps)))))

  -- Demand 1: "returns a result or one of the numbered refusals, each under its own condition only". In both directions and for every number: 1 to 9 and
  -- 15 are the check's; 10 is given for an accepted file where "the bytes are not one closed, fitting value per parameter"; 11 behind it where "the work
  -- slice of 32-bit words is shorter than 64 × S + 1,024". No other number is given.
  pub refused_exactly : (why : Refusal)
      → (r ≡ Err why)
      ↔ ((OfFile why × (check file ≡ turned_back why))
      ⊎ (((why ≡ BadInput) × ((p : Program) × (check file ≡ accepted p) × ((j : Parts) → ¬ IsInput p input j)))
      ⊎ ((why ≡ WorkTooShort) × ((p : Program) × (check file ≡ accepted p) × ((j : Parts) × IsInput p input j × (length work < work_words p.steps))))))
  refused_exactly why = (λ is. from (check file) refl is, ⊎_elim (λ h. refused_file why h.1) (⊎_elim bad short))
    where
      by_means :
          (p : Program) → check file ≡ accepted p → (a : RunAnswer) → RunMeans p input (length work) a → run_result a ≡ Err why
          → (why ≡ BadInput) ⊎ (why ≡ WorkTooShort)
      by_means p checked (no_run by) (inl (same-as, unread)) is = let same : by ≡ why = cc in inl (sym same ∙ same-as)
      by_means p checked (no_run by) (inr (same-as, rest)) is = let same : by ≡ why = cc in inr (sym same ∙ same-as)
      by_means p checked (ran o deep) m is = absurd (clash (cc))

      from : (c : Checked) → check file ≡ c → r ≡ Err why → Refusable why
      from (turned_back by) checked is =
          let same : by ≡ why = cc (refused_file by checked) in
          let turned : check file ≡ turned_back why = checked ∙ ap turned_back same in
          inl (turned_back_by file why turned, turned)
      from (accepted p) checked is =
          inr (⊎_elim (λ same-as. inl (same-as, (p, checked, (bad_exactly p checked).0 (is ∙ ap Err same-as))))
          (λ same-as. inr (same-as, (p, checked, (short_exactly p checked).0 (is ∙ ap Err same-as))))
          (by_means p checked (run_answer file input (length work)) (run_means file input (length work) p checked) (sym call.answer_is ∙ is)))

      bad : (why ≡ BadInput) × ((p : Program) × (check file ≡ accepted p) × ((j : Parts) → ¬ IsInput p input j)) → r ≡ Err why
      bad (same-as, (p, checked, never)) = (bad_exactly p checked).1 never ∙ ap Err (sym same-as)

      short :
          (why ≡ WorkTooShort) × ((p : Program) × (check file ≡ accepted p) × ((j : Parts) × IsInput p input j × (length work < work_words p.steps)))
          → r ≡ Err why
      short (same-as, (p, checked, few)) = (short_exactly p checked).1 few ∙ ap Err (sym same-as)

  -- 01, "Turned back": "Refusals 1 to 11 change no buffer." 02, Slip 4: nor does 15.
  pub refused_unchanged : (why : Refusal) → r ≡ Err why → work' ≡ work
  refused_unchanged why is = subst (λ (a : Result Ran Refusal). Unchanged a file work work') is call.words_are

  -- What the words stand for after a run: a partial input below the closed one, on which the evaluation comes to the same end.
  pub run_looked : (o : Outcome) (deep : ℕ) → r ≡ Ok (ran_so o deep) → (p : Program) (j : Parts) → check file ≡ accepted p → IsInput p input j
      → (drop (work_words p.steps) work' ≡ drop (work_words p.steps) work) × LookedAt p j p.steps work'
  run_looked o deep is p j checked input_is = (
    subst (λ (a : Result Ran Refusal). Unchanged a file work work') is call.words_are p checked,
    subst (λ (a : Result Ran Refusal). Leaves a file input work') is call.cells_are p j checked ((Readings.input_exactly file p checked input j).1 input_is),
  )
