-- The answer of the whole run, by what the check, the reading of the input and the evaluation found.
-- Rests on specs/Answering and specs/Evaluating, on loaded's Files and Loaded, on rulefile's Tabled and on inputs' Depth.
use Prim.Native.Nat.{ℕ, ◌≤◌, ◌<◌}
use mathlib.Core.Path.{◌≡◌, refl, sym, ◌∙◌, ap, subst}
use mathlib.Core.List.{List, ◌++◌}
use mathlib.Core.Option.{Option, none, some}
use native.Mathlib.Omega.{arith}
use lib.ListN.{length, take, length-take, length-append, get_or-append}
use borrow.Author.Tests.{le-leb, lt-leb}
use Rattle.std.specs.Prelude.{Result, Ok, Err}
use Rattle.std.specs.Prelude as Std
use Rattle.reach.specs.declared.Refusal.{Refusal}
use Rattle.reach.specs.declared.Refusal.TheVariants.{BadInput, WorkTooShort}
use Rattle.reach.specs.declared.Outcome.{Outcome}
use Rattle.reach.specs.Limits.{work_words}
use Rattle.reach.specs.Syntax.{Program}
use Rattle.reach.specs.Parts.{Parts}
use Rattle.reach.specs.Types.{source_slots}
use Rattle.reach.specs.Eval as Eval
use Rattle.reach.specs.Input.{read_input, input_of}
use Rattle.reach.specs.Answers.{check, accepted, turned_back, outcome_of, run_input, run_checked, run_answer}
use Rattle.reach.proofs.Base.{clash}
use Rattle.readings.proofs.Demands as Readings
use Rattle.reach.proofs.Limits.{within_limit}
use Rattle.inputs.specs.Depth.{input_at, reading_of}
use Rattle.rulefile.specs.declared.Loaded.{Loaded}
use Rattle.rulefile.specs.Loading.{type_places, function_places, Tabled, Loads}
use Rattle.rulefile.proofs.Tabled.{program_goal}
use Rattle.machine.proofs.Cells.{kept_cells}
use Rattle.loaded.proofs.Files.{given_file}
use Rattle.running.specs.Looked.{LookedAt}
use Rattle.binding.specs.Underway.{GivenInput}
use Rattle.results.specs.Results.{ran_so, run_result}
use Rattle.closed.specs.Answering.{Leaves, RunPromise, HasRun}
use Rattle.closed.specs.Evaluating.{Runnable, RunsAs}
use Rattle.results.specs.declared.Ran.{Ran}

-- what a call promises of its own answer holds of the definition's
pub run_so : {file input work work' : List ℕ} {r : Result Ran Refusal} → RunPromise file input work work' r → HasRun file input work work'
run_so {file} {input} {work} {work'} call = subst (RunPromise file input work work') call.answer_is call

-- a refused file
pub answer_refused : (file input : List ℕ) (work : ℕ) {why : Refusal} → check file ≡ turned_back why → Err why ≡ run_result (run_answer file input work)
unfolding run_answer run_checked
answer_refused file input work h = rw h

module _ {file : List ℕ} {r : Loaded} {p : Program} (checked : check file ≡ accepted p) (t : Tabled file r p) where
  abbrev input_there : List ℕ → Option (Parts × ℕ)
  input_there input = input_at file (type_places r) (function_places r) r.goal.source r.goal.depths input

  -- the types, the source's parameters and the goal that are handed on are the program's
  input_is : (input : List ℕ) → input_there input ≡ read_input p input
  unfolding read_input source_slots
  input_is input =
      let given = given_file checked t in
      rw ((program_goal t).source_is, (program_goal t).depths_are, ← given.file_of.types_there, ← given.parameters_there)

  -- an input that does not fit
  pub answer_bad : (input : List ℕ) (work : ℕ) → input_there input ≡ none → Err BadInput ≡ run_result (run_answer file input work)
  unfolding run_answer run_checked run_input
  answer_bad input work h = rw (checked, ← (input_is input), h)

  module _ (input : List ℕ) {j : Parts} {deep : ℕ} (fits : input_there input ≡ some (j, deep)) where
    read : read_input p input ≡ some (j, deep)
    read = sym (input_is input) ∙ fits

    pub given_of : GivenInput file (type_places r) (function_places r) input p j
    unfolding input_of
    given_of = record { of_file = given_file checked t; reads = rw read refl }

    -- no value is deeper than 64
    pub deep_small : deep ≤ 64
    deep_small =
        let (within, same, is) = (Readings.depth_exactly file p checked input j deep).0 read in
        omega (arith, is, within_limit file p checked j within)

    -- too few words
    pub answer_short : (work : ℕ) → work < work_words r.goal.steps → Err WorkTooShort ≡ run_result (run_answer file input work)
    unfolding run_answer run_checked run_input
    answer_short work short =
        let z : work < work_words p.steps = omega (arith, (program_goal t).steps_is) in
        rw (checked, read, lt-leb _ _ z)

    -- the run
    pub answer_ran :
        (work : ℕ) (o : Outcome) → work_words r.goal.steps ≤ work → o ≡ outcome_of (Eval.run p j)
        → Ok (ran_so o deep) ≡ run_result (run_answer file input work)
    unfolding run_answer run_checked run_input
    answer_ran work o enough is =
        let z : work_words p.steps ≤ work = omega (arith, (program_goal t).steps_is) in
        rw (checked, read, le-leb _ _ z, is)

-- what was read, by how `input_depth` tells it
reading_none : (o : Option (Parts × ℕ)) → Std.None ≡ reading_of o → o ≡ none
reading_none none e = refl
reading_none (some row) e = absurd (clash (cc))

reading_some : (o : Option (Parts × ℕ)) {deep : ℕ} → Std.Some deep ≡ reading_of o → (j : Parts) × (o ≡ some (j, deep))
reading_some none e = absurd (clash (cc))
reading_some (some (j, d)) {deep} e = let same : d ≡ deep = cc in (j, ap (λ (n : ℕ). some (j, n)) same)

-- The same for a file that was loaded, by the functions that `run` calls.
module _ (file : List ℕ) (r : Loaded) (here : Loads file (Ok r)) where
  module _ (input : List ℕ) {b : Std.Option ℕ} (told : b ≡ reading_of (input_there here.1 here.2 input)) where
    pub run_bad : (work : ℕ) → b ≡ Std.None → Err BadInput ≡ run_result (run_answer file input work)
    run_bad work e = answer_bad here.1 here.2 input work (reading_none _ (sym e ∙ told))

    module _ {deep : ℕ} (is-deep : b ≡ Std.Some deep) {words : ℕ} (words_are : words ≡ work_words r.goal.steps) where
      fits : (j : Parts) × (input_there here.1 here.2 input ≡ some (j, deep))
      fits = reading_some (input_there here.1 here.2 input) (sym is-deep ∙ told)

      pub run_deep : deep ≤ 64
      run_deep = deep_small here.1 here.2 input fits.1

      pub run_short : (work : ℕ) → work < words → Err WorkTooShort ≡ run_result (run_answer file input work)
      run_short work short = answer_short here.1 here.2 input fits.1 work (omega arith)

      pub run_able : (w : List ℕ) → words ≤ length w → Runnable file (type_places r) (function_places r) input r.goal (take words w)
      run_able w enough = (
        here.0,
        fits.0,
        given_of here.1 here.2 input fits.1,
        program_goal here.2,
        omega (arith, length-take words w, (program_goal here.2).steps_is),
      )

      module _ {v : List ℕ} {o : Outcome} (runs : RunsAs file (type_places r) (function_places r) input r.goal v o) where
        pub run_ran : (work : ℕ) → words ≤ work → Ok (ran_so o deep) ≡ run_result (run_answer file input work)
        run_ran work enough =
            answer_ran here.1 here.2 input fits.1 work o (omega arith)
            (runs here.0 fits.0 (given_of here.1 here.2 input fits.1) (program_goal here.2)).0

        -- what the words that were lent on stand for, they stand for with those behind them
        pub run_leaves : (behind : List ℕ) → Leaves (Ok (ran_so o deep)) file input (v ++ behind)
        run_leaves behind p j checked reads =
            let given = given_of here.1 here.2 input fits.1 in
            let one : here.0 ≡ p = cc here.1 in
            let looked = (runs here.0 fits.0 given (program_goal here.2)).1 in
            let stand = looked.stands in
            let two : fits.0 ≡ j = cc given.reads in
            let longer = (kept_cells (v ++ behind) stand (omega (arith, stand.fits, length-append v behind)) (λ i l. get_or-append v behind 0 i (omega (arith, stand.fits)))).1 in
            subst (λ q. LookedAt q j q.steps (v ++ behind)) one
            (subst (λ k. LookedAt here.0 k here.0.steps (v ++ behind)) two
            (record { cells = looked.cells; input = looked.input; stands = longer; below = looked.below; enough = looked.enough }))
