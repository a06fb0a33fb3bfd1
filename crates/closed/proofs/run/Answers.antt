-- `closed::run` meets its contract, by the answer of the check, the reading of the input and the evaluation. Rests on Answering and on loaded's Loaded.
use mathlib.Core.Path.{refl, ◌∙◌}
use native.Mathlib.Omega.{arith}
use lib.ListN.{length-take}
use Rattle.results.proofs.Shown.{handed_on}
use Rattle.loaded.proofs.Loaded.{steps_small, taken_length, behind_kept}
use Rattle.closed.proofs.Answering.{answer_refused, run_bad, run_deep, run_short, run_able, run_ran, run_leaves}
use Rattle.closed.proofs.run.Goals as goal

pub returns-in_err-loaded : goal.returns-in_err-loaded
returns-in_err-loaded c =
    rw (handed_on _ c.from_residual.ensures)
    (record { answer_is = answer_refused c.args.file.now c.args.input.now _ c.in_err-loaded.ensures; words_are = refl; cells_are = tt })

pub returns-in_default : goal.returns-in_default
returns-in_default c =
    let told = rw c.in_ok-loaded.ensures.2.of_file at c.input_depth.ensures in
    record {
      answer_is = run_bad c.args.file.now _ c.in_ok-loaded.ensures c.args.input.now told _ c.in_default.is;
      words_are = refl;
      cells_are = tt;
    }

pub invariant_of-words : goal.invariant_of-words
invariant_of-words c = record { few = omega (arith, steps_small c.args.file.now _ c.in_ok-loaded.ensures) }

pub returns-then-work-words : goal.returns-then-work-words
returns-then-work-words c =
    let told = rw c.in_ok-loaded.ensures.2.of_file at c.input_depth.ensures in
    record {
      answer_is = run_short c.args.file.now _ c.in_ok-loaded.ensures c.args.input.now told c.in-Some.is c.words-words.ensures _ c.if-work-words.true;
      words_are = refl;
      cells_are = tt;
    }

pub slice_bounds-evaluate-end : goal.slice_bounds-evaluate-end
slice_bounds-evaluate-end c = omega (arith, length-take c.words-words.result c.args.work.now)

pub evaluate-outcome-requires : goal.evaluate-outcome-requires
evaluate-outcome-requires c =
    let told = rw c.in_ok-loaded.ensures.2.of_file at c.input_depth.ensures in
    rw c.in_ok-loaded.ensures.2.of_file
    (run_able c.args.file.now _ c.in_ok-loaded.ensures c.args.input.now told c.in-Some.is c.words-words.ensures c.args.work.now (omega arith))

pub overflow_cast-result : goal.overflow_cast-result
overflow_cast-result c =
    let told = rw c.in_ok-loaded.ensures.2.of_file at c.input_depth.ensures in
    omega (arith, run_deep c.args.file.now _ c.in_ok-loaded.ensures c.args.input.now told c.in-Some.is c.words-words.ensures)

pub returns : goal.returns
returns c =
    let told = rw c.in_ok-loaded.ensures.2.of_file at c.input_depth.ensures in
    let ran = rw c.in_ok-loaded.ensures.2.of_file at c.evaluate-outcome.ensures in
    record {
      answer_is =
          run_ran c.args.file.now _ c.in_ok-loaded.ensures c.args.input.now told c.in-Some.is c.words-words.ensures
          ran _ (omega arith);
      words_are =
          behind_kept c.args.file.now _ c.in_ok-loaded.ensures c.evaluate-outcome.new.work c.args.work.now c.words-words.ensures
          (c.evaluate-outcome.auto.work ∙ taken_length c.words-words.result c.args.work.now (omega arith));
      cells_are =
          run_leaves c.args.file.now _ c.in_ok-loaded.ensures c.args.input.now told c.in-Some.is c.words-words.ensures ran _;
    }
