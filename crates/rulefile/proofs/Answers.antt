-- The answers of src/lib.rt, from what their calls ensure: each refusal is the check's, and an accepted file's tables are those of its program.
-- Rests on reach's Stages for the order of the tests, and on Passes and Tabled for what the passes leave.
use Prim.Native.Nat.{ℕ}
use mathlib.Core.Path.{◌≡◌, refl, sym, ◌∙◌, ap}
use mathlib.Core.Bool.{Bool, true, false}
use mathlib.Core.List.{List, map}
use Rattle.std.specs.Prelude.{Ok, Err}
use lib.ListN.{length, take}
use Rattle.reach.specs.declared.Refusal.{Refusal}
use Rattle.reach.specs.declared.Refusal.TheVariants.{UnknownNumber, EmptyType, DepthTooSmall, BadSpelling}
use Rattle.reach.specs.Types.{least_depths}
use Rattle.reach.specs.RuleFile.{Outline, numbers_exist, program_of, no_empty_type, deep_enough, well_spelled}
use Rattle.reach.specs.Places.{type_at, declarations_at, outline_at}
use Rattle.reach.specs.Answers.{turned_back, check}
use Rattle.typerecord.specs.Passed.{passed_of}
use Rattle.goal.specs.Goals.{goal_of, named_of}
use Rattle.lookups.specs.declared.Rules.{Rules}
use Rattle.outline.specs.declared.Outlined.{Outlined}
use Rattle.bodies.specs.Check.{functions_at, bodies_of}
use Rattle.depths.specs.declared.Depths.{Depths}
use Rattle.depths.specs.Table.{padded}
use Rattle.depths.proofs.Rounds.{least_front}
use Rattle.rulefile.specs.declared.Loaded.{Loaded}
use Rattle.rulefile.specs.Loading.{Outlines, AllPassed, source_shallow, names_spelled, Loads}
use Rattle.reach.proofs.Stages.{numbers_refused, bodies_refused, empty_refused, depth_refused, spelling_refused, file_accepted}
use Rattle.rulefile.proofs.Passes as Passes
use Rattle.rulefile.proofs.Tabled.{depth_tested}

module _ (rules : Rules) (o : Outlined) where
  abbrev s : List ℕ
  s = rules.file.now

  abbrev whole : Outline
  whole = outline_at s rules.types.now rules.functions.now (named_of o.named) (goal_of o.goal)

  -- the second and the third pass
  module _ (out : Outlines rules o) {r : Bool} (tested : r ≡ numbers_exist whole) where
    pub unknown_number : r ≡ false → check s ≡ turned_back UnknownNumber
    unknown_number e = numbers_refused s out.size out.read (sym tested ∙ e)

    exist : r ≡ true → numbers_exist whole ≡ true
    exist e = sym tested ∙ e

    module _ (passed : r ≡ true) where
      pub body_refused : {why : Refusal} → Err why ≡ bodies_of (passed_of (functions_at s rules.types.now rules.functions.now)) → check s ≡ turned_back why
      unfolding outline_at
      body_refused told =
          bodies_refused s out.size out.read (exist passed)
          (Passes.bodies_refused s rules.types.now rules.functions.now (length s) told)

      pub bodies_passed : Ok tt ≡ bodies_of (passed_of (functions_at s rules.types.now rules.functions.now)) → AllPassed rules o
      bodies_passed told =
          let (fs, end, read) = Passes.bodies_got s rules.types.now rules.functions.now (length s) told in
          record {
            outlined = out;
            functions = fs;
            passed = record { behind = length s; read = out.read; exist = exist passed; end = end; bodies = read };
          }

  -- the tests of depth, on the array of least depths
  module _ (reads : AllPassed rules o) {least : Depths} (are : least.of ≡ padded (least_depths (map (type_at s) rules.types.now))) where
    module _ {n : ℕ} (count : n ≡ length rules.types.now) {r : Bool} (tested : r ≡ no_empty_type (take n least.of)) where
      none_empty_is : no_empty_type (least_depths whole.declared.types) ≡ r
      unfolding declarations_at outline_at
      none_empty_is = sym (tested ∙ rw are (ap no_empty_type (rw (← count) at (least_front s rules.types.now))))

      pub type_empty : r ≡ false → check s ≡ turned_back EmptyType
      unfolding outline_at
      type_empty e =
          empty_refused s reads.outlined.size reads.passed.read reads.passed.exist reads.passed.bodies
          (none_empty_is ∙ e)

      module _ (filled : r ≡ true) {d : Bool} (deep : d ≡ source_shallow s rules.functions.now (goal_of o.goal) least.of) where
        deep_is : deep_enough (program_of whole reads.functions) ≡ d
        deep_is = sym (deep ∙ rw are (depth_tested reads.passed))

        pub depth_small : d ≡ false → check s ≡ turned_back DepthTooSmall
        unfolding outline_at
        depth_small e =
            depth_refused s reads.outlined.size reads.passed.read reads.passed.exist reads.passed.bodies
            (none_empty_is ∙ filled) (deep_is ∙ e)

        -- the test of the form of names
        module _ (fits : d ≡ true) {w : Bool} (formed : w ≡ names_spelled s rules.types.now (named_of o.named)) where
          spelled_is : well_spelled whole ≡ w
          unfolding well_spelled declarations_at outline_at
          spelled_is = sym formed

          pub misspelled : w ≡ false → check s ≡ turned_back BadSpelling
          unfolding outline_at
          misspelled e =
              spelling_refused s reads.outlined.size reads.passed.read reads.passed.exist reads.passed.bodies
              (none_empty_is ∙ filled) (deep_is ∙ fits) (spelled_is ∙ e)

          -- the file is accepted, and this is what is handed on
          abbrev loaded : Loaded
          loaded =
              record {
                rules = rules;
                named = o.named;
                goal = o.goal;
                least = least;
              }

          pub all_passed : w ≡ true → Loads s (Ok loaded)
          unfolding program_of declarations_at outline_at
          all_passed e = (
            program_of whole reads.functions,
            file_accepted s reads.outlined.size reads.passed.read reads.passed.exist reads.passed.bodies
                (none_empty_is ∙ filled) (deep_is ∙ fits) (spelled_is ∙ e),
            record {
              of_file = refl;
              size = reads.outlined.size;
              types_limit = reads.outlined.types_limit;
              functions_limit = reads.outlined.functions_limit;
              functions = reads.functions;
              passed = reads.passed;
              program = refl;
              depths = are;
            },
          )
