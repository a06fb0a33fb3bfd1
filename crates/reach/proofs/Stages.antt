-- The check of a file by its stages, in their order: size, first pass, numbers, bodies, types without a closed value, depth, names. Each stage
-- refuses the file, or leaves what the next one goes on with.
-- Rests on RuleFile and Answers of specs/.
use Prim.Native.Nat.{ℕ, ◌≤◌, ◌<◌}
use mathlib.Core.Path.{◌≡◌}
use mathlib.Core.Bool.{true, false}
use mathlib.Core.List.{List}
use lib.ListN.{length}
use borrow.Author.Tests.{le-leb, lt-leb}
use Rattle.reach.specs.declared.Refusal.{Refusal}
use Rattle.reach.specs.declared.Refusal.TheVariants.{OutOfRange, UnknownNumber, EmptyType, DepthTooSmall, BadSpelling}
use Rattle.reach.specs.Limits.{file_limit}
use Rattle.reach.specs.Syntax.{Function}
use Rattle.reach.specs.Types.{least_depths}
use Rattle.reach.specs.Reader.{got, refused}
use Rattle.reach.specs.RuleFile.{Outline, outline, numbers_exist, functions_of, program_of, no_empty_type, deep_enough, well_spelled, size_in_limit, rule_file}
use Rattle.reach.specs.Answers.{accepted, turned_back, check}

module _ (s : List ℕ) where
  pub size_refused : file_limit < length s → check s ≡ turned_back OutOfRange
  unfolding check rule_file size_in_limit
  size_refused h = rw (lt-leb (length s) file_limit h)

  module _ (size : length s ≤ file_limit) where
    pub outline_refused : {why : Refusal} → outline s 0 ≡ refused why → check s ≡ turned_back why
    unfolding check rule_file size_in_limit
    outline_refused e = rw (le-leb (length s) file_limit size, e)

    module _ {o : Outline} {n : ℕ} (read : outline s 0 ≡ got o n) where
      pub numbers_refused : numbers_exist o ≡ false → check s ≡ turned_back UnknownNumber
      unfolding check rule_file size_in_limit
      numbers_refused e = rw (le-leb (length s) file_limit size, read, e)

      module _ (exist : numbers_exist o ≡ true) where
        pub bodies_refused : {why : Refusal} → functions_of o.declared o.declared.heads s n ≡ refused why → check s ≡ turned_back why
        unfolding check rule_file size_in_limit
        bodies_refused e = rw (le-leb (length s) file_limit size, read, exist, e)

        module _ {fs : List Function} {m : ℕ} (bodies : functions_of o.declared o.declared.heads s n ≡ got fs m) where
          pub empty_refused : no_empty_type (least_depths o.declared.types) ≡ false → check s ≡ turned_back EmptyType
          unfolding check rule_file size_in_limit
          empty_refused e = rw (le-leb (length s) file_limit size, read, exist, bodies, e)

          module _ (filled : no_empty_type (least_depths o.declared.types) ≡ true) where
            pub depth_refused : deep_enough (program_of o fs) ≡ false → check s ≡ turned_back DepthTooSmall
            unfolding check rule_file size_in_limit
            depth_refused e = rw (le-leb (length s) file_limit size, read, exist, bodies, filled, e)

            module _ (deep : deep_enough (program_of o fs) ≡ true) where
              pub spelling_refused : well_spelled o ≡ false → check s ≡ turned_back BadSpelling
              unfolding check rule_file size_in_limit
              spelling_refused e = rw (le-leb (length s) file_limit size, read, exist, bodies, filled, deep, e)

              pub file_accepted : well_spelled o ≡ true → check s ≡ accepted (program_of o fs)
              unfolding check rule_file size_in_limit
              file_accepted e = rw (le-leb (length s) file_limit size, read, exist, bodies, filled, deep, e)
