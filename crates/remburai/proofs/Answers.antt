-- The bounds that keep the number of an answer below 2 to the 64th: of a list and of a text.
-- Rests on search's Called (the list stands in the bytes that count) and on printout's Demands (the longest text).
use Prim.Native.Nat.{ℕ, ◌≤◌, ◌<◌}
use native.Mathlib.Omega.{arith}
use mathlib.Core.Path.{◌≡◌, refl, ap, ◌∙◌}
use mathlib.Core.Bool.{Bool}
use mathlib.Core.List.{List}
use lib.ListN.{get_or}
use Rattle.std.specs.Prelude.{Result, Ok, Err}
use Rattle.reach.specs.declared.Refusal.{Refusal}
use Rattle.reach.specs.Limits.{list_limit}
use Rattle.reach.specs.Lists.{room_of}
use Rattle.reach.specs.Answers.{search_answer}
use Rattle.results.specs.declared.Listed.{Listed}
use Rattle.results.specs.Results.{search_result, list_length_in, text_length_in}
use Rattle.search.proofs.Called.{length_is, listed_room}
use Rattle.printing.specs.Bound.{text_bound}
use Rattle.printout.specs.Answering.{LengthPromise, WritePromise}
use Rattle.printout.proofs.Demands.{length_exact, length_most, write_exact}

-- The search: the length of a list counts at most 16,777,216 bytes.

pub list_small : (file : List ℕ) (work list : ℕ) (r : Result Listed Refusal) → r ≡ search_result (search_answer file work list) → list_length_in r ≤ list_limit
unfolding room_of
list_small file work list r is =
    let long : list_length_in r ≡ _ = ap list_length_in is ∙ length_is (search_answer file work list) in
    omega (arith, long, listed_room file work list)

-- The text of a list.

-- no text is longer than that of a list of the 16,777,216 bytes that count may be
module _ (file list : List ℕ) (bytes : (i : ℕ) → get_or list i 0 < 256) (full : Bool) where
  pub length_text_small : (r : Result ℕ Refusal) → LengthPromise file list full r → text_length_in r ≤ text_bound list_limit
  length_text_small (Err why) call = omega arith
  length_text_small (Ok n) call =
      let fits = (length_exact file list bytes full (Ok n) call n).0 refl in
      omega (arith, length_most file list bytes full (Ok n) call n refl, fits.3.in_limit)

  pub write_text_small : (before after : List ℕ) (r : Result ℕ Refusal) → WritePromise file list full before after r → text_length_in r ≤ text_bound list_limit
  write_text_small before after (Err why) call = omega arith
  write_text_small before after (Ok n) call =
      length_text_small (Ok n) ((write_exact file list bytes full before after (Ok n) call n).0 refl).0
