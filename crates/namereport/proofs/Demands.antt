-- What 02, Slip 4, asks of the call `names` and of the program `namelist`, said of the calls `names` and `program_names`. Their sentences about the
-- definitions stand in the Demands of crate names.
-- `Reports names_text file work work' list list' page page' r` is the contract of `names`: the slices that held `work`, `list` and `page` hold `work'`, `list'`
-- and `page'`, and it answered r. `Prints names_text input size page page' r` is that of `program_names`. `ReadsAs p bytes k e` says that entry k of the bytes
-- is e.
-- Rests on names' Demands, on search's Demands and on reporting's Program.
use Prim.Native.Nat.{ℕ, ◌≤◌}
use native.Mathlib.Omega.{arith}
use mathlib.Core.Path.{◌≡◌}
use mathlib.Core.List.{List}
use mathlib.Core.Option.{some}
use lib.ListN.{length, take, drop}
use Rattle.reach.specs.Base.{Each}
use Rattle.reach.specs.Syntax.{Program, source_types}
use Rattle.reach.specs.Parts.{Parts, Completes, depth}
use Rattle.reach.specs.Types.{depth_of, ClosedInput, ValueOf}
use Rattle.reach.specs.Eval.{run}
use Rattle.reach.specs.Search.{Entry, says}
use Rattle.reach.specs.Lists.{list_bytes}
use Rattle.reach.specs.Answers.{check, accepted, search_answer, listed}
use Rattle.reach.proofs.Base.{nth_member}
use Rattle.names.specs.NameList.{filled, names_in, names_text}
use Rattle.names.proofs.Demands as Names
use Rattle.results.specs.Results.{search_result, list_length_in}
use Rattle.search.specs.Answering.{ReadsAs}
use Rattle.search.proofs.Demands as Search
use Rattle.reporting.specs.Answers.{Reports, program_input, printed, Prints}
use Rattle.reporting.proofs.Program.{front_whole, front_behind}
use Rattle.reporting.proofs.Program as Program

module _ (file work work' list list' page page' : List ℕ) (r : ℕ) (call : Reports names_text file work work' list list' page page' r) where
  -- The answer is the text's length, and a slice that is long enough has the text whole, with the bytes behind it as before.
  pub length_is : r ≡ length (names_text file (length work) (length list))
  length_is = call.writes.size

  pub text_whole : r ≤ length page → (take r page' ≡ names_text file (length work) (length list)) × (drop r page' ≡ drop r page)
  text_whole enough = (
    front_whole call.writes (omega (arith, enough, length_is)),
    front_behind call.writes (omega (arith, enough, length_is)),
  )

  -- the list that the call wrote, whose names the text has: the search's own, which stands at the front of its slice
  abbrev wrote : List ℕ
  wrote = take (list_length_in (search_result (search_answer file (length work) (length list)))) list'

  pub list_stands : wrote ≡ list_bytes (listed (search_answer file (length work) (length list)))
  list_stands = Search.list_stands file work work' list list' (search_result (search_answer file (length work) (length list))) call.leaves

  -- "A filled entry, its other parameters completed in any fitting way, behaves as its entry says": each entry that is read back from the bytes of that
  -- list, for each kind; and its names are closed values of the named type that fit the depth.
  pub names_true : (p : Program) → check file ≡ accepted p → (named : ℕ) → p.named ≡ some named → (k : ℕ) (e : Entry) → ReadsAs p wrote k e
      → Each (λ (v : Parts). ValueOf p.types named v × (depth v ≤ depth_of p.depths)) (names_in named (source_types p) (filled p named e.input))
      × ((j : Parts) → ClosedInput p j → Completes j (filled p named e.input) → run p j ≡ says e.kind e.steps)
  names_true p checked named is k e reads =
      let there = (Search.entry_reads file work work' list list' (search_result (search_answer file (length work) (length list))) call.leaves p checked k e).0 reads in
      let m = nth_member (listed (search_answer file (length work) (length list))) k e there in (
        Names.names_filled file p checked (length work) (length list) named is e m,
        Names.filled_true file p checked (length work) (length list) named is e m,
      )

-- "It has the input [..] of `reachlist`": where the program hands on the first 16,385 bytes of standard input, or all of them where there are fewer, it
-- prints the text of the whole input: of one that is too long, refusal 3.
pub prints_whole : (standard input : List ℕ) (size : ℕ) (page page' : List ℕ) (r : ℕ) → Prints names_text input size page page' r
    → take size input ≡ take program_input standard → take r page' ≡ printed names_text standard
prints_whole = Program.prints_whole Names.refused_names
