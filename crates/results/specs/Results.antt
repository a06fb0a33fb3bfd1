-- The answers of the definitions of crates reach and lists, as the results of the calls show them, and what a caller takes from a result.
-- Rests on the types of src/lib.rt, and on reach's Answers, Search and Lists and lists' Printouts.
use Rattle.std.specs.Prelude.{ℕ, Bool, true, false, length, Result, Ok, Err}
use Rattle.std.proofs.Math.Option.{Option, none, some}
use Rattle.reach.specs.declared.Refusal.{Refusal}
use Rattle.reach.specs.declared.Refusal.TheVariants.{ListFull}
use Rattle.reach.specs.declared.Outcome.{Outcome}
use Rattle.reach.specs.declared.Verdict.{Verdict}
use Rattle.reach.specs.Search.{verdict}
use Rattle.reach.specs.Lists.{list_bytes}
use Rattle.reach.specs.Answers.{Checked, accepted, turned_back, SearchAnswer, no_search, complete, cut_short, RunAnswer, no_run, ran}
use Rattle.lists.specs.Printouts.{TextAnswer, no_text, of_length}
use Rattle.results.specs.declared.Listed.{Listed}
use Rattle.results.specs.declared.Ran.{Ran}

-- the check: accepted, or a refusal of 1 to 9 or 15
abbrev pub check_result : Checked → Result (Unit {0}) Refusal
check_result (accepted p) = Ok tt
check_result (turned_back why) = Err why

-- the search: a refusal of 1 to 9, 11 or 15; or the length of the list in bytes, and the verdict where the list is complete
abbrev pub search_result : SearchAnswer → Result Listed Refusal
search_result (no_search why) = Err why
search_result (complete es) = Ok (Listed.Complete (length (list_bytes es)) (verdict es))
search_result (cut_short es) = Ok (Listed.Full (length (list_bytes es)))

-- the closed run: a refusal of 1 to 11 or 15; or how it ended, on an input of this depth
abbrev pub ran_so : Outcome → ℕ → Ran
ran_so o deep = record { outcome = o; depth = deep }

abbrev pub run_result : RunAnswer → Result Ran Refusal
run_result (no_run why) = Err why
run_result (ran o deep) = Ok (ran_so o deep)

-- the text of a list: a refusal of 1 to 9 or 13 to 15; or its length
abbrev pub text_result : TextAnswer → Result ℕ Refusal
text_result (no_text why) = Err why
text_result (of_length n) = Ok n

-- the length of a list that a search wrote, and whether it was cut short
abbrev pub length_of : Listed → ℕ
length_of (Listed.Complete n v) = n
length_of (Listed.Full n) = n

abbrev pub is_cut : Listed → Bool
is_cut (Listed.Complete n v) = false
is_cut (Listed.Full n) = true

-- What a caller takes from the result of a search: the length of the list, which every one gives but a refusal other than 12;
abbrev pub list_length_in : Result Listed Refusal → ℕ
list_length_in (Err why) = 0
list_length_in (Ok list) = length_of list

-- the refusal, if it is one;
abbrev pub refusal_in : Result Listed Refusal → Option Refusal
refusal_in (Err why) = some why
refusal_in (Ok (Listed.Complete n v)) = none
refusal_in (Ok (Listed.Full n)) = some ListFull

-- the verdict, if one is given.
abbrev pub verdict_in : Result Listed Refusal → Option Verdict
verdict_in (Err why) = none
verdict_in (Ok (Listed.Complete n v)) = some v
verdict_in (Ok (Listed.Full n)) = none

-- And from that of a call about a text: its length.
abbrev pub text_length_in : Result ℕ Refusal → ℕ
text_length_in (Err why) = 0
text_length_in (Ok n) = n
