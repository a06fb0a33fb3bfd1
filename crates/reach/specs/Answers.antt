-- The answers of the whole search and of the whole closed run, as functions of the bytes lent and the lengths of the slices.
-- Rests on everything else.
use Rattle.std.specs.Prelude.{ℕ, Bool, true, false, List, [], leb}
use Rattle.std.proofs.Math.Option.{Option, none, some}
use Rattle.reach.specs.declared.Refusal.{Refusal}
use Rattle.reach.specs.declared.Refusal.TheVariants.{BadInput, WorkTooShort, ListFull}
use Rattle.reach.specs.declared.Outcome.{Outcome}
use Rattle.reach.specs.declared.Outcome.TheVariants.{Reached, Ended, Unfinished, Missing}
use Rattle.reach.specs.declared.Verdict.{Verdict}
use Rattle.reach.specs.Base.{pick}
use Rattle.reach.specs.Limits.{work_words}
use Rattle.reach.specs.Syntax.{Program}
use Rattle.reach.specs.Parts.{Parts}
use Rattle.reach.specs.Eval.{Run, reached, ended, unfinished, missing, halted, run}
use Rattle.reach.specs.Search.{Entry, entries, verdict}
use Rattle.reach.specs.Reader.{on_got}
use Rattle.reach.specs.RuleFile.{rule_file}
use Rattle.reach.specs.Input.{read_input}
use Rattle.reach.specs.Lists.{cut, room_of}

-- A file as the check leaves it: accepted, with its program, or refused by 1 to 9 or 15.
pub data Checked : Type 0 where
  accepted : Program → Checked
  turned_back : Refusal → Checked

unfoldable pub check : List ℕ → Checked
check file = on_got (λ p next. accepted p) turned_back (rule_file file 0)

-- The answer of a search: a refusal; a complete list; or, with 12, a list cut short.
pub data SearchAnswer : Type 0 where
  no_search : Refusal → SearchAnswer
  complete : List Entry → SearchAnswer
  cut_short : List Entry → SearchAnswer

unfoldable pub cut_answer : Bool → List Entry → SearchAnswer
cut_answer true es = cut_short es
cut_answer false es = complete es

unfoldable pub search_checked : ℕ → ℕ → Checked → SearchAnswer
search_checked work list (turned_back why) = no_search why
search_checked work list (accepted p) =
    let c = cut (room_of list) (entries p) in
    let answer = cut_answer c.full c.kept in
    pick (leb (work_words p.steps) work) answer (no_search WorkTooShort)

-- the search of a file, with a work slice and a list slice of these lengths
unfoldable pub search_answer : List ℕ → ℕ → ℕ → SearchAnswer
search_answer file work list = search_checked work list (check file)

-- the entries that stand in the list slice afterwards
unfoldable pub listed : SearchAnswer → List Entry
listed (no_search why) = []
listed (complete es) = es
listed (cut_short es) = es

-- the refusal of an answer, if it is one
unfoldable pub refusal_of : SearchAnswer → Option Refusal
refusal_of (no_search why) = some why
refusal_of (complete es) = none
refusal_of (cut_short es) = some ListFull

-- the verdict, given with a complete list only
unfoldable pub verdict_of : SearchAnswer → Option Verdict
verdict_of (no_search why) = none
verdict_of (complete es) = some (verdict es)
verdict_of (cut_short es) = none

-- The answer of a closed run.
pub data RunAnswer : Type 0 where
  no_run : Refusal → RunAnswer
  ran : Outcome → ℕ → RunAnswer

-- the end of a closed run as it is answered. (A closed input never halts; a halt would be neither reached nor unfinished, so that it counts here as in
-- `StopsInside`.)
unfoldable pub outcome_of : Run → Outcome
outcome_of (reached n) = Reached n
outcome_of (ended why n) = Ended n
outcome_of (unfinished n) = Unfinished n
outcome_of (missing n) = Missing n
outcome_of (halted q n) = Ended n

unfoldable pub run_input : Program → ℕ → Option (Parts × ℕ) → RunAnswer
run_input p work none = no_run BadInput
run_input p work (some (j, deep)) = pick (leb (work_words p.steps) work) (ran (outcome_of (run p j)) deep) (no_run WorkTooShort)

unfoldable pub run_checked : List ℕ → ℕ → Checked → RunAnswer
run_checked input work (turned_back why) = no_run why
run_checked input work (accepted p) = run_input p work (read_input p input)

-- the closed run of a file on an input, with a work slice of this length
unfoldable pub run_answer : List ℕ → List ℕ → ℕ → RunAnswer
run_answer file input work = run_checked input work (check file)
