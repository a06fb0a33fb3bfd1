-- The printed text of a list that is handed in with its rule file, and what the two calls answer that give its length and write it: 02, Slip 2. The rule file's
-- refusals come first, then 14, then, of the writer, 13; there is no 11.
-- Rests on reach's Answers, and on Handed and Text.
use Rattle.std.specs.Prelude.{ℕ, Bool, true, false, List, ◌++◌, map, length, drop, leb}
use Rattle.reach.specs.declared.Refusal.{Refusal}
use Rattle.reach.specs.declared.Refusal.TheVariants.{TextTooShort, BadList}
use Rattle.reach.specs.Base.{pick}
use Rattle.reach.specs.Lists.{on_found, saying_of}
use Rattle.reach.specs.Answers.{Checked, accepted, turned_back, check, SearchAnswer, no_search, complete, cut_short}
use Rattle.lists.specs.Text.{text_of}
use Rattle.lists.specs.Handed.{handed}

-- whether a search ended in 12, which both calls are told
abbrev pub was_cut : SearchAnswer → Bool
was_cut (no_search why) = false
was_cut (complete es) = false
was_cut (cut_short es) = true

-- The text, or why there is none.
pub data Printout : Type 0 where
  no_printout : Refusal → Printout
  printout : List ℕ → Printout

unfoldable pub printout_checked : List ℕ → Bool → Checked → Printout
printout_checked list full (turned_back why) = no_printout why
printout_checked list full (accepted p) = on_found (no_printout BadList) (λ es. printout (text_of full (map saying_of es))) (handed p list)

-- the text of a list with its file; `full` says that the search ended in 12, so that the text closes with that refusal
unfoldable pub printout_of : List ℕ → List ℕ → Bool → Printout
printout_of file list full = printout_checked list full (check file)

-- What either call answers: a refusal, or the length of the text.
pub data TextAnswer : Type 0 where
  no_text : Refusal → TextAnswer
  of_length : ℕ → TextAnswer

unfoldable pub length_answer : Printout → TextAnswer
length_answer (no_printout why) = no_text why
length_answer (printout bytes) = of_length (length bytes)

-- 13: the text slice is shorter than that length
unfoldable pub write_answer : ℕ → Printout → TextAnswer
write_answer room (no_printout why) = no_text why
write_answer room (printout bytes) = pick (leb (length bytes) room) (of_length (length bytes)) (no_text TextTooShort)

-- the text slice behind the writer's call: the text at its front, and behind it the bytes as before; with a refusal as it was
unfoldable pub text_slice : List ℕ → Printout → List ℕ
text_slice before (no_printout why) = before
text_slice before (printout bytes) = pick (leb (length bytes) (length before)) (bytes ++ drop (length bytes) before) before
