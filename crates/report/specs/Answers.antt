-- The text that `report` writes and `reachlist` prints, in terms of the definitions of crates reach and lists. What is promised of it stands in reporting's
-- Answers.
-- Rests on reach's Answers and lists' Text.
use Rattle.std.specs.Prelude.{ℕ, List}
use Rattle.reach.specs.Answers.{search_answer}
use Rattle.lists.specs.Text.{text}

-- the text of the answer that 01 defines for a rule file, with so many words and so many bytes for the list
abbrev pub report_text : List ℕ → ℕ → ℕ → List ℕ
report_text file work list = text (search_answer file work list)
