-- The text of an answer, by the answer that the search gave and the bytes that it wrote.
-- Rests on lists' Text (the text by the bytes of a list), on reporting's Reports and on printing's Lengths.
use Prim.Native.Nat.{ℕ}
use native.Mathlib.Omega.{arith}
use mathlib.Core.Path.{◌≡◌, sym, ap, ◌∙◌}
use mathlib.Core.Bool.{Bool, true, false}
use mathlib.Core.List.{List}
use lib.ListN.{length, take, length-take}
use Rattle.reach.specs.Base.{pick}
use Rattle.reach.specs.Lists.{list_bytes}
use Rattle.reach.specs.Answers.{SearchAnswer, complete, cut_short, search_answer, listed}
use Rattle.lists.specs.Text.{text, list_text}
use Rattle.lists.proofs.Text.{text_by, text_written}
use Rattle.writing.specs.Writing.{Fronts}
use Rattle.printing.proofs.Lengths.{Bytes, part_bytes, text_short}
use Rattle.search.specs.Answering.{Searched}
use Rattle.reporting.specs.Answers.{Reports}
use Rattle.reporting.proofs.Reports.{Refuses, ListAnswer, reported, list_stands}
use Rattle.report.specs.Answers.{report_text}

-- of a refusal other than 12 it is the refusal's line
pub text_refuses : Refuses report_text
unfolding text
text_refuses file work list why is = ap text is

-- the text by the bytes of the list
list_by : (a : SearchAnswer) (full : Bool) → a ≡ pick full (cut_short (listed a)) (complete (listed a)) → list_text full (list_bytes (listed a)) ≡ text_by a
list_by a true is = sym (ap text_by is)
list_by a false is = sym (ap text_by is)

-- the text of a list that stands at the front of its slice was written
pub list_reported : {file work work' list list' page page' : List ℕ} {n r : ℕ} {full : Bool} → Searched file work work' list list'
    → ListAnswer (search_answer file (length work) (length list)) n full → Bytes list' → length list' ≡ length list
    → Fronts page (list_text full (take n list')) page' r → Reports report_text file work work' list list' page page' r
list_reported {file} {work} {list = list} {list' = list'} {n = n} {full = full} searched lists bytes same wrote =
    let answer = search_answer file (length work) (length list) in
    reported (list_text full (take n list')) searched
    (ap (list_text full) (list_stands searched lists) ∙ list_by answer full lists.is ∙ text_written file (length work) (length list))
    (omega (arith, text_short full (take n list') (part_bytes list' 0 n bytes), length-take n list')) wrote
