-- The names of an answer, by the answer that the search gave and the bytes that it wrote.
-- Rests on names' NameList, on namelines' Files, on reporting's Reports and on lists' Handed.
use Prim.Native.Nat.{ℕ, ◌≤◌}
use native.Mathlib.Omega.{arith}
use mathlib.Core.Path.{◌≡◌, refl, sym, ap, subst}
use mathlib.Core.Bool.{Bool, true, false}
use mathlib.Core.List.{List, [], ◌++◌, flat_map}
use lib.ListN.{length, take, length-take, length-append}
use Rattle.reach.specs.declared.Refusal.TheVariants.{ListFull}
use Rattle.reach.specs.Base.{pick}
use Rattle.reach.specs.Syntax.{Program}
use Rattle.reach.specs.Answers.{Checked, accepted, turned_back, check, SearchAnswer, complete, cut_short, search_answer, listed, refusal_of}
use Rattle.lists.specs.Text.{refusal_line}
use Rattle.lists.specs.Handed.{IsList}
use Rattle.reach.proofs.Base.{clash}
use Rattle.reach.proofs.Answers.{search_turned_back}
use Rattle.lists.proofs.Handed.{listed_handed}
use Rattle.names.specs.NameList.{entry_names, refusal_end, names_by, names_text}
use Rattle.printing.specs.Bound.{text_bound}
use Rattle.printing.proofs.Lengths.{refusal_short}
use Rattle.search.specs.Answering.{Searched}
use Rattle.namelines.specs.Lists as Lines
use Rattle.namelines.proofs.Files.{lines_length}
use Rattle.reporting.specs.Answers.{Reports}
use Rattle.reporting.proofs.Reports.{ListAnswer, reported, list_stands}

-- the line behind the names of a list: that of refusal 12, where it was cut short
list_end : (a : SearchAnswer) (full : Bool) → a ≡ pick full (cut_short (listed a)) (complete (listed a))
    → refusal_end (refusal_of a) ≡ pick full (refusal_line ListFull) []
unfolding refusal_end refusal_of
list_end a true is = ap (λ (x : SearchAnswer). refusal_end (refusal_of x)) is
list_end a false is = ap (λ (x : SearchAnswer). refusal_end (refusal_of x)) is

end_short : (full : Bool) → length (pick full (refusal_line ListFull) []) ≤ text_bound 0
end_short true = refusal_short ListFull
end_short false = omega arith

-- a list is of a file that is accepted
file_accepted : (file : List ℕ) (work list : ℕ) {n : ℕ} (full : Bool) → ListAnswer (search_answer file work list) n full → (p : Program) × (check file ≡ accepted p)
file_accepted file work list full lists = by_check (check file) refl full lists.is
  where
    by_check : (c : Checked) → check file ≡ c → (b : Bool)
        → search_answer file work list ≡ pick b (cut_short (listed (search_answer file work list))) (complete (listed (search_answer file work list)))
        → (p : Program) × (check file ≡ accepted p)
    by_check (accepted p) checked b is = (p, checked)
    by_check (turned_back why) checked true is = absurd (clash (cc (search_turned_back file work list why checked)))
    by_check (turned_back why) checked false is = absurd (clash (cc (search_turned_back file work list why checked)))

-- a list that was written, complete or cut short
module _ {file work work' list list' : List ℕ} (searched : Searched file work work' list list') {n : ℕ} {full : Bool}
    (lists : ListAnswer (search_answer file (length work) (length list)) n full) where
  abbrev answer : SearchAnswer
  answer = search_answer file (length work) (length list)

  program : (p : Program) × (check file ≡ accepted p)
  program = file_accepted file (length work) (length list) full lists

  is_list : IsList program.0 (take n list') (listed answer)
  is_list =
      subst (λ (l : List ℕ). IsList program.0 l (listed answer)) (sym (list_stands searched lists))
      (listed_handed file program.0 program.1 (length work) (length list))

  -- it is whole entries that fit the file
  pub given : Lines.FitsFile file (take n list')
  given = (program.0, listed answer, program.1, is_list)

  text_is : flat_map (entry_names program.0) (listed answer) ++ pick full (refusal_line ListFull) [] ≡ names_text file (length work) (length list)
  unfolding names_text names_by
  text_is = rw (program.1, list_end answer full lists.is) refl

  -- its names were written
  pub names_reported : {page page' : List ℕ} {r : ℕ} → length list' ≡ length list → Lines.WritesNames file (take n list') full page page' r
      → Reports names_text file work work' list list' page page' r
  names_reported same call =
      let lines = flat_map (entry_names program.0) (listed answer) in
      let last = pick full (refusal_line ListFull) [] in
      reported (lines ++ last) searched text_is (
      omega (
        arith,
        length-append lines last,
        lines_length file program.0 program.1 (take n list') (listed answer) is_list,
        length-take n list',
        end_short full,
        same,
      )
      ) (call program.0 (listed answer) program.1 is_list)
