-- A text that is written of a search's answer: where the answer is a refusal other than 12, and where it is a list, complete or cut short.
-- Rests on specs/Answers, on search's Called and exploring's Cutting (where the list stands) and on printing's Lengths.
use Prim.Native.Nat.{ℕ, ◌≤◌}
use native.Mathlib.Omega.{arith}
use mathlib.Core.Path.{◌≡◌, sym, ap, subst, ◌∙◌}
use mathlib.Core.Bool.{Bool}
use mathlib.Core.List.{List}
use lib.ListN.{length, take}
use Rattle.std.specs.Prelude.{Ok, Err}
use Rattle.reach.specs.declared.Refusal.{Refusal}
use Rattle.reach.specs.Base.{pick}
use Rattle.reach.specs.Lists.{list_bytes}
use Rattle.reach.specs.Answers.{SearchAnswer, no_search, complete, cut_short, search_answer, listed}
use Rattle.lists.specs.Text.{refusal_line}
use Rattle.writing.specs.Writing.{Fronts}
use Rattle.printing.specs.Bound.{text_bound}
use Rattle.printing.proofs.Lengths.{refusal_short}
use Rattle.results.specs.declared.Listed.{Listed}
use Rattle.exploring.proofs.Cutting.{written_length}
use Rattle.results.specs.Results.{search_result, length_of, is_cut, list_length_in}
use Rattle.search.specs.Answering.{Searched}
use Rattle.search.proofs.Called.{length_is, refused_is, complete_lists, full_lists, listed_room, written_take, room_inside}
use Rattle.reporting.specs.Answers.{Reports}

-- the text by another name, which is short, was written
pub reported : {textFor : List ℕ → ℕ → ℕ → List ℕ} {file work work' list list' page page' : List ℕ} {r : ℕ} (s : List ℕ) → Searched file work work' list list'
    → s ≡ textFor file (length work) (length list) → length s ≤ text_bound (length list) → Fronts page s page' r
    → Reports textFor file work work' list list' page page' r
reported {page = page} {page' = page'} {r = r} s searched same short wrote = record {
  writes = subst (λ (t : List ℕ). Fronts page t page' r) same wrote;
  short = omega (arith, wrote.size);
  leaves = searched;
}

-- Of a text that is a refusal's line where the search is refused.
abbrev pub Refuses : (List ℕ → ℕ → ℕ → List ℕ) → Type 0
Refuses textFor =
    (file : List ℕ) (work list : ℕ) (why : Refusal) → search_answer file work list ≡ no_search why → textFor file work list ≡ refusal_line why

pub refusal_reported : {textFor : List ℕ → ℕ → ℕ → List ℕ} → Refuses textFor
    → {file work work' list list' page page' : List ℕ} {r : ℕ} (why : Refusal) → Searched file work work' list list'
    → Err why ≡ search_result (search_answer file (length work) (length list)) → Fronts page (refusal_line why) page' r
    → Reports textFor file work work' list list' page page' r
refusal_reported refuses {file} {work} {list = list} why searched is wrote =
    let refused = refused_is (search_answer file (length work) (length list)) why is in
    reported (refusal_line why) searched (sym (refuses file (length work) (length list) why refused)) (omega (arith, refusal_short why)) wrote

-- The answer is a list of n bytes, complete or cut short.
pub record ListAnswer (a : SearchAnswer) (n : ℕ) (full : Bool) : Type 0 where
  pub is : a ≡ pick full (cut_short (listed a)) (complete (listed a))
  pub long : n ≡ length (list_bytes (listed a))

module _ {file work work' list list' : List ℕ} (searched : Searched file work work' list list') where
  abbrev answer : SearchAnswer
  answer = search_answer file (length work) (length list)

  pub list_answer : (l : Listed) {n : ℕ} {full : Bool} → Ok l ≡ search_result answer → n ≡ length_of l → full ≡ is_cut l → ListAnswer answer n full
  list_answer (Listed.Complete m v) is long whole = record {
    is = rw whole (complete_lists file (length work) (length list) m v (sym is)).0;
    long = long ∙ ap list_length_in is ∙ length_is answer;
  }
  list_answer (Listed.Full m) is long cut = record {
    is = rw cut (full_lists file (length work) (length list) m (sym is));
    long = long ∙ ap list_length_in is ∙ length_is answer;
  }

-- such a list stands at the front of its slice
module _ {file work work' list list' : List ℕ} (searched : Searched file work work' list list') {n : ℕ} {full : Bool}
    (lists : ListAnswer (search_answer file (length work) (length list)) n full) where
  pub list_stands : take n list' ≡ list_bytes (listed (search_answer file (length work) (length list)))
  list_stands = rw (lists.long, searched.list_is) (written_take (listed (search_answer file (length work) (length list))) list)

  pub list_inside : n ≤ length list'
  list_inside =
      let room = listed_room file (length work) (length list) in
      let inside = room_inside (length list) in
      let same = written_length (listed (search_answer file (length work) (length list))) list (omega (arith, room, inside)) in
      omega (arith, lists.long, room, inside, same, ap length searched.list_is)
