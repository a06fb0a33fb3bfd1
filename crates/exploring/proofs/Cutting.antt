-- A list that grows entry by entry, written to the front of its slice: its verdict, its bytes, and where its room ends; and the answer of the
-- search when the last entry is listed, or the next one does not fit.
-- Rests on reach's Lists, Search and Answers, and on specs/Exploring.
use Prim.Native.Nat.{ℕ, ◌+◌, ◌-◌, ◌≤◌, ◌<◌}
use native.Mathlib.Omega.{arith}
use mathlib.Core.Path.{◌≡◌, refl, sym, ap, ◌∙◌}
use mathlib.Core.Bool.{true, false}
use mathlib.Core.List.{List, [], ◌∷◌, ◌++◌, flat_map, append_assoc, append-nil}
use lib.ListN.{length, take, drop, length-append, length-drop, take-append-drop}
use lib.Seq.{take-append_seam, drop-append-add, drop-append-le, drop-drop, length-take-le}
use borrow.Author.Tests.{le-leb, lt-leb}
use Rattle.reach.specs.declared.Refusal.{Refusal}
use Rattle.reach.specs.declared.Refusal.TheVariants.{WorkTooShort}
use Rattle.reach.specs.declared.Verdict.{Verdict}
use Rattle.reach.specs.Limits.{work_words}
use Rattle.reach.specs.Syntax.{Program}
use Rattle.reach.specs.Search.{Entry, counts, kinds_of, verdict, entries}
use Rattle.reach.specs.Lists.{entry_bytes, list_bytes, keep, cut, room_of, written}
use Rattle.reach.specs.Answers.{accepted, turned_back, check, no_search, complete, cut_short, cut_answer, search_checked, search_answer}
use Rattle.reach.proofs.Lists.{verdict_more}
use Rattle.reach.proofs.Answers.{search_turned_back, short_work}
use Rattle.verdicts.specs.Verdicts.{WithEntry}

-- One entry more.

-- its verdict
pub verdict_with : (es : List Entry) (e : Entry) {v r : Verdict} → v ≡ verdict es → WithEntry v e.kind r → r ≡ verdict (es ++ (e ∷ []))
unfolding verdict
verdict_with es e is with-entry = with-entry (counts (kinds_of es)) is ∙ sym (verdict_more es e)

-- the bytes of a list are those of its first entry and those of the others
bytes_first : (x : Entry) (es : List Entry) → list_bytes (x ∷ es) ≡ entry_bytes x ++ list_bytes es
unfolding list_bytes flat_map
bytes_first x es = refl

bytes_none : list_bytes [] ≡ []
unfolding list_bytes flat_map
bytes_none = refl

pub bytes_more : (es : List Entry) (e : Entry) → list_bytes (es ++ (e ∷ [])) ≡ list_bytes es ++ entry_bytes e
bytes_more [] e = rw (bytes_first e [], bytes_none) (append-nil (entry_bytes e))
bytes_more (x ∷ es) e =
    rw (bytes_first x (es ++ (e ∷ [])), bytes_first x es, bytes_more es e) (sym (append_assoc (entry_bytes x) (list_bytes es) (entry_bytes e)))

-- their number, so
size_first : (x : Entry) (es : List Entry) → length (list_bytes (x ∷ es)) ≡ length (entry_bytes x) + length (list_bytes es)
size_first x es = rw (bytes_first x es) (length-append (entry_bytes x) (list_bytes es))

pub size_more : (es : List Entry) (e : Entry) → length (list_bytes (es ++ (e ∷ []))) ≡ length (list_bytes es) + length (entry_bytes e)
size_more es e = rw (bytes_more es e) (length-append (list_bytes es) (entry_bytes e))

-- The cut.

-- a first entry that fits is kept
cut_keeps : (room : ℕ) (x : Entry) (es : List Entry) → length (entry_bytes x) ≤ room → cut room (x ∷ es) ≡ keep x (cut (room - length (entry_bytes x)) es)
unfolding cut
cut_keeps room x es fits = rw (le-leb (length (entry_bytes x)) room fits)

-- a list that fits its room is kept whole
pub cut_complete : (room : ℕ) (es : List Entry) → length (list_bytes es) ≤ room → cut room es ≡ record { kept = es; full = false }
unfolding cut
cut_complete room [] fits = refl
cut_complete room (x ∷ es) fits =
    cut_keeps room x es (omega (arith, size_first x es))
    ∙ ap (keep x) (cut_complete (room - length (entry_bytes x)) es (omega (arith, size_first x es)))

-- entries that fit their room are kept, and nothing behind the next one, which does not
pub cut_next : (room : ℕ) (es : List Entry) (e : Entry) (rest : List Entry) → length (list_bytes es) ≤ room
    → room < length (list_bytes es) + length (entry_bytes e) → cut room (es ++ (e ∷ rest)) ≡ record { kept = es; full = true }
unfolding cut list_bytes flat_map
cut_next room [] e rest fits over = rw (lt-leb (length (entry_bytes e)) room (omega arith))
cut_next room (x ∷ es) e rest fits over =
    cut_keeps room x (es ++ (e ∷ rest)) (omega (arith, size_first x es))
    ∙ ap (keep x)
    (cut_next (room - length (entry_bytes x)) es e rest (omega (arith, size_first x es)) (omega (arith, size_first x es)))

-- The slice.

-- with no entry written the slice is as before
pub written_none : (before : List ℕ) → written [] before ≡ before
unfolding written list_bytes flat_map
written_none before = refl

-- a list that fits the slice leaves its length
pub written_length : (es : List Entry) (before : List ℕ) → length (list_bytes es) ≤ length before → length (written es before) ≡ length before
unfolding written
written_length es before fits =
    omega (arith, length-append (list_bytes es) (drop (length (list_bytes es)) before), length-drop (length (list_bytes es)) before)

-- behind a list the slice is as before
drop_behind : (xs before : List ℕ) (n : ℕ) → drop (length xs + n) (xs ++ drop (length xs) before) ≡ drop (length xs + n) before
drop_behind xs before n = drop-append-add xs (drop (length xs) before) n ∙ drop-drop n (length xs) before

-- bytes stored behind those that stand at the front of the slice
front_more : (xs ys before : List ℕ)
    → take (length xs) (xs ++ drop (length xs) before) ++ (ys ++ drop (length xs + length ys) (xs ++ drop (length xs) before))
    ≡ (xs ++ ys) ++ drop (length (xs ++ ys)) before
front_more xs ys before =
    rw (take-append_seam xs (drop (length xs) before), drop_behind xs before (length ys), length-append xs ys)
    (sym (append_assoc xs ys (drop (length xs + length ys) before)))

-- an entry stored behind a list that stands in the slice: the list with one entry more
pub written_more : (es : List Entry) (e : Entry) (before l l' : List ℕ) (at n : ℕ) → l ≡ written es before → at ≡ length (list_bytes es)
    → n ≡ at + length (entry_bytes e) → n ≤ length before → l' ≡ take at l ++ (entry_bytes e ++ drop n l) → l' ≡ written (es ++ (e ∷ [])) before
unfolding written
written_more es e before l l' at n was place behind fits now =
    rw (now, behind, place, was, bytes_more es e) (front_more (list_bytes es) (entry_bytes e) before)

-- a list that fits the first bytes of a slice, written to them alone
pub written_front : (es : List Entry) (before : List ℕ) (room : ℕ) → room ≤ length before → length (list_bytes es) ≤ room
    → written es (take room before) ++ drop room before ≡ written es before
unfolding written
written_front es before room inside fits =
    append_assoc (list_bytes es) (drop (length (list_bytes es)) (take room before)) (drop room before)
    ∙ ap (λ (l : List ℕ). list_bytes es ++ l)
    (sym (drop-append-le (length (list_bytes es)) (take room before) (drop room before) (omega (arith, length-take-le room before inside)))
    ∙ ap (drop (length (list_bytes es))) (take-append-drop room before))

-- The answer.

-- all entries fit the room: the answer is the complete list
pub answer_complete : (file : List ℕ) (work list : ℕ) (p : Program) → check file ≡ accepted p → work_words p.steps ≤ work
    → length (list_bytes (entries p)) ≤ room_of list → search_answer file work list ≡ complete (entries p)
unfolding search_answer search_checked cut_answer
answer_complete file work list p checked enough fits =
    rw (checked, cut_complete (room_of list) (entries p) fits, le-leb (work_words p.steps) work enough)

-- the next entry does not fit behind those listed: the answer is the list cut short
pub answer_full : (file : List ℕ) (work list : ℕ) (p : Program) → check file ≡ accepted p → work_words p.steps ≤ work
    → (es : List Entry) (e : Entry) (rest : List Entry) → entries p ≡ es ++ (e ∷ rest)
    → length (list_bytes es) ≤ room_of list → room_of list < length (list_bytes es) + length (entry_bytes e)
    → search_answer file work list ≡ cut_short es
unfolding search_answer search_checked cut_answer
answer_full file work list p checked enough es e rest all fits over =
    rw (checked, all, cut_next (room_of list) es e rest fits over, le-leb (work_words p.steps) work enough)

-- the work slice is too short
pub answer_short : (file : List ℕ) (work list : ℕ) (p : Program) → check file ≡ accepted p → work < work_words p.steps
    → search_answer file work list ≡ no_search WorkTooShort
answer_short file work list p checked short = (short_work file work list p checked).1 short

-- the check refuses the file
pub answer_refused : (file : List ℕ) (work list : ℕ) (why : Refusal) → check file ≡ turned_back why → search_answer file work list ≡ no_search why
answer_refused file work list why checked = search_turned_back file work list why checked
