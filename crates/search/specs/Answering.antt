-- What a caller of `search` reads: the answer, the list in the caller's slice and the words afterwards, in terms of reach's definition; and what a caller
-- takes from the bytes of its list.
-- Rests on reach's Answers, Search and Lists, on machine's Cells for what the words stand for, and on Results of crate results.
use Rattle.std.specs.Prelude.{ℕ, ◌≡◌, List, [], ◌∷◌, ◌++◌, length, drop, Result, Ok, Err}
use Rattle.reach.specs.declared.Refusal.{Refusal}
use Rattle.reach.specs.Limits.{work_words}
use Rattle.reach.specs.Syntax.{Program, source_types}
use Rattle.reach.specs.Types.{Typed, source_slots}
use Rattle.reach.specs.Search.{Entry, open_input, entries}
use Rattle.reach.specs.Lists.{list_bytes, written, entry_part, saying_of, decoded}
use Rattle.reach.specs.Answers.{check, accepted, search_answer, listed}
use Rattle.machine.specs.Cells.{Cells}
use Rattle.results.specs.declared.Listed.{Listed}
use Rattle.results.specs.Results.{search_result}

-- A refusal but 12 changes no word, and a search none behind its first 64 S + 1,024 words. Those first words are its own: where the list is complete,
-- every parameter is open in its cell again; where it was cut short, the cells stand for the input of the entry that did not fit.
abbrev pub WordsAfter : Result Listed Refusal → List ℕ → List ℕ → List ℕ → Type 0
WordsAfter (Err why) file w w' = w' ≡ w
WordsAfter (Ok (Listed.Complete n v)) file w w' =
    (p : Program) → check file ≡ accepted p
    → (drop (work_words p.steps) w' ≡ drop (work_words p.steps) w)
    × Cells p.types (source_slots p) w' (length (source_types p)) (open_input p)
WordsAfter (Ok (Listed.Full n)) file w w' =
    (p : Program) → check file ≡ accepted p
    → (drop (work_words p.steps) w' ≡ drop (work_words p.steps) w)
    × ((listed : List Entry) × (next : Entry) × (rest : List Entry) × (cells : ℕ) × (entries p ≡ listed ++ (next ∷ rest)) × (n ≡ length (list_bytes listed))
    × Cells p.types (source_slots p) w' cells next.input)

-- What the call promises, and all that it promises: of its answer; of the list slice, which held the bytes `before` (the entries of the definition's
-- answer stand at its front, and the bytes after them are as before); and of the words.
pub record SearchPromise (file work work' before after : List ℕ) (r : Result Listed Refusal) : Type 0 where
  pub answer_is : r ≡ search_result (search_answer file (length work) (length before))
  pub list_is : after ≡ written (listed (search_answer file (length work) (length before))) before
  pub words_are : WordsAfter r file work work'

-- the same of a call that searches and does not hand on the search's own answer: the list and the words are as the definition's answer says
abbrev pub Searched : List ℕ → List ℕ → List ℕ → List ℕ → List ℕ → Type 0
Searched file work work' before after = SearchPromise file work work' before after (search_result (search_answer file (length work) (length before)))

-- Entry k of these bytes of a list, read back, is e: the part that it fills is there, and says the kind and the steps of e and, in prefix form, its
-- partial input, which has the source's types.
abbrev pub ReadsAs : Program → List ℕ → ℕ → Entry → Type 0
ReadsAs p bytes k e =
    ¬ (entry_part bytes k ≡ [])
    × (decoded (entry_part bytes k) ≡ saying_of e)
    × Typed p.types (source_types p) e.input
