-- What a call promises that searches a rule file and writes a text of it, and what it promises with the buffers of a program: for any text that a rule file
-- has, with so many words and so many bytes for the list. Crates report and namereport say which text.
-- Rests on reach's Limits, search's Answering, writing's Writing and printing's Bound.
use Rattle.std.specs.Prelude.{ℕ, ◌+◌, ◌≤◌, ◌≡◌, List, length, take, drop}
use Rattle.std.specs.Borrow.{Bor, MutBor}
use Rattle.reach.specs.Limits.{file_limit}
use Rattle.search.specs.Answering.{Searched}
use Rattle.writing.specs.Writing.{Fronts}
use Rattle.printing.specs.Bound.{text_bound}

-- What `report` and `names` promise, and all that they promise: the text stands at the front of its slice; it is no longer than a text of the list slice may
-- be; and the words and the list are as the search leaves them.
pub record Reports (textFor : List ℕ → ℕ → ℕ → List ℕ) (file work work' list list' page page' : List ℕ) (r : ℕ) : Type 0 where
  pub writes : Fronts page (textFor file (length work) (length list)) page' r
  pub short : r ≤ text_bound (length list)
  pub leaves : Searched file work work' list list'

-- Every call of a function that takes a rule file, lent words, a lent list and a slice for its text promises that.
abbrev pub AllReport : (Bor (List ℕ) → MutBor (List ℕ) → MutBor (List ℕ) → MutBor (List ℕ) → ℕ → MutBor (List ℕ) → MutBor (List ℕ) → MutBor (List ℕ) → Type 0)
    → (List ℕ → ℕ → ℕ → List ℕ) → Type 0
AllReport called textFor =
    (file : Bor (List ℕ)) (work list page : MutBor (List ℕ)) (r : ℕ) (work' list' page' : MutBor (List ℕ)) → called file work list page r work' list' page'
    → Reports textFor file.now work.now work'.now list.now list'.now page.now page'.now r

-- The buffers of the programs. 01, of `reachlist`: "Its list buffer has 32,768 bytes, its work slice 16,384 words"; 02, Slip 4: `namelist` has the "buffers
-- [..] of `reachlist`".
abbrev pub program_words : ℕ
program_words = 16384

abbrev pub program_list : ℕ
program_list = 32768

-- one byte more is read than a rule file may have, so that one that is too long is seen
abbrev pub program_input : ℕ
program_input = file_limit + 1

-- the longest text of such a list
abbrev pub program_page : ℕ
program_page = text_bound program_list

-- what a program prints for a rule file
abbrev pub printed : (List ℕ → ℕ → ℕ → List ℕ) → List ℕ → List ℕ
printed textFor file = textFor file program_words program_list

-- What `program_text` and `program_names` promise of the first `size` bytes that were read: what the program prints for them stands whole at the front of
-- its slice, and the bytes behind it are as before.
pub record Prints (textFor : List ℕ → ℕ → ℕ → List ℕ) (input : List ℕ) (size : ℕ) (page page' : List ℕ) (r : ℕ) : Type 0 where
  pub whole : take r page' ≡ printed textFor (take size input)
  pub behind : drop r page' ≡ drop r page
  pub inside : r ≤ length page'

-- so many of the bytes that were read are the first `size` of them
pub record FirstBytes (input : List ℕ) (size r : ℕ) : Type 0 where
  pub there : r ≤ length input
  pub same : take r input ≡ take size input
