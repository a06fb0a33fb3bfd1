-- The number that each call for C answers with. Bits 0 to 7 are the number of the refusal, or 0; bits 8 to 15 are the number of the verdict or of the outcome,
-- or 0 where none is given; from bit 16 on stands the length of the list or of the text. A closed run has the count of its steps in bits 16 to 31 and the depth
-- of its input in bits 32 to 39. The number for an entry has its place in bits 0 to 31 and its size from bit 32 on.
-- Rests on reach's Words, Answers, Search and Lists and on lists' Printouts.
use Rattle.std.specs.Prelude.{ℕ, ◌+◌, ◌*◌, ◌≤◌, ◌≡◌, List, length, take, drop}
use Rattle.std.proofs.Math.Option.{Option}
use Rattle.reach.specs.declared.Refusal.TheVariants.{ListFull}
use Rattle.reach.specs.declared.Outcome.{Outcome}
use Rattle.reach.specs.declared.Outcome.TheVariants.{Reached, Ended, Unfinished, Missing}
use Rattle.reach.specs.declared.Verdict.{Verdict}
use Rattle.reach.specs.declared.Verdict.TheVariants.{Found, Undecided, None}
use Rattle.reach.specs.Words.{number_of, steps_of}
use Rattle.reach.specs.Limits.{list_limit}
use Rattle.reach.specs.Search.{verdict}
use Rattle.reach.specs.Lists.{list_bytes, room_of, on_found, entry_span, entry_part}
use Rattle.reach.specs.Answers.{Checked, accepted, turned_back, SearchAnswer, no_search, complete, cut_short, RunAnswer, no_run, ran}
use Rattle.lists.specs.Printouts.{TextAnswer, no_text, of_length}

-- the number of a verdict
abbrev pub verdict_number : Verdict → ℕ
verdict_number Found = 1
verdict_number Undecided = 2
verdict_number None = 3

-- and of how a run ended
abbrev pub outcome_number : Outcome → ℕ
outcome_number (Reached n) = 1
outcome_number (Ended n) = 2
outcome_number (Unfinished n) = 3
outcome_number (Missing n) = 4

-- the check: 0 where the file is accepted
abbrev pub check_number : Checked → ℕ
check_number (accepted p) = 0
check_number (turned_back why) = number_of why

-- the search: a refusal of 1 to 9, 11 or 15; the verdict and the length of a complete list; or 12 and the length of a list cut short
abbrev pub search_number : SearchAnswer → ℕ
search_number (no_search why) = number_of why
search_number (complete es) = 256 * verdict_number (verdict es) + 65536 * length (list_bytes es)
search_number (cut_short es) = number_of ListFull + 65536 * length (list_bytes es)

-- the closed run: a refusal of 1 to 11 or 15; or how it ended, its steps, and how deep its input is
abbrev pub run_number : RunAnswer → ℕ
run_number (no_run why) = number_of why
run_number (ran o deep) = 256 * outcome_number o + 65536 * steps_of o + 4294967296 * deep

-- the text of a list, its length or itself: a refusal of 1 to 9 or 13 to 15; or its length
abbrev pub text_number : TextAnswer → ℕ
text_number (no_text why) = number_of why
text_number (of_length n) = 65536 * n

-- the span of an entry, in a list whose bytes that count end here: its place and its size; where there is none, that end and no byte
abbrev pub span_number : ℕ → Option (ℕ × ℕ) → ℕ
span_number end found = on_found end (λ span. span.0 + 4294967296 * span.1) found

-- the place behind it
abbrev pub span_end : Option (ℕ × ℕ) → ℕ
span_end found = on_found 0 (λ span. span.0 + span.1) found

-- the entry of a given number
unfoldable pub part_number : List ℕ → ℕ → ℕ
part_number list k = span_number (room_of (length list)) (entry_span (take list_limit list) k 0)

-- r is the number of every answer that a call shows by this result
abbrev pub Numbers : {A R : Type 0} → (A → R) → (A → ℕ) → R → ℕ → Type 0
Numbers {A} shown number result r = (a : A) → result ≡ shown a → r ≡ number a

-- What the number for an entry says: its place and its size are read off it, and the bytes there are the entry's part of the list.
pub record PartAt (list : List ℕ) (k r : ℕ) : Type 0 where
  pub place : ℕ
  pub size : ℕ
  pub packed : r ≡ place + 4294967296 * size
  pub counts : place ≤ list_limit
  pub inside : place + size ≤ length list
  pub part_is : take size (drop place list) ≡ entry_part list k
