-- The papers' numbers and words for the cases of the enums of src/lib.rt: 01, "Turned back", "The list" and "Evaluation and steps";
-- 02 for the refusals from 13 on.
-- Rests on the enums.
use Rattle.std.specs.Prelude.{ℕ, ◌≤◌, ◌≡◌, ◌⊎◌, List, [], ◌∷◌, map, get_or}
use Prim.Native.String.{String}
use Rattle.std.proofs.Math.Option.{Option, none, some}
use Rattle.reach.specs.declared.Refusal.{Refusal}
use Rattle.reach.specs.declared.Refusal.TheVariants.{Truncated, UnexpectedMark, OutOfRange, UnknownNumber, UnknownCode, TypeMismatch, TrailingBytes, EmptyType, DepthTooSmall, BadInput, WorkTooShort, ListFull, TextTooShort, BadList, BadSpelling}
use Rattle.reach.specs.declared.Outcome.{Outcome}
use Rattle.reach.specs.declared.Outcome.TheVariants.{Reached, Ended, Unfinished, Missing}
use Rattle.reach.specs.declared.Verdict.{Verdict}
use Rattle.reach.specs.declared.Verdict.TheVariants.{Found, Undecided, None}

-- All refusals in the order of their numbers, from 1 on, each with the papers' word.
unfoldable pub all_refusals : List (Refusal × String)
all_refusals =
    (Truncated, "short")
    ∷ (UnexpectedMark, "mark")
    ∷ (OutOfRange, "range")
    ∷ (UnknownNumber, "stranger")
    ∷ (UnknownCode, "code")
    ∷ (TypeMismatch, "misfit")
    ∷ (TrailingBytes, "tail")
    ∷ (EmptyType, "hollow")
    ∷ (DepthTooSmall, "shallow")
    ∷ (BadInput, "input")
    ∷ (WorkTooShort, "bench")
    ∷ (ListFull, "full")
    ∷ (TextTooShort, "page")
    ∷ (BadList, "scrap")
    ∷ (BadSpelling, "spelling")
    ∷ []

-- the refusal that a number names in the table; 0 names none, and so does a number that no refusal has
unfoldable pub refusal_named : ℕ → Option Refusal
refusal_named n = get_or (none ∷ map (λ row. some row.0) all_refusals) n none

-- the number that the table gives a refusal
abbrev pub number_of : Refusal → ℕ
number_of Truncated = 1
number_of UnexpectedMark = 2
number_of OutOfRange = 3
number_of UnknownNumber = 4
number_of UnknownCode = 5
number_of TypeMismatch = 6
number_of TrailingBytes = 7
number_of EmptyType = 8
number_of DepthTooSmall = 9
number_of BadInput = 10
number_of WorkTooShort = 11
number_of ListFull = 12
number_of TextTooShort = 13
number_of BadList = 14
number_of BadSpelling = 15

-- a refusal of the rule file, whichever call is asked: 1 to 9, or 15
abbrev pub OfFile : Refusal → Type 0
OfFile why = (number_of why ≤ 9) ⊎ (number_of why ≡ 15)

-- the steps that a run took
abbrev pub steps_of : Outcome → ℕ
steps_of (Reached n) = n
steps_of (Ended n) = n
steps_of (Unfinished n) = n
steps_of (Missing n) = n

-- the word for a verdict, as `reachlist` prints it: "found", "undecided", "none"
abbrev pub verdict_word : Verdict → List ℕ
verdict_word Found = 0x66 ∷ 0x6f ∷ 0x75 ∷ 0x6e ∷ 0x64 ∷ []
verdict_word Undecided = 0x75 ∷ 0x6e ∷ 0x64 ∷ 0x65 ∷ 0x63 ∷ 0x69 ∷ 0x64 ∷ 0x65 ∷ 0x64 ∷ []
verdict_word None = 0x6e ∷ 0x6f ∷ 0x6e ∷ 0x65 ∷ []
