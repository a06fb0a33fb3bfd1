-- What a caller in C reads off the number that a call answered with: the parts of an answer, as the functions at the end of include/remburai.h take
-- them, and the cases that their numbers name there. And what the definition's answer says, for the theorems that the two are the same.
-- Rests on reach's enums, Words, Answers and Lists and on lists' Printouts.
use Rattle.std.specs.Prelude.{ℕ, ◌/◌, ◌%◌, [], ◌∷◌, length, get_or}
use Rattle.std.proofs.Math.Option.{Option, none, some}
use Rattle.reach.specs.declared.Refusal.{Refusal}
use Rattle.reach.specs.declared.Outcome.{Outcome}
use Rattle.reach.specs.declared.Outcome.TheVariants.{Reached, Ended, Unfinished, Missing}
use Rattle.reach.specs.declared.Verdict.{Verdict}
use Rattle.reach.specs.declared.Verdict.TheVariants.{Found, Undecided, None}
use Rattle.reach.specs.Words.{refusal_named}
use Rattle.reach.specs.Lists.{list_bytes}
use Rattle.reach.specs.Answers.{Checked, accepted, turned_back, SearchAnswer, listed, refusal_of, verdict_of, RunAnswer, no_run, ran}
use Rattle.lists.specs.Printouts.{TextAnswer, no_text, of_length}

-- The parts of a number.

-- bits 0 to 7: remburai_refusal
abbrev pub refusal_bits : ℕ → ℕ
refusal_bits number = number % 256

-- bits 8 to 15: remburai_verdict, remburai_outcome
abbrev pub case_bits : ℕ → ℕ
case_bits number = number / 256 % 256

-- from bit 16 on: remburai_list_length, remburai_text_bytes
abbrev pub count_bits : ℕ → ℕ
count_bits number = number / 65536

-- bits 16 to 31: remburai_steps
abbrev pub step_bits : ℕ → ℕ
step_bits number = number / 65536 % 65536

-- bits 32 to 39: remburai_depth
abbrev pub depth_bits : ℕ → ℕ
depth_bits number = number / 4294967296 % 256

-- bits 0 to 31: remburai_entry_place
abbrev pub place_bits : ℕ → ℕ
place_bits number = number % 4294967296

-- from bit 32 on: remburai_entry_size
abbrev pub size_bits : ℕ → ℕ
size_bits number = number / 4294967296

-- The cases that the numbers name, as `refusal_named` of reach's Words does for refusals. 0 is none, and so is a number that no case has.

unfoldable pub verdict_named : ℕ → Option Verdict
verdict_named n = get_or (none ∷ some Found ∷ some Undecided ∷ some None ∷ []) n none

-- an outcome has its steps
unfoldable pub outcome_named : ℕ → ℕ → Option Outcome
outcome_named n steps = get_or (none ∷ some (Reached steps) ∷ some (Ended steps) ∷ some (Unfinished steps) ∷ some (Missing steps) ∷ []) n none

-- The check: its refusal, if there is one.

abbrev pub decoded_check : ℕ → Option Refusal
decoded_check number = refusal_named (refusal_bits number)

abbrev pub check_read : Checked → Option Refusal
check_read (accepted p) = none
check_read (turned_back why) = some why

-- The search: its refusal and its verdict, if there is one, and the length of its list.
pub record SearchRead : Type 0 where
  pub refusal : Option Refusal
  pub verdict : Option Verdict
  pub bytes : ℕ

abbrev pub decoded_search : ℕ → SearchRead
decoded_search number = record { refusal = refusal_named (refusal_bits number); verdict = verdict_named (case_bits number); bytes = count_bits number }

abbrev pub search_read : SearchAnswer → SearchRead
search_read a = record { refusal = refusal_of a; verdict = verdict_of a; bytes = length (list_bytes (listed a)) }

-- The closed run: its refusal, or how it ended with its steps, and the depth of its input; 0 with a refusal.
pub record RunRead : Type 0 where
  pub refusal : Option Refusal
  pub outcome : Option Outcome
  pub depth : ℕ

abbrev pub decoded_run : ℕ → RunRead
decoded_run number =
    record { refusal = refusal_named (refusal_bits number); outcome = outcome_named (case_bits number) (step_bits number); depth = depth_bits number }

abbrev pub run_read : RunAnswer → RunRead
run_read (no_run why) = record { refusal = some why; outcome = none; depth = 0 }
run_read (ran o deep) = record { refusal = none; outcome = some o; depth = deep }

-- The text of a list: its refusal, or its length.
pub record TextRead : Type 0 where
  pub refusal : Option Refusal
  pub bytes : ℕ

abbrev pub decoded_text : ℕ → TextRead
decoded_text number = record { refusal = refusal_named (refusal_bits number); bytes = count_bits number }

abbrev pub text_read : TextAnswer → TextRead
text_read (no_text why) = record { refusal = some why; bytes = 0 }
text_read (of_length n) = record { refusal = none; bytes = n }

-- The part of an entry: its place and its size.
abbrev pub decoded_part : ℕ → ℕ × ℕ
decoded_part number = (place_bits number, size_bits number)
