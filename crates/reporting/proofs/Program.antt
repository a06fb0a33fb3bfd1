-- The text that a program prints: it fits its slice whole; and of standard input the first bytes are enough, since a longer one is refused anyway.
-- Rests on Reports, on writing's Writing and on reach's Answers and Stages.
use Prim.Native.Nat.{ℕ, ◌≤◌, ◌<◌}
use native.Mathlib.Omega.{arith}
use mathlib.Core.Path.{◌≡◌, refl, sym, ap, ◌∙◌}
use mathlib.Core.Bool.{Bool, true, false}
use mathlib.Core.List.{List, ◌++◌}
use lib.ListN.{length, take, drop, length-take}
use lib.Dec.{leb}
use lib.Seq.{take_all, take-append_seam, drop-append_seam}
use borrow.Author.Tests.{leb-true, leb-false}
use Rattle.reach.specs.declared.Refusal.TheVariants.{OutOfRange}
use Rattle.reach.specs.Limits.{file_limit}
use Rattle.lists.specs.Text.{refusal_line}
use Rattle.reach.proofs.Answers.{search_turned_back}
use Rattle.reach.proofs.Stages.{size_refused}
use Rattle.writing.specs.Writing.{fronted, Fronts}
use Rattle.reporting.specs.Answers.{program_input, program_page, printed, Prints, FirstBytes}
use Rattle.reporting.proofs.Reports.{Refuses}

-- so many of the bytes that were read are the first `size`: as many where there are, else all
pub first_bytes : (l : List ℕ) {size r : ℕ} → (size ≤ length l → r ≡ size) → (length l ≤ size → r ≡ length l) → FirstBytes l size r
first_bytes l {size} {r} fewer all = elim (leb size (length l)) as (λ t. leb size (length l) ≡ t → FirstBytes l size r) [
  | true ↦ λ less. record { there = omega (arith, fewer (leb-true _ _ less), leb-true _ _ less); same = ap (λ (n : ℕ). take n l) (fewer (leb-true _ _ less)) }
  | false ↦ λ more. record {
    there = omega (arith, all (omega (arith, leb-false _ _ more)));
    same = take_all r l (omega (arith, all (omega (arith, leb-false _ _ more)))) ∙ sym (take_all size l (omega (arith, leb-false _ _ more)));
  }
] refl

-- a text that fits its slice stands there whole
module _ {before s after : List ℕ} {r : ℕ} (wrote : Fronts before s after r) (fits : length s ≤ length before) where
  standing : after ≡ s ++ drop (length s) before
  unfolding fronted
  standing = wrote.bytes ∙ ap (λ (front : List ℕ). front ++ drop (length s) before) (take_all (length before) s fits)

  pub front_whole : take r after ≡ s
  front_whole = rw (wrote.size, standing) (take-append_seam s (drop (length s) before))

  pub front_behind : drop r after ≡ drop r before
  front_behind = rw (wrote.size, standing) (drop-append_seam s (drop (length s) before))

-- What is printed of the bytes that count is what is printed of the first `size` bytes.
pub page_printed : {textFor : List ℕ → ℕ → ℕ → List ℕ} {input page page' : List ℕ} {size n r : ℕ} → FirstBytes input size n
    → Fronts page (printed textFor (take n input)) page' r → r ≤ program_page → program_page ≤ length page → length page' ≡ length page
    → Prints textFor input size page page' r
page_printed {textFor} first wrote short room kept = record {
  whole = front_whole wrote (omega (arith, wrote.size)) ∙ ap (printed textFor) first.same;
  behind = front_behind wrote (omega (arith, wrote.size));
  inside = omega arith;
}

module _ {textFor : List ℕ → ℕ → ℕ → List ℕ} (refuses : Refuses textFor) where
  -- 01: "file size" is refusal 3, and is tested first
  long_printed : (file : List ℕ) → file_limit < length file → printed textFor file ≡ refusal_line OutOfRange
  long_printed file long = refuses file _ _ OutOfRange (search_turned_back file _ _ OutOfRange (size_refused file long))

  -- of standard input the first 16,385 bytes are enough
  first_enough : (standard : List ℕ) → printed textFor (take program_input standard) ≡ printed textFor standard
  first_enough standard = all_or_long (leb (length standard) program_input) refl
    where
      all_or_long : (t : Bool) → leb (length standard) program_input ≡ t → printed textFor (take program_input standard) ≡ printed textFor standard
      all_or_long true all = ap (printed textFor) (take_all program_input standard (leb-true _ _ all))
      all_or_long false long =
          let more : program_input < length standard = leb-false (length standard) program_input long in
          long_printed (take program_input standard) (omega (arith, length-take program_input standard)) ∙ sym (long_printed standard (omega arith))

  -- Where a program hands on the first 16,385 bytes of standard input, or all of them where there are fewer, it prints the text of the whole input.
  pub prints_whole : (standard input : List ℕ) (size : ℕ) (page page' : List ℕ) (r : ℕ) → Prints textFor input size page page' r
      → take size input ≡ take program_input standard → take r page' ≡ printed textFor standard
  prints_whole standard input size page page' r call read = call.whole ∙ ap (printed textFor) read ∙ first_enough standard
