-- What is read off the number of an answer is what the answer says: of every answer, whatever file and slices it comes from.
-- Rests on specs/Packing and specs/Unpacking, on reach's Words (the numbers of refusals), and on entries' Demands (the part of an entry is as long as its
-- span says).
use Prim.Native.Nat.{ℕ, ◌+◌, ◌*◌, ◌≤◌, ◌<◌}
use native.Mathlib.Omega.{arith}
use mathlib.Core.Path.{◌≡◌, refl, sym, ap, ◌∙◌}
use mathlib.Core.List.{List, [], flat_map}
use mathlib.Core.Option.{Option, none, some, none-ne-some, some-injective}
use lib.ListN.{length, take, drop}
use Rattle.reach.specs.declared.Refusal.{Refusal}
use Rattle.reach.specs.declared.Refusal.TheVariants.{ListFull}
use Rattle.reach.specs.declared.Outcome.{Outcome}
use Rattle.reach.specs.declared.Outcome.TheVariants.{Reached, Ended, Unfinished, Missing}
use Rattle.reach.specs.declared.Verdict.{Verdict}
use Rattle.reach.specs.declared.Verdict.TheVariants.{Found, Undecided, None}
use Rattle.reach.specs.Words.{number_of, refusal_named, steps_of}
use Rattle.reach.specs.Limits.{list_limit}
use Rattle.reach.specs.Search.{verdict}
use Rattle.reach.specs.Lists.{list_bytes, room_of, on_found, entry_span, entry_part}
use Rattle.reach.specs.Answers.{Checked, accepted, turned_back, SearchAnswer, no_search, complete, cut_short, listed, refusal_of, verdict_of, RunAnswer, no_run, ran}
use Rattle.lists.specs.Printouts.{TextAnswer, no_text, of_length}
use Rattle.reach.proofs.Words.{refusal_named_law, number_byte}
use Rattle.entries.specs.Spans.{part_place}
use Rattle.entries.proofs.Demands.{found_within}
use Rattle.packing.specs.Packing.{verdict_number, outcome_number, check_number, search_number, run_number, text_number, span_number, part_number}
use Rattle.packing.specs.Unpacking.{refusal_bits, case_bits, count_bits, step_bits, depth_bits, place_bits, size_bits, verdict_named, outcome_named, decoded_check, check_read, decoded_search, search_read, RunRead, decoded_run, run_read, TextRead, decoded_text, text_read, decoded_part}

-- The parts of a packed number are what was packed: each of the two lower ones fills a byte at most.
pub record Parted (number low middle count : ℕ) : Type 0 where
  pub low_is : refusal_bits number ≡ low
  pub middle_is : case_bits number ≡ middle
  pub count_is : count_bits number ≡ count

parted : (number low middle count : ℕ) → low < 256 → middle < 256 → number ≡ low + 256 * middle + 65536 * count → Parted number low middle count
parted number low middle count l m is = record { low_is = omega arith; middle_is = omega arith; count_is = omega arith }

-- The number of a case fits a byte, and names that case.

verdict_named_law : (v : Verdict) → (verdict_number v < 256) × (verdict_named (verdict_number v) ≡ some v)
unfolding verdict_named
verdict_named_law Found = (omega arith, refl)
verdict_named_law Undecided = (omega arith, refl)
verdict_named_law None = (omega arith, refl)

outcome_named_law : (o : Outcome) → (outcome_number o < 256) × (outcome_named (outcome_number o) (steps_of o) ≡ some o)
unfolding outcome_named
outcome_named_law (Reached n) = (omega arith, refl)
outcome_named_law (Ended n) = (omega arith, refl)
outcome_named_law (Unfinished n) = (omega arith, refl)
outcome_named_law (Missing n) = (omega arith, refl)

-- 0 names none
none_named : (refusal_named 0 ≡ none) × (verdict_named 0 ≡ none) × (outcome_named 0 0 ≡ none)
unfolding refusal_named verdict_named outcome_named
none_named = (refl, refl, refl)

-- The number of each answer, taken apart.

pub refused_parted : (why : Refusal) → Parted (number_of why) (number_of why) 0 0
refused_parted why = parted (number_of why) (number_of why) 0 0 (number_byte why) (omega arith) (omega arith)

-- a run's number has its steps and its depth in place of the count: the steps fill 16 bits at most, and the depth 8
abbrev pub FitsBits : RunAnswer → Type 0
FitsBits (no_run why) = Unit {0}
FitsBits (ran o deep) = (steps_of o < 65536) × (deep < 256)

pub record RanParted (number : ℕ) (o : Outcome) (deep : ℕ) : Type 0 where
  pub low_is : refusal_bits number ≡ 0
  pub middle_is : case_bits number ≡ outcome_number o
  pub steps_are : step_bits number ≡ steps_of o
  pub depth_is : depth_bits number ≡ deep

pub ran_parted : (o : Outcome) (deep : ℕ) → FitsBits (ran o deep) → RanParted (run_number (ran o deep)) o deep
ran_parted o deep small =
    let few = (outcome_named_law o).0 in
    record { low_is = omega arith; middle_is = omega arith; steps_are = omega arith; depth_is = omega arith }

pub check_reads : (a : Checked) → decoded_check (check_number a) ≡ check_read a
check_reads (accepted p) = none_named.0
check_reads (turned_back why) = rw (refused_parted why).low_is (refusal_named_law why)

pub search_reads : (a : SearchAnswer) → decoded_search (search_number a) ≡ search_read a
unfolding refusal_of verdict_of listed list_bytes flat_map
search_reads (no_search why) =
    let z = refused_parted why in
    rw (z.low_is, z.middle_is, z.count_is, refusal_named_law why, none_named.1)
search_reads (complete es) =
    let v = verdict_named_law (verdict es) in
    let z = parted (search_number (complete es)) 0 (verdict_number (verdict es)) (length (list_bytes es)) (omega arith) v.0 (omega arith) in
    rw (z.low_is, z.middle_is, z.count_is, none_named.0, v.1)
search_reads (cut_short es) =
    let z = parted (search_number (cut_short es)) (number_of ListFull) 0 (length (list_bytes es)) (omega arith) (omega arith) (omega arith) in
    rw (z.low_is, z.middle_is, z.count_is, refusal_named_law ListFull, none_named.1)

pub run_reads : (a : RunAnswer) → FitsBits a → decoded_run (run_number a) ≡ run_read a
run_reads (no_run why) small =
    let z = refused_parted why in
    let few = number_byte why in
    let steps : step_bits (number_of why) ≡ 0 = omega arith in
    let deep : depth_bits (number_of why) ≡ 0 = omega arith in
    rw (z.low_is, z.middle_is, steps, deep, refusal_named_law why, none_named.2)
run_reads (ran o deep) small =
    let z = ran_parted o deep small in
    rw (z.low_is, z.middle_is, z.steps_are, z.depth_is, none_named.0, (outcome_named_law o).1)

-- what is read off a run's number is the whole answer
pub read_one : (a b : RunAnswer) → run_read a ≡ run_read b → a ≡ b
read_one (no_run x) (no_run y) is = ap no_run (some-injective x y (ap (λ (t : RunRead). t.refusal) is))
read_one (no_run x) (ran o d) is = absurd (none-ne-some x (sym (ap (λ (t : RunRead). t.refusal) is)))
read_one (ran o d) (no_run y) is = absurd (none-ne-some y (ap (λ (t : RunRead). t.refusal) is))
read_one (ran o d) (ran u e) is =
    let same : o ≡ u = some-injective o u (ap (λ (t : RunRead). t.outcome) is) in
    let deep : d ≡ e = ap (λ (t : RunRead). t.depth) is in
    ap (λ (x : Outcome). ran x d) same ∙ ap (ran u) deep

pub text_reads : (a : TextAnswer) → decoded_text (text_number a) ≡ text_read a
text_reads (no_text why) =
    let z = refused_parted why in
    rw (z.low_is, z.count_is, refusal_named_law why)
text_reads (of_length n) =
    let z = parted (text_number (of_length n)) 0 0 n (omega arith) (omega arith) (omega arith) in
    rw (z.low_is, z.count_is, none_named.0)

-- and off a text's number
pub text_read_one : (a b : TextAnswer) → text_read a ≡ text_read b → a ≡ b
text_read_one (no_text x) (no_text y) is = ap no_text (some-injective x y (ap (λ (t : TextRead). t.refusal) is))
text_read_one (no_text x) (of_length n) is = absurd (none-ne-some x (sym (ap (λ (t : TextRead). t.refusal) is)))
text_read_one (of_length n) (no_text y) is = absurd (none-ne-some y (ap (λ (t : TextRead). t.refusal) is))
text_read_one (of_length m) (of_length n) is = ap of_length (ap (λ (t : TextRead). t.bytes) is)

module _ (l : List ℕ) (k : ℕ) where
  -- of the number for a span, and of the part of the list that it is
  abbrev Reads : Option (ℕ × ℕ) → Type 0
  Reads span =
      decoded_part (span_number (room_of (length l)) span)
      ≡ (on_found (room_of (length l)) (λ s. s.0) span, length (on_found [] (λ s. take s.1 (drop s.0 l)) span))

  counted : room_of (length l) ≤ list_limit
  unfolding room_of
  counted = omega arith

  reads : (span : Option (ℕ × ℕ)) → entry_span (take list_limit l) k 0 ≡ span → Reads span
  reads none there =
      let place : place_bits (room_of (length l)) ≡ room_of (length l) = omega (arith, counted) in
      let size : size_bits (room_of (length l)) ≡ 0 = omega (arith, counted) in
      rw (place, size)
  reads (some s) there =
      let (within, long) = found_within l k s.0 s.1 there in
      let place : place_bits (s.0 + 4294967296 * s.1) ≡ s.0 = omega (arith, within, counted) in
      let size : size_bits (s.0 + 4294967296 * s.1) ≡ s.1 = omega (arith, within, counted) in
      rw (place, size, long)

  pub part_reads : decoded_part (part_number l k) ≡ (part_place l k, length (entry_part l k))
  unfolding part_number part_place entry_part
  part_reads = reads (entry_span (take list_limit l) k 0) refl
